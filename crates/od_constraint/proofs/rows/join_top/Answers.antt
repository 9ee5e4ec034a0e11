use Rattle.std.proofs.Common.{◌≡◌, ◌∙◌, ◌++◌, [], ◌∷◌, List, Bool, ap, rules}
use Rattle.od_constraint.specs.Rows.{joined, zipped, stacked}
use Rattle.od_constraint.proofs.StackLemmas.{joined_two, stacked_more}
use Rattle.od_constraint.proofs.rows.join_top.Goals as goal

pub returns-in-Some-pop : goal.returns-in-Some-pop
returns-in-Some-pop c =
    let top = c.in-Some.top in
    let under = c.in-Some-pop.under in
    let f : Bool → Bool → Bool = joined c.args.both in
    let rest = c.pop-in-Some.new.self.items in
    let old : c.args.rows.now.items ≡ c.pop.new.self.items ++ top ∷ [] = search rules in
    let next : c.pop.new.self.items ≡ rest ++ under ∷ [] = search rules in
    let pushed : c.push-in-Some-pop.new.self.items ≡ rest ++ c.joined_row.result ∷ [] = search rules in
    joined_two f c.args.rows.now.items c.pop.new.self.items rest top under _ c.joined_row.result.items old next
    (c.joined_row.ensures ∙ ap (λ (xs : List Bool). zipped f xs under.items) c.deref.ensures.value)
    (ap stacked pushed ∙ stacked_more rest c.joined_row.result)
