use Rattle.std.proofs.Common.{◌≡◌, ◌∙◌, ◌++◌, [], ◌∷◌, ap, rules}
use Rattle.od_constraint.specs.Rows.{stacked}
use Rattle.od_constraint.proofs.StackLemmas.{turned_top, stacked_more}
use Rattle.od_constraint.proofs.rows.turn_top.Goals as goal

pub returns-in-Some : goal.returns-in-Some
returns-in-Some c =
    let rest = c.pop.new.self.items in
    let old : c.args.rows.now.items ≡ rest ++ c.in-Some.top ∷ [] = search rules in
    let pushed : c.push.new.self.items ≡ rest ++ c.turned_row.result ∷ [] = search rules in
    turned_top c.args.rows.now.items rest c.in-Some.top _ c.turned_row.result.items old c.turned_row.ensures (ap stacked pushed ∙ stacked_more rest c.turned_row.result)
