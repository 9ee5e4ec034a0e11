-- The last mention is gone from the notes too.
use Rattle.std.proofs.Common.{◌∷◌, [], ◌++◌, ◌+◌, ◌-◌, subst, sym}
use Rattle.od_extraction.specs.declared.mention.Mention.{Mention}
use Rattle.od_mentions.specs.States.{IsKept}
use Rattle.od_mentions.proofs.Kept.{kept-less}
use Rattle.od_mentions.proofs.state.State.drop_last.Goals as goal

pub invariant_of-self : goal.invariant_of-self
invariant_of-self c =
    let ms = c.pop.new.self.items in
    let m : Mention = c.in-Some.last in
    let total = c.self.inside.weight in
    let kept : IsKept (ms ++ m ∷ []) c.self.inside.index total = subst (λ all. IsKept all c.self.inside.index total) c.in-Some.ensures.items c.self.invariant in
    subst (λ n. IsKept ms c.unnote.new.self (total - (1 + n))) (sym c.len.ensures) (kept-less ms m c.self.inside.index c.unnote.new.self total kept c.unnote.ensures)
