use Rattle.std.proofs.Common.{ℕ, ◌≤◌, List, ap, ◌∙◌, length, subst}
use Rattle.od_text.specs.Lists.{Each}
use Rattle.od_turn.specs.Rule.{total, is_numbered, IsPassNumber, PassFits}
use Rattle.od_turn.specs.declared.view.PassView.{PassView}
use Rattle.od_turn.proofs.Ends.{pass_views-length, passes_free, passes_begin, marks_name}
use Rattle.od_turn.proofs.turnstile.Turnstile.close.Goals as goal

pub collect-seat-requires-clause-free : goal.collect-seat-requires-clause-free
collect-seat-requires-clause-free g c = passes_free _ _ _ c.requires.passes

pub finish-requires-clause-all : goal.finish-requires-clause-all
finish-requires-clause-all g c = ap (λ m. length m.0.passes) c.collect-seat.ensures.view ∙ (pass_views-length c.args.passes.items ∙ c.requires.all)

pub returns-clause-seen : goal.returns-clause-seen
returns-clause-seen g c =
    passes_begin _ _ _ _ _ c.requires.passes (subst (Each (PassFits _ _ _)) (ap (λ m. m.0.passes) c.collect-seat.ensures.view) c.finish.ensures.ends.seen)

pub returns-clause-named : goal.returns-clause-named
returns-clause-named g c =
    let callers : ℕ = c.args.self.table.shared.key.callers in
    marks_name _ callers _ _ _ _ c.requires.passes
    (subst (λ (ps : List PassView). (n : ℕ) → IsPassNumber callers n → 1 ≤ total (is_numbered n) ps) (ap (λ m. m.0.passes) c.collect-seat.ensures.view) c.finish.ensures.ends.numbers)
    c.finish.ensures.ends.added
