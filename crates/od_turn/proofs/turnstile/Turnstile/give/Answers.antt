use Rattle.std.proofs.Common.{rules, ℕ, List, length, refl, ap, sym, ◌∙◌, arith, subst}
use Rattle.od_mark.specs.declared.mark.Mark.{Mark}
use Rattle.od_turn.specs.declared.view.SeatView.{SeatView}
use Rattle.od_turn.specs.Passes.{first_pass, held_marks, pass_view, AddsAtMostOne}
use Rattle.od_turn.proofs.Keeps.{raise_allowed_at, serve_allowed_at}
use Rattle.od_turn.proofs.Tells.{put_in, raised_to, badge_of, free_from, adds_length}
use Rattle.od_turn.proofs.turnstile.Turnstile.give.Goals as goal

pub fetch_add-requires : goal.fetch_add-requires
fetch_add-requires g c =
    let e = put_in _ _ _ c.args.turn.shape c.exchange-left.ensures.3 in
    let held : List Mark = held_marks c.args.turn.seat.me in
    let marks : List Mark = g.V.Counted.marks c.args.turn.value in
    let adds : AddsAtMostOne (first_pass c.args.turn.seat.me.0.passes).number held marks = subst (λ (n : ℕ). AddsAtMostOne n held marks) (sym c.requires.turn.2) c.requires.adds in
    let l = adds_length _ _ _ adds in
    let now = c.count-now.ensures in
    let counted = c.args.turn.counted in
    (search rules, search rules, raise_allowed_at _ _ _ _ _ _ _ _ _ _ _ _ _ e adds (omega arith) (omega arith))

pub fetch_add-requires-2 : goal.fetch_add-requires-2
fetch_add-requires-2 g c =
    let e = raised_to g.V.Counted.marks _ _ _ _ _ _ (put_in _ _ _ c.args.turn.shape c.exchange-left.ensures.3) c.fetch_add.ensures.2 in
    (search rules, search rules, serve_allowed_at _ _ _ _ _ _ _ _ _ _ _ _ e refl (c.requires.origin ∙ sym c.requires.turn.3))

pub returns-clause-pass : goal.returns-clause-pass
returns-clause-pass g c =
    let e = raised_to g.V.Counted.marks _ _ _ _ _ _ (put_in _ _ _ c.args.turn.shape c.exchange-left.ensures.3) c.fetch_add.ensures.2 in
    let b = badge_of _ _ _ _ _ _ _ e c.fetch_add-2.ensures.2 c.into_badge.ensures.2 in (
      search rules,
      free_from _ _ b,
      ap (λ (vs : List SeatView). (pass_view vs).number) b ∙ c.requires.turn.2,
      ap (λ (vs : List SeatView). (pass_view vs).origin) b ∙ c.requires.turn.3,
      c.count-now.ensures ∙ ap (λ (vs : List SeatView). length (pass_view vs).seen) (sym b),
    )

pub returns-clause-seen : goal.returns-clause-seen
returns-clause-seen g c =
    let e = raised_to g.V.Counted.marks _ _ _ _ _ _ (put_in _ _ _ c.args.turn.shape c.exchange-left.ensures.3) c.fetch_add.ensures.2 in
    let b = badge_of _ _ _ _ _ _ _ e c.fetch_add-2.ensures.2 c.into_badge.ensures.2 in
    ap (λ (vs : List SeatView). (pass_view vs).seen) b
