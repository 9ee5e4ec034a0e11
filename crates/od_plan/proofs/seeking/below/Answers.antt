use Rattle.std.proofs.Common.{◌≡◌, ◌+◌, ◌-◌, ◌≤◌, ◌<◌, ◌++◌, ◌∷◌, [], ℕ, List, filter, sym, ap, ◌∙◌, subst, arith, append_assoc, append-nil}
use Rattle.std.specs.Prelude.{Some, None, slice_get}
use Rattle.std.specs.List.{range_with_len}
use Rattle.od_search.specs.Posted.{has_posting}
use Rattle.od_plan.proofs.Walks.{TellsFrom, tells-on, walk-ends, walk-takes, before-head, nothing-there, head-later}
use Rattle.od_plan.proofs.seeking.below.Goals as goal

pub returns-in-None : goal.returns-in-None
returns-in-None g c =
    let whole = g.C.Cursor.rest c.args.cursor.now in
    let pairs = g.C.Cursor.rest c.skip_to.new.self in
    let next = c.loop-next.next in
    let found = c.loop-next.found.items in
    let tells : TellsFrom whole pairs next = subst (λ ps. TellsFrom whole ps next) (sym c.skip_to.ensures) (tells-on whole (g.C.Cursor.rest c.loop-next.cursor) next c.loop-next.invariant.tells) in
    let none : slice_get pairs 0 ≡ None = sym c.at.ensures.first ∙ c.in-None.is in
    sym (append-nil found)
    ∙ ap (λ (xs : List ℕ). found ++ xs) (sym (walk-ends whole pairs next c.args.size c.loop-next.invariant.within tells (λ y lt. nothing-there y pairs none)))
    ∙ c.loop-next.invariant.all

pub returns-then-sentence-size : goal.returns-then-sentence-size
returns-then-sentence-size g c =
    let whole = g.C.Cursor.rest c.args.cursor.now in
    let pairs = g.C.Cursor.rest c.skip_to.new.self in
    let next = c.loop-next.next in
    let found = c.loop-next.found.items in
    let p : ℕ × ℕ = (c.in-Some.sentence, c.in-Some.field-0-1) in
    let tells : TellsFrom whole pairs next = subst (λ ps. TellsFrom whole ps next) (sym c.skip_to.ensures) (tells-on whole (g.C.Cursor.rest c.loop-next.cursor) next c.loop-next.invariant.tells) in
    let head : slice_get pairs 0 ≡ Some p = sym c.at.ensures.first ∙ c.in-Some.is in
    sym (append-nil found)
    ∙ ap (λ (xs : List ℕ). found ++ xs) (sym (walk-ends whole pairs next c.args.size c.loop-next.invariant.within tells (λ y lt. before-head y pairs p c.at.ensures.ascends head (omega (arith, lt, c.if-sentence-size.true)))))
    ∙ c.loop-next.invariant.all

pub loop-next-smaller : goal.loop-next-smaller
loop-next-smaller g c =
    let pairs = g.C.Cursor.rest c.skip_to.new.self in
    let next = c.loop-next.next in
    let p : ℕ × ℕ = (c.in-Some.sentence, c.in-Some.field-0-1) in
    let head : slice_get pairs 0 ≡ Some p = sym c.at.ensures.first ∙ c.in-Some.is in
    let later : next ≤ c.in-Some.sentence = head-later next (g.C.Cursor.rest c.loop-next.cursor) p (subst (λ ps. slice_get ps 0 ≡ Some p) c.skip_to.ensures head) in
    omega (arith, later, c.if-sentence-size.false)

pub loop-next-preserved : goal.loop-next-preserved
loop-next-preserved g c =
    let whole = g.C.Cursor.rest c.args.cursor.now in
    let pairs = g.C.Cursor.rest c.skip_to.new.self in
    let next = c.loop-next.next in
    let size = c.args.size in
    let found = c.loop-next.found.items in
    let at = c.in-Some.sentence in
    let p : ℕ × ℕ = (at, c.in-Some.field-0-1) in
    let tells : TellsFrom whole pairs next = subst (λ ps. TellsFrom whole ps next) (sym c.skip_to.ensures) (tells-on whole (g.C.Cursor.rest c.loop-next.cursor) next c.loop-next.invariant.tells) in
    let head : slice_get pairs 0 ≡ Some p = sym c.at.ensures.first ∙ c.in-Some.is in
    let later : next ≤ at = head-later next (g.C.Cursor.rest c.loop-next.cursor) p (subst (λ ps. slice_get ps 0 ≡ Some p) c.skip_to.ensures head) in
    let lt : at < size = omega (arith, c.if-sentence-size.false) in
    let more : List ℕ = filter (has_posting whole) (range_with_len (at + 1) (size - (at + 1))) in
    record {
      within = omega (arith, lt);
      tells = λ y le. tells y (omega (arith, le, later));
      all = ap (λ (xs : List ℕ). xs ++ more) c.in_ok-push-in-Some.ensures.items
          ∙ append_assoc found (at ∷ []) more
          ∙ ap (λ (xs : List ℕ). found ++ xs) (sym (walk-takes whole pairs next size p later lt tells c.at.ensures.ascends head))
          ∙ c.loop-next.invariant.all;
    }
