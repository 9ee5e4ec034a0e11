-- Laws of histories: one entry more.
use Rattle.std.proofs.Common.{◌≡◌, List, [], ◌∷◌, ◌++◌, flat_map, refl, ap, ◌∙◌, append-nil}
use Rattle.std.proofs.lemmas.List.Sums.{fold-append}
use Rattle.std.proofs.lemmas.List.Concat.{flat_map-append}
use Rattle.od_pattern.specs.declared.grammar.Head.{Head}
use Rattle.od_command.specs.declared.history.Entry.{Entry}
use Rattle.od_session.specs.declared.object.OneThread.{OneThread}
use Rattle.od_text.specs.Lists.{points, points_after}
use Rattle.od_model.specs.Object.Effects.{effect}
use Rattle.od_model.specs.History.Legal.{state_after, IsNext, Legal}
use Rattle.od_model.specs.History.Lines.{Lines, lines_at, entry_lines}
use Rattle.od_text.proofs.Lists.{points-append, EachPoint-snoc, EachPoint-front, EachPoint-at}

module _ (start : OneThread) (heads : List Head) where
  pub state_after-start : state_after start heads [] ≡ start
  unfolding state_after
  state_after-start = refl

  pub state_after-snoc : (es : List Entry) (e : Entry) → state_after start heads (es ++ e ∷ []) ≡ effect heads (state_after start heads es) e
  unfolding state_after
  state_after-snoc es e = fold-append (effect heads) start es (e ∷ [])

  pub state_after-append : (es fs : List Entry) → state_after start heads (es ++ fs) ≡ state_after (state_after start heads es) heads fs
  unfolding state_after
  state_after-append es fs = fold-append (effect heads) start es fs

  pub Legal-snoc : (es : List Entry) (e : Entry) → Legal start heads es → IsNext start heads es e → Legal start heads (es ++ e ∷ [])
  Legal-snoc es e h k = EachPoint-snoc (IsNext start heads) es e h k

  pub Legal-front : (es fs : List Entry) → Legal start heads (es ++ fs) → Legal start heads es
  Legal-front es fs h = EachPoint-front (IsNext start heads) es fs h

  pub Legal-at : (es : List Entry) (e : Entry) (fs : List Entry) → Legal start heads (es ++ e ∷ fs) → IsNext start heads es e
  Legal-at es e fs h = EachPoint-at (IsNext start heads) es e fs h

  pub Lines-append : (es fs : List Entry) → Lines start heads (es ++ fs) ≡ Lines start heads es ++ flat_map (lines_at start heads) (points_after es fs)
  Lines-append es fs = ap (flat_map (lines_at start heads)) (points-append es fs) ∙ flat_map-append (lines_at start heads) (points es) (points_after es fs)

  pub Lines-snoc : (es : List Entry) (e : Entry) → Lines start heads (es ++ e ∷ []) ≡ Lines start heads es ++ entry_lines (state_after start heads es) e
  Lines-snoc es e = Lines-append es (e ∷ []) ∙ ap (λ l. Lines start heads es ++ l) (append-nil (entry_lines (state_after start heads es) e))
