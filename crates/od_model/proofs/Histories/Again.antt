-- Prints of the session of one name are alike, in one history and across a new start.
use Rattle.std.proofs.Common.{◌≡◌, inr, ℕ, List, ◌++◌, map, Some, sym, ap, ◌∙◌, subst}
use Rattle.std.specs.Prelude.{option_map}
use Rattle.od_pattern.specs.declared.grammar.Head.{Head}
use Rattle.od_command.specs.declared.history.Entry.{Entry}
use Rattle.od_session.specs.declared.object.SessionState.{SessionState}
use Rattle.od_session.specs.declared.object.OneThread.{OneThread}
use Rattle.od_session.specs.Parts.{IsAccepted, is_named, session_of}
use Rattle.od_text.specs.Lists.{Each}
use Rattle.od_text.proofs.Lists.{Each-find, find-passes, find-map}
use Rattle.od_model.specs.Object.Effects.{let_go}
use Rattle.od_model.specs.Object.Sound.{IsSound}
use Rattle.od_model.specs.History.Legal.{state_after, Legal}
use Rattle.od_model.specs.History.Prints.{Opening, IsOpened}
use Rattle.od_model.specs.History.Alike.{Shown, AreAlike, AreInOneHistory, AreAcrossStarts, let_all_go, opening_of}
use Rattle.od_model.proofs.Objects.Names.{same-name, any-found}
use Rattle.od_model.proofs.Histories.Openings.{opened-later, opened-after, IsOpenedSession}
use Rattle.od_model.proofs.Histories.Once.{one-opening, opened-there}

-- ## In one history

pub alike-in-one : (one other : Shown) → AreInOneHistory one other → AreAlike one other
alike-in-one one other h =
    let was : IsOpened one.start one.heads (one.seen ++ h.between) one.name one.shows.opening = opened-later one.start one.heads one.seen h.between one.name one.shows.opening one.shows.opened in
    let now : IsOpened other.start other.heads other.seen other.name one.shows.opening = rw (h.start, h.heads, h.name, sym h.seen) at was in
    one-opening other.start other.heads other.seen other.name one.shows.opening other.shows.opening h.legal now other.shows.opened

-- ## Across a new start

-- each session is found by its name among those that were let go
found-again : (name : List ℕ) (xs : List SessionState) (s : SessionState) → session_of name xs ≡ Some s → session_of name (map let_go xs) ≡ Some (let_go s)
found-again name xs s at = find-map (is_named name) let_go xs ∙ ap (option_map let_go) at

module _ (start : OneThread) (heads : List Head) (es : List Entry) (sound : IsSound start) (accepted : Each IsAccepted heads) (legal : Legal start heads es) (name : List ℕ) where
  -- what was opened in a history is there again at a new start
  there-again : (opening : Opening) → IsOpened start heads es name opening → (heads' : List Head) (fs : List Entry) → IsOpened (let_all_go (state_after start heads es)) heads' fs name opening
  there-again opening h heads' fs =
      let o = state_after start heads es in
      let (s, at) = any-found name o.sessions (opened-there start heads es name opening h) in
      let was : IsOpenedSession start heads es o.docs s = Each-find (IsOpenedSession start heads es o.docs) (is_named name) s o.sessions (opened-after start heads accepted es sound legal) at in
      let called : s.name ≡ name = same-name s.name name (find-passes (is_named name) s o.sessions at) in
      let same : opening ≡ opening_of s o.docs = one-opening start heads es name opening (opening_of s o.docs) legal h (subst (λ n. IsOpened start heads es n (opening_of s o.docs)) called was) in
      inr (record { session = let_go s; is = found-again name o.sessions s at; opening_is = same })

pub alike-across : (one other : Shown) → AreAcrossStarts one other → AreAlike one other
alike-across one other h =
    let es = one.seen ++ h.more in
    let was : IsOpened one.start one.heads es one.name one.shows.opening = opened-later one.start one.heads one.seen h.more one.name one.shows.opening one.shows.opened in
    let again : IsOpened (let_all_go (state_after one.start one.heads es)) other.heads other.seen one.name one.shows.opening = there-again one.start one.heads es h.first.sound h.first.accepted h.first.legal one.name one.shows.opening was other.heads other.seen in
    let now : IsOpened other.start other.heads other.seen other.name one.shows.opening = rw (sym h.again, h.name) at again in
    one-opening other.start other.heads other.seen other.name one.shows.opening other.shows.opening h.second now other.shows.opened
