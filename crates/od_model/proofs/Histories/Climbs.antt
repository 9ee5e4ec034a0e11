-- A step that goes on adds a list to its session, which has at most as many as a session may have.
use Rattle.std.proofs.Common.{◌≡◌, ℕ, ◌+◌, ◌≤◌, List, [], ◌∷◌, length, find, Option, Some, None, Bool, true, false, cond, refl, sym, ap, ◌∙◌, arith, length-append}
use Rattle.std.specs.Prelude.{option_map}
use Rattle.od_document.specs.declared.doc.Doc.{Doc}
use Rattle.od_pattern.specs.declared.grammar.Head.{Head}
use Rattle.od_command.specs.declared.history.Command.TheVariants.{Step}
use Rattle.od_command.specs.declared.history.Reply.{Reply}
use Rattle.od_command.specs.declared.history.Reply.TheVariants.{Stepped}
use Rattle.od_session.specs.declared.object.SessionState.{SessionState}
use Rattle.od_session.specs.declared.object.OneThread.{OneThread}
use Rattle.od_text.specs.Lists.{Each}
use Rattle.od_session.specs.declared.object.TheConstants.{SESSION_ROUNDS}
use Rattle.od_session.specs.Parts.{rounds_in, round_count, is_named, session_of, round_at}
use Rattle.od_model.specs.Object.Replies.{Replies}
use Rattle.od_model.specs.Object.Effects.{change, change_one, stepped, found_of, effect_of}
use Rattle.od_model.specs.History.Orders.{GoesOn}
use Rattle.od_text.proofs.Lists.{find-map, find-passes, Each-find}
use Rattle.od_model.proofs.Objects.Answered.{Answered, answered}
use Rattle.od_model.specs.Object.Sound.{IsSound, IsSoundSession}

few-of : (docs : List Doc) (name : List ℕ) (sessions : List SessionState) (found : Option SessionState) → Each (IsSoundSession docs) sessions → session_of name sessions ≡ found → rounds_in found ≤ SESSION_ROUNDS
few-of docs name sessions None h e = omega arith
few-of docs name sessions (Some s) h e = let own = Each-find (IsSoundSession docs) (is_named name) s sessions h e in let few = own.few in let limit = own.hundred in omega (arith, few, limit)

pub round_count-few : (name : List ℕ) (o : OneThread) → IsSound o → round_count name o ≤ SESSION_ROUNDS
round_count-few name o h = few-of o.docs name o.sessions (session_of name o.sessions) h.sound refl

one_named : (docs : List Doc) (name : List ℕ) (t : SessionState) (b : Bool) → is_named name t ≡ b → is_named name (cond b (stepped docs t) t) ≡ b
one_named docs name t true e = e
one_named docs name t false e = e

find-named : (docs : List Doc) (name : List ℕ) (xs : List SessionState) → find (λ t. is_named name (change_one name (stepped docs) t)) xs ≡ find (is_named name) xs
find-named docs name [] = refl
find-named docs name (x ∷ xs) = rw (one_named docs name x (is_named name x) refl, find-named docs name xs) refl

-- the session of the name, in the changed list, is the changed one
session-changed : (docs : List Doc) (name : List ℕ) (xs : List SessionState) → session_of name (change name (stepped docs) xs) ≡ option_map (change_one name (stepped docs)) (session_of name xs)
session-changed docs name xs = find-map (is_named name) (change_one name (stepped docs)) xs ∙ ap (option_map (change_one name (stepped docs))) (find-named docs name xs)

longer : (docs : List Doc) (s : SessionState) (b : Bool) → b ≡ true → length (cond b (stepped docs s) s).rounds ≡ length s.rounds + 1
longer docs s true e = length-append s.rounds (found_of (round_at docs s) ∷ [])
longer docs s false e = absurd (cc)

grown : (docs : List Doc) (name : List ℕ) (xs : List SessionState) (s : SessionState) → session_of name xs ≡ Some s → rounds_in (session_of name (change name (stepped docs) xs)) ≡ rounds_in (session_of name xs) + 1
grown docs name xs s e = ap rounds_in (session-changed docs name xs ∙ ap (option_map (change_one name (stepped docs))) e) ∙ longer docs s (is_named name s) (find-passes (is_named name) s xs e) ∙ ap (λ f. rounds_in f + 1) (sym e)

climbs-by : (heads : List Head) (o : OneThread) (caller : ℕ) (name : List ℕ) (reply : Reply) → Answered heads o caller (Step name) reply → GoesOn reply → round_count name (effect_of heads o caller (Step name) reply) ≡ round_count name o + 1
climbs-by heads o caller name (Stepped round added phase) a goes = grown o.docs name o.sessions a.holding.session a.holding.there
climbs-by heads o caller name reply a goes = absurd goes

-- a step that goes on adds a list
pub step-climbs : (heads : List Head) (o : OneThread) (caller : ℕ) (name : List ℕ) (reply : Reply) → Replies heads o caller (Step name) reply → GoesOn reply → round_count name (effect_of heads o caller (Step name) reply) ≡ round_count name o + 1
step-climbs heads o caller name reply r goes = climbs-by heads o caller name reply (answered heads o caller (Step name) reply r) goes
