-- Due merges and answers on a session, worked out.
use Rattle.std.proofs.Common.{◌≡◌, ℕ, List, [], ◌∷◌, Option, Some, None, refl}
use Rattle.od_pattern.specs.declared.grammar.GrammarKind.TheVariants.{Query}
use Rattle.od_command.specs.declared.history.Command.TheVariants.{Step, Resume, Print, Release}
use Rattle.od_command.specs.declared.history.Reply.TheVariants.{Released, Refused}
use Rattle.od_command.specs.declared.history.Refusal.TheVariants.{NoSession, Busy, NotHeld, NoGrammar}
use Rattle.od_session.specs.declared.object.OneThread.{OneThread}
use Rattle.od_session.specs.Parts.{nothing}
use Rattle.od_model.specs.Object.Due.{due}
use Rattle.od_model.specs.Object.Effects.{effect_of}
use Rattle.od_model.specs.Object.Replies.{Replies}

-- ## Due merges

-- a size twice the next is not too small
settled : due (8 ∷ 4 ∷ 1 ∷ []) ≡ None
settled = refl

at_the_first : due (1 ∷ 1 ∷ []) ≡ Some 0
at_the_first = refl

-- the first place counts
behind_a_settled_one : due (4 ∷ 2 ∷ 2 ∷ 2 ∷ []) ≡ Some 1
behind_a_settled_one = refl

one_segment : due (1 ∷ []) ≡ None
one_segment = refl

-- ## Answers on a session

abbrev name : List ℕ
name = 115 ∷ []

-- one session without rounds, held so
abbrev held_by : Option ℕ → OneThread
held_by holder = record { docs = []; sessions = record { name = name; kind = Query; text = []; documents = 0; limit = 5; rounds = []; holder = holder } ∷ [] }

no_session : Replies [] nothing 1 (Step name) (Refused NoSession)
no_session = refl

-- what a caller holds is busy to another
busy : Replies [] (held_by (Some 1)) 2 (Print name) (Refused (Busy 1))
busy = refl

-- and none may take it, not even the caller that holds it
busy_to_its_holder : Replies [] (held_by (Some 1)) 1 (Resume name) (Refused (Busy 1))
busy_to_its_holder = refl

not_held : Replies [] (held_by None) 1 (Step name) (Refused NotHeld)
not_held = refl

-- nobody holds it, and the script has no grammar like its own
no_grammar : Replies [] (held_by None) 1 (Resume name) (Refused NoGrammar)
no_grammar = refl

released : Replies [] (held_by (Some 1)) 1 (Release name) Released
released = refl

nobody_holds_it_then : effect_of [] (held_by (Some 1)) 1 (Release name) Released ≡ held_by None
nobody_holds_it_then = refl
