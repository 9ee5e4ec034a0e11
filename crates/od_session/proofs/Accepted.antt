-- Heads whose texts are grammars.
use Rattle.std.proofs.Common.{◌≡◌, ℕ, ◌≤◌, List, [], ◌∷◌, fold, Option, Some, None, Ok, Err, refl, ap, subst, arith}
use Rattle.std.specs.Prelude.{IsSome}
use Rattle.od_pattern.specs.declared.grammar.Grammar.{Grammar}
use Rattle.od_pattern.specs.declared.grammar.GrammarKind.{GrammarKind}
use Rattle.od_pattern.specs.declared.grammar.Head.{Head}
use Rattle.od_rule_text.specs.declared.limits.TheConstants.{GRAMMAR_EXPRESSIONS}
use Rattle.od_rule_text.specs.Grammars.{Answer}
use Rattle.od_rule_text.proofs.GrammarsRead.{keeps_with_more_room}
use Rattle.od_grammars.specs.Grammars.{patterns, grammar_read}
use Rattle.od_text.specs.Lists.{Each}
use Rattle.od_session.specs.Grammars.{value_in, grammar_of, seen_with, room_with, head_read, AreRead}
use Rattle.od_session.specs.Parts.{IsAccepted}

-- what is read with less room is the grammar of the text
pub grammar_of-read : (kind : GrammarKind) (text : List ℕ) (room : ℕ) (grammar : Grammar) →
    room ≤ GRAMMAR_EXPRESSIONS → grammar_read kind text room ≡ Ok grammar → grammar_of kind text ≡ Some grammar
unfolding grammar_of
grammar_of-read kind text room grammar le read =
    ap value_in (keeps_with_more_room patterns kind text room GRAMMAR_EXPRESSIONS grammar le read)

-- so a head is accepted behind others, where it is read
accepted_as : (head : Head) (seen : List (List ℕ)) (answer : Answer Grammar) →
    grammar_read head.kind head.text (room_with seen) ≡ answer → IsSome (seen_with seen (value_in answer)) → IsAccepted head
accepted_as head seen (Ok grammar) is some =
    (grammar, grammar_of-read head.kind head.text (room_with seen) grammar (omega arith) is)
accepted_as head seen (Err fault) is some = absurd (cc)

-- where nothing is read, nothing is read of the others
none-read : (heads : List Head) → fold head_read None heads ≡ None
none-read [] = refl
none-read (head ∷ heads) = none-read heads

accepted_from : (state : Option (List (List ℕ))) (heads : List Head) → IsSome (fold head_read state heads) → IsSome state × Each IsAccepted heads
accepted_from state [] some = (some, tt)
accepted_from None (head ∷ heads) some =
    let none : IsSome {T = List (List ℕ)} None = subst IsSome (none-read heads) some in absurd (cc)
accepted_from (Some seen) (head ∷ heads) some =
    let rest = accepted_from (head_read (Some seen) head) heads some in
    (refl, (accepted_as head seen (grammar_read head.kind head.text (room_with seen)) refl rest.0, rest.1))

-- heads that are read are accepted
pub all-accepted : (heads : List Head) → AreRead heads → Each IsAccepted heads
all-accepted heads read = (accepted_from (Some []) heads read).1
