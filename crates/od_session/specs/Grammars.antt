-- The grammars of a script's heads, one after another.
use Rattle.std.specs.Prelude.{◌≡◌, ◌⊎◌, ℕ, ◌-◌, List, [], ◌∷◌, ◌++◌, length, fold, Option, Some, None, Ok, Err, IsSome, Bool, not, if◌then◌else◌}
use Rattle.od_pattern.specs.declared.grammar.Head.{Head}
use Rattle.od_pattern.specs.declared.grammar.GrammarKind.{GrammarKind}
use Rattle.od_pattern.specs.declared.grammar.Grammar.{Grammar}
use Rattle.od_rule_text.specs.declared.grammar_fault.GrammarFault.{GrammarFault}
use Rattle.od_rule_text.specs.declared.grammar_fault.GrammarFault.TheVariants.{RegexRefused}
use Rattle.od_rule_text.specs.declared.limits.TheConstants.{GRAMMAR_EXPRESSIONS}
use Rattle.od_rule_text.specs.Expressions.{body_expressions, expressions_of}
use Rattle.od_rule_text.specs.Grammars.{Answer}
use Rattle.od_rule_text.specs.Texts.{is_among}
use Rattle.od_grammars.specs.Grammars.{grammar_read, grammar_made}

-- a value, where there is one
abbrev pub value_in : {X : Type 0} → Answer X → Option X
value_in (Ok x) = Some x
value_in (Err fault) = None

-- the grammar that a text is, where it has all room for regular expressions
unfoldable pub grammar_of : GrammarKind → List ℕ → Option Grammar
grammar_of kind text = value_in (grammar_read kind text GRAMMAR_EXPRESSIONS)

-- the different regular expressions of a grammar
abbrev pub expressions_in : Grammar → List (List ℕ)
expressions_in grammar = expressions_of body_expressions grammar.rules

-- expressions that differ, and one more where it is none of them
abbrev pub with_new : List (List ℕ) → List ℕ → List (List ℕ)
with_new seen x = if is_among seen x then seen else seen ++ x ∷ []

-- the room that these leave
abbrev pub room_with : List (List ℕ) → ℕ
room_with seen = GRAMMAR_EXPRESSIONS - length seen

-- with those of a grammar more, where there is one
abbrev pub seen_with : List (List ℕ) → Option Grammar → Option (List (List ℕ))
seen_with seen None = None
seen_with seen (Some grammar) = Some (fold with_new seen (expressions_in grammar))

-- with those of a head more, whose grammar has the room that these leave
abbrev pub head_read : Option (List (List ℕ)) → Head → Option (List (List ℕ))
head_read None head = None
head_read (Some seen) head = seen_with seen (value_in (grammar_read head.kind head.text (room_with seen)))

-- the different expressions of the grammars of heads, of which each has the room that the earlier
-- ones leave; nothing where one of them is no grammar
abbrev pub heads_read : List Head → Option (List (List ℕ))
heads_read heads = fold head_read (Some []) heads

-- the text of each head is a grammar, for whose expressions there is room
abbrev pub AreRead : List Head → Type 0
AreRead heads = IsSome (heads_read heads)

-- a maker that refused some expressions accepts the others
abbrev pub accepts_all_but : List (List ℕ) → List ℕ → Bool
accepts_all_but refused expression = not (is_among refused expression)

-- the fault tells an expression that was refused
abbrev pub TellsRefusal : GrammarFault → Type 0
TellsRefusal (RegexRefused rule number) = Unit {0}
TellsRefusal fault = ⊥

-- a maker refused nothing, or one expression alone, which the fault tells
abbrev pub RefusedAsTold : GrammarFault → List (List ℕ) → Type 0
RefusedAsTold fault refused =
    (refused ≡ []) ⊎ ((expression : List ℕ) × (refused ≡ expression ∷ []) × TellsRefusal fault)

-- the first head whose grammar cannot be made where a maker refused these expressions, and why:
-- the texts of the earlier heads are grammars, and of their expressions none was refused
pub record IsFirstRefused (refused : List (List ℕ)) (heads : List Head) (head : Head) (fault : GrammarFault) : Type 0 where
  pub front : List Head
  pub rest : List Head
  pub parts : heads ≡ front ++ head ∷ rest
  pub seen : List (List ℕ)
  pub front_read : heads_read front ≡ Some seen
  pub fault_is : grammar_made (accepts_all_but refused) head.kind head.text (room_with seen) ≡ Err fault
  pub told : RefusedAsTold fault refused
