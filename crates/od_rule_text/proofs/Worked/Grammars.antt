-- Grammars, worked out, with small readings of patterns.
use Rattle.std.specs.Prelude.{◌≡◌, ℕ, refl, ◌==◌, not, if◌then◌else◌, List, [], ◌∷◌, ◌++◌, map, Option, Some, None, Result, Ok, Err, codes}
use Rattle.std.specs.List.{slice_split}
use Rattle.std.specs.Str.{bytes_eq}
use Rattle.od_pattern.specs.declared.grammar.GrammarKind.TheVariants.{RuleFile, Query}
use Rattle.od_pattern.specs.declared.grammar.Grammar.{Grammar}
use Rattle.od_pattern.specs.declared.pattern.Field.TheVariants.{Norm}
use Rattle.od_pattern.specs.declared.pattern.Value.TheVariants as value
use Rattle.od_pattern.specs.declared.pattern.Constraint as constraint
use Rattle.od_pattern.specs.declared.pattern.Surface as surface
use Rattle.od_pattern.specs.declared.pattern.Surface.{Surface}
use Rattle.od_pattern.specs.declared.path.Path as path
use Rattle.od_pattern.specs.declared.rule.Argument.{Argument}
use Rattle.od_pattern.specs.declared.rule.EventRule.{EventRule}
use Rattle.od_pattern.specs.declared.rule.Hop.{Hop}
use Rattle.od_pattern.specs.declared.rule.HopPart.{HopPart}
use Rattle.od_pattern.specs.declared.rule.Body.TheVariants.{Basic, Event}
use Rattle.od_pattern.specs.declared.rule.Many.TheVariants.{One}
use Rattle.od_language.specs.declared.pattern_fault.PatternKind.{PatternKind}
use Rattle.od_language.specs.declared.pattern_fault.PatternKind.TheVariants.{Lex, Expected}
use Rattle.od_rule_text.specs.declared.rule_file.YamlKind.TheVariants.{BadKey}
use Rattle.od_rule_text.specs.declared.grammar_fault.GrammarFault.{GrammarFault}
use Rattle.od_rule_text.specs.declared.grammar_fault.GrammarFault.TheVariants.{Limit, Yaml, UnknownKey, MissingKey, BadName, SameName, BadLabel, BadType, BadPriority, UnknownVar, VarCycle, Pattern, UnknownLabel, RegexRefused}
use Rattle.od_rule_text.specs.declared.grammar_fault.GrammarLimit.TheVariants.{Regexes}
use Rattle.od_rule_text.specs.Texts.{begins_with}
use Rattle.od_rule_text.specs.RuleFiles.{rule_file_of}
use Rattle.od_rule_text.specs.Expansion.{expanded}
use Rattle.od_rule_text.specs.Priorities.{priority_of}
use Rattle.od_rule_text.specs.Labels.{surface_labels}
use Rattle.od_rule_text.specs.Expressions.{constraint_expressions, surface_expressions, path_expressions, body_expressions}
use Rattle.od_rule_text.specs.Grammars.{Patterns, grammar_read, grammar_made}

-- ## Small readings of patterns: words between single blanks, of which `@name` is a label and `/text` an expression

abbrev word : List ℕ → Surface
word [] = surface.Token constraint.Any
word (c ∷ text) =
    if c == 64 then surface.Label text else
    surface.Token (constraint.Is Norm (if c == 47 then value.Regex text else value.Plain (c ∷ text)))

abbrev behind : List ℕ → HopPart
behind text = record { path = path.Along None; surface = word text }

abbrev hop_with : List (List ℕ) → Result Hop (ℕ × PatternKind)
hop_with [] = Err (0, Expected)
hop_with (first ∷ rest) = Ok (record { first = word first; rest = map behind rest })

-- a pattern that begins with `%` has a fault
abbrev hop_of : List ℕ → Result Hop (ℕ × PatternKind)
hop_of text = if begins_with 37 text then Err (0, Lex) else hop_with (slice_split (λ b. b == 32) text)

-- a trigger, and then arguments whose labels are x and whose paths have expressions
abbrev argument : List ℕ → Argument
argument text = record { name = text; label = Some (codes "x"); many = One; path = path.Along (Some (value.Regex text)) }

abbrev event_with : List (List ℕ) → Result EventRule (ℕ × PatternKind)
event_with [] = Err (0, Expected)
event_with (trigger ∷ arguments) = Ok (record { trigger = word trigger; arguments = map argument arguments })

abbrev event_of : List ℕ → Result EventRule (ℕ × PatternKind)
event_of text = event_with (slice_split (λ b. b == 32) text)

abbrev patterns : Patterns
patterns = record { hop_of = hop_of; event_of = event_of; expressions_in = body_expressions }

-- the fault of a text, where it has one
abbrev fault_in : Result Grammar GrammarFault → Option GrammarFault
fault_in (Ok grammar) = None
fault_in (Err fault) = Some fault

-- with room for so many expressions, and a maker that refuses one
fault_with : ℕ → List ℕ → List ℕ → Option GrammarFault
fault_with room refused text = fault_in (grammar_made patterns (λ x. not (bytes_eq x refused)) RuleFile text room)

-- with room for all, and a maker that refuses none of the texts below
fault_of : List ℕ → Option GrammarFault
fault_of text = fault_with 64 (codes "refused") text

-- what computes them
computing : Unit {0}
unfolding fault_of fault_with grammar_read rule_file_of expanded priority_of surface_labels constraint_expressions surface_expressions path_expressions
computing = tt

-- ## One rule

-- an item of the label x and the type basic
abbrev item : List ℕ → List ℕ → List ℕ
item name pattern = codes "- name: " ++ name ++ codes "\n  label: x\n  type: basic\n  pattern: \"" ++ pattern ++ codes "\"\n"

abbrev rules : List ℕ → List ℕ
rules items = codes "rules:\n" ++ items

accepted : fault_of (rules (item (codes "a") (codes "b"))) ≡ None
unfolding computing
accepted = refl

no_rule_file : fault_of (codes "rules:\n-\n") ≡ Some (Yaml 2 BadKey)
unfolding computing
no_rule_file = refl

unknown_key : fault_of (codes "rules:\n- name: \"\"\n  colour: red\n") ≡ Some (UnknownKey 1)
unfolding computing
unknown_key = refl

missing_key : fault_of (codes "rules:\n- name: \"\"\n  label: x\n  type: basic\n") ≡ Some (MissingKey 1)
unfolding computing
missing_key = refl

empty_name : fault_of (rules (item (codes "\"\"") (codes "%"))) ≡ Some (BadName 1)
unfolding computing
empty_name = refl

bad_label : fault_of (codes "rules:\n- name: a\n  label: x y\n  type: other\n  pattern: b\n") ≡ Some (BadLabel 1)
unfolding computing
bad_label = refl

bad_type : fault_of (codes "rules:\n- name: a\n  label: x\n  type: other\n  pattern: b\n  priority: 01\n") ≡ Some (BadType 1)
unfolding computing
bad_type = refl

bad_priority : fault_of (codes "rules:\n- name: a\n  label: x\n  type: basic\n  pattern: ${b}\n  priority: 3-2\n") ≡ Some (BadPriority 1)
unfolding computing
bad_priority = refl

unknown_variable : fault_of (rules (item (codes "a") (codes "%${b}"))) ≡ Some (UnknownVar 1)
unfolding computing
unknown_variable = refl

variable_cycle : fault_of (codes "vars:\n a: ${b}\n b: ${a}\n" ++ rules (item (codes "a") (codes "${a}"))) ≡ Some (VarCycle (codes "a"))
unfolding computing
variable_cycle = refl

bad_pattern : fault_of (codes "vars:\n b: \"%\"\n" ++ rules (item (codes "a") (codes "${b}"))) ≡ Some (Pattern 1 0 Lex)
unfolding computing
bad_pattern = refl

-- a variable that no pattern reaches is never tested
unreached_variable : fault_of (codes "vars:\n b: ${c}\n" ++ rules (item (codes "a") (codes "d"))) ≡ None
unfolding computing
unreached_variable = refl

-- ## Several rules

same_name : fault_of (rules (item (codes "a") (codes "b") ++ item (codes "a") (codes "%"))) ≡ Some (SameName 2)
unfolding computing
same_name = refl

-- each rule is tested to the end before the next one
pattern_before_name : fault_of (rules (item (codes "a") (codes "%") ++ item (codes "\"\"") (codes "b"))) ≡ Some (Pattern 1 0 Lex)
unfolding computing
pattern_before_name = refl

-- unknown labels come after all patterns
label_of_no_rule : fault_of (rules (item (codes "a") (codes "@y") ++ item (codes "b") (codes "c"))) ≡ Some (UnknownLabel 1)
unfolding computing
label_of_no_rule = refl

pattern_before_label : fault_of (rules (item (codes "a") (codes "@y") ++ item (codes "b") (codes "%"))) ≡ Some (Pattern 2 0 Lex)
unfolding computing
pattern_before_label = refl

label_of_a_later_rule : fault_of (rules (item (codes "a") (codes "@x"))) ≡ None
unfolding computing
label_of_a_later_rule = refl

-- ## Expressions

-- two rules with the expressions e, f and e, g
abbrev with_expressions : List ℕ
with_expressions = rules (item (codes "a") (codes "/e /f") ++ item (codes "b") (codes "/e b /g"))

room_for_three : fault_with 3 (codes "refused") with_expressions ≡ None
unfolding computing
room_for_three = refl

room_for_two : fault_with 2 (codes "f") with_expressions ≡ Some (Limit Regexes 64)
unfolding computing
room_for_two = refl

-- an unknown label comes before expressions without room
label_before_room : fault_with 0 (codes "refused") (rules (item (codes "a") (codes "/e @y"))) ≡ Some (UnknownLabel 1)
unfolding computing
label_before_room = refl

second_refused : fault_with 3 (codes "f") with_expressions ≡ Some (RegexRefused 1 2)
unfolding computing
second_refused = refl

third_refused : fault_with 3 (codes "g") with_expressions ≡ Some (RegexRefused 2 3)
unfolding computing
third_refused = refl

-- of an event the trigger first, then the arguments
abbrev event_file : List ℕ
event_file = codes "rules:\n- name: a\n  label: x\n  type: event\n  pattern: /e f g\n"

trigger_refused : fault_with 3 (codes "e") event_file ≡ Some (RegexRefused 1 1)
unfolding computing
trigger_refused = refl

argument_refused : fault_with 3 (codes "g") event_file ≡ Some (RegexRefused 1 3)
unfolding computing
argument_refused = refl

-- ## Values

-- two rules with a variable; the second has a priority
file : grammar_read patterns RuleFile
    (codes "vars:\n v: y\nrules:\n" ++ item (codes "a") (codes "x${v}") ++ codes "- name: b\n  priority: 2-3\n  label: z\n  type: event\n  pattern: \"@z\"\n") 0
    ≡ Ok (record {
      kind = RuleFile;
      text = codes "vars:\n v: y\nrules:\n" ++ item (codes "a") (codes "x${v}") ++ codes "- name: b\n  priority: 2-3\n  label: z\n  type: event\n  pattern: \"@z\"\n";
      rules = (record { name = codes "a"; label = codes "x"; priority = record { first = 1; last = None }; body = Basic (record { first = word (codes "xy"); rest = [] }) })
          ∷ (record { name = codes "b"; label = codes "z"; priority = record { first = 2; last = Some 3 }; body = Event (record { trigger = word (codes "@z"); arguments = [] }) }) ∷ [];
    })
unfolding computing
file = refl

-- a query is one rule
query : grammar_read patterns Query (codes "dogs bark") 0
    ≡ Ok (record {
      kind = Query;
      text = codes "dogs bark";
      rules = (record { name = codes "query"; label = codes "Query"; priority = record { first = 1; last = None }; body = Basic (record { first = word (codes "dogs"); rest = behind (codes "bark") ∷ [] }) }) ∷ [];
    })
unfolding computing
query = refl

-- without variables
variable_in_a_query : grammar_read patterns Query (codes "${v}") 0 ≡ Err (UnknownVar 1)
unfolding computing
variable_in_a_query = refl

-- its own label is that of a rule, another one is not
label_in_a_query : grammar_read patterns Query (codes "@x") 0 ≡ Err (UnknownLabel 1)
unfolding computing
label_in_a_query = refl
