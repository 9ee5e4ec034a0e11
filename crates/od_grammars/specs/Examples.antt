-- Worked cases: rule files and queries that are grammars, with their values, and first faults.
use Rattle.std.specs.Prelude.{◌≡◌, ℕ, List, [], ◌∷◌, ◌++◌, Some, None, Ok, Err, codes}
use Rattle.od_pattern.specs.declared.grammar.GrammarKind.{GrammarKind}
use Rattle.od_pattern.specs.declared.grammar.GrammarKind.TheVariants.{RuleFile, Query}
use Rattle.od_pattern.specs.declared.path.Path.{Path}
use Rattle.od_pattern.specs.declared.path.Path.TheVariants as path
use Rattle.od_pattern.specs.declared.pattern.Constraint.TheVariants as constraint
use Rattle.od_pattern.specs.declared.pattern.Field.{Field}
use Rattle.od_pattern.specs.declared.pattern.Field.TheVariants.{Word, Lemma, Tag}
use Rattle.od_pattern.specs.declared.pattern.Surface.{Surface}
use Rattle.od_pattern.specs.declared.pattern.Surface.TheVariants as surface
use Rattle.od_pattern.specs.declared.pattern.Value.TheVariants.{Plain}
use Rattle.od_pattern.specs.declared.rule.Body.{Body}
use Rattle.od_pattern.specs.declared.rule.Body.TheVariants.{Basic, Event}
use Rattle.od_pattern.specs.declared.rule.Many.TheVariants.{One}
use Rattle.od_pattern.specs.declared.rule.Priority.{Priority}
use Rattle.od_pattern.specs.declared.rule.Rule.{Rule}
use Rattle.od_language.specs.declared.pattern_fault.PatternKind.TheVariants as kind
use Rattle.od_rule_text.specs.declared.grammar_fault.GrammarFault.{GrammarFault}
use Rattle.od_rule_text.specs.declared.grammar_fault.GrammarFault.TheVariants as fault
use Rattle.od_rule_text.specs.declared.grammar_fault.GrammarLimit.TheVariants.{Regexes}
use Rattle.od_grammars.specs.Grammars.{grammar_read}

-- a text that is a grammar of these rules
abbrev pub HasRules : GrammarKind → List ℕ → List Rule → Type 0
HasRules kind text rules =
    grammar_read kind text 64 ≡ Ok (record { kind = kind; text = text; rules = rules })

-- a text that is none, with its first fault, where there is room for so many expressions
abbrev pub HasFault : GrammarKind → List ℕ → (room : ℕ) → GrammarFault → Type 0
HasFault kind text room f = grammar_read kind text room ≡ Err f

-- a token of which a field has this text
abbrev pub token : Field → List ℕ → Surface
token field text = surface.Token (constraint.Is field (Plain text))

-- an edge with this label, along it
abbrev pub edge : List ℕ → Path
edge label = path.Along (Some (Plain label))

-- in every round from this one on
abbrev pub from : ℕ → Priority
from n = record { first = n; last = None }

-- two tokens, and a path from the first to the second
abbrev pub from_to : Surface → Path → Surface → Body
from_to first p second =
    Basic (record { first = first; rest = record { path = p; surface = second } ∷ [] })

-- a rule of the type basic, and one of the type event with a literal block
abbrev pub two_rules : List ℕ
two_rules =
    codes "vars:\n  sound: bark\nrules:\n"
    ++ codes "- name: pet\n  label: Animal\n  type: basic\n  pattern: \"[lemma=dog]\"\n"
    ++ codes "- name: noise\n  label: Event\n  type: event\n  priority: 2+\n"
    ++ codes "  pattern: |\n    trigger = [lemma=${sound}]\n    who:Animal = >nsubj\n"

pub record FileExamples : Type 0 where
  pub basic_and_event : HasRules RuleFile two_rules
      ((record {
        name = codes "pet";
        label = codes "Animal";
        priority = from 1;
        body = Basic (record { first = token Lemma (codes "dog"); rest = [] });
      }) ∷ (record {
        name = codes "noise";
        label = codes "Event";
        priority = from 2;
        body = Event (record {
          trigger = token Lemma (codes "bark");
          arguments = record {
            name = codes "who";
            label = Some (codes "Animal");
            many = One;
            path = edge (codes "nsubj");
          } ∷ [];
        });
      }) ∷ [])

-- a query is one rule
pub record QueryExamples : Type 0 where
  pub with_path : HasRules Query (codes "[tag=NN] >amod [tag=JJ]")
      ((record {
        name = codes "query";
        label = codes "Query";
        priority = from 1;
        body = from_to (token Tag (codes "NN")) (edge (codes "amod")) (token Tag (codes "JJ"));
      }) ∷ [])
  -- a text of one character, which has two bytes
  pub beyond_ascii : HasRules Query (codes "[word=" ++ 195 ∷ 169 ∷ codes "]")
      ((record {
        name = codes "query";
        label = codes "Query";
        priority = from 1;
        body = Basic (record { first = token Word (195 ∷ 169 ∷ []); rest = [] });
      }) ∷ [])

-- a rule file of one rule with this type and this pattern, behind one whose pattern is a word
abbrev pub second_rule : List ℕ → List ℕ → List ℕ
second_rule type pattern =
    codes "rules:\n- name: a\n  label: A\n  type: basic\n  pattern: a\n"
    ++ codes "- name: b\n  label: B\n  type: " ++ type ++ codes "\n  pattern: \"" ++ pattern ++ codes "\"\n"

-- a rule whose pattern is a variable and steps behind which nothing stands
abbrev pub steps_last : List ℕ
steps_last =
    codes "vars:\n  long: abcdef\nrules:\n"
    ++ codes "- name: a\n  label: A\n  type: basic\n  pattern: ${long} >x\n"

-- The fault of a pattern has the rule's number, and the place in the text whose variables are replaced.
pub record FaultExamples : Type 0 where
  pub choice_before_steps : HasFault RuleFile (second_rule (codes "basic") (codes "a | b >x c")) 64
      (fault.Pattern 2 6 kind.Expected)
  pub trigger_with_steps : HasFault RuleFile (second_rule (codes "event") (codes "trigger = a >x b")) 64
      (fault.Pattern 2 12 kind.Expected)
  pub no_event : HasFault RuleFile (second_rule (codes "event") (codes "a")) 64
      (fault.Pattern 2 0 kind.Expected)
  pub in_a_variable : HasFault RuleFile steps_last 64 (fault.Pattern 1 9 kind.Expected)
  pub in_a_query : HasFault Query (codes "(>x) a") 64 (fault.Pattern 1 0 kind.Expected)
  pub empty_query : HasFault Query [] 64 (fault.Pattern 1 0 kind.Expected)
  pub unknown_label : HasFault Query (codes "@Animal >x b") 64 (fault.UnknownLabel 1)
  pub no_room : HasFault Query (codes "/a/ >/b/ /a/") 1 (fault.Limit Regexes 64)
