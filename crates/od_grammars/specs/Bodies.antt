-- What the text of a rule's pattern is, by the definitions of patterns, and that grammars have that.
use Rattle.std.specs.Prelude.{◌≡◌, ℕ, List, Ok}
use Rattle.std.specs.List.{AllZip}
use Rattle.std.specs.Str.{chars}
use Rattle.od_pattern.specs.declared.grammar.Grammar.{Grammar}
use Rattle.od_pattern.specs.declared.grammar.GrammarKind.TheVariants.{RuleFile as OfRules}
use Rattle.od_pattern.specs.declared.rule.Body.{Body}
use Rattle.od_pattern.specs.declared.rule.Body.TheVariants.{Basic, Event}
use Rattle.od_pattern.specs.declared.rule.Rule.{Rule}
use Rattle.od_language.specs.declared.pattern_fault.PatternKind.{PatternKind}
use Rattle.od_language.specs.WholeRuns.{IsVerdict}
use Rattle.od_rule_text.specs.declared.rule_file.KeyText.{KeyText}
use Rattle.od_rule_text.specs.declared.rule_file.RuleFile.{RuleFile}
use Rattle.od_rule_text.specs.Grammars.{body_of}
use Rattle.od_rule_text.specs.Items.{RuleType, basic, event}
use Rattle.od_rule_text.specs.Laws.{IsRuleOf}
use Rattle.od_rule_text.specs.RuleFiles.{rule_file_of}
use Rattle.od_syntax.specs.Events.{IsEventText, IsEventTextFault}
use Rattle.od_syntax.specs.Texts.{IsHopText, IsHopTextFault}
use Rattle.od_grammars.specs.Grammars.{patterns, grammar_read}

-- a text is this body: in a rule of the type basic a hop, in one of the type event an event pattern
abbrev pub IsBodyText : RuleType → List ℕ → Body → Type 0
IsBodyText basic text (Basic hop) = IsHopText (chars text) hop
IsBodyText event text (Event e) = IsEventText (chars text) e
IsBodyText type text body = ⊥

-- the first fault of a text that is none
abbrev pub IsBodyFault : RuleType → List ℕ → ℕ → PatternKind → Type 0
IsBodyFault basic text = IsHopTextFault (chars text)
IsBodyFault event text = IsEventTextFault (chars text)

-- a text has exactly the body, or the first fault, that grammars are read with
abbrev pub BodiesAreComputed : Type 0
BodiesAreComputed =
    (type : RuleType) (text : List ℕ) →
    IsVerdict (IsBodyText type text) (IsBodyFault type text) (body_of patterns type text)

-- a rule is what an item says, where these are the variables, and its body is what the text of its
-- pattern is
pub record IsMeant (vars item : List KeyText) (rule : Rule) : Type 0 where
  pub says : IsRuleOf patterns vars item rule
  pub body : IsBodyText says.body.type says.body.text rule.body

-- a grammar of a rule file has such a rule for each item, in the order of the file
abbrev pub RulesAreMeant : Type 0
RulesAreMeant =
    (text : List ℕ) (room : ℕ) (grammar : Grammar) → grammar_read OfRules text room ≡ Ok grammar →
    (file : RuleFile) × (rule_file_of text ≡ Ok file) ×
    AllZip (IsMeant file.vars) file.rules grammar.rules
