-- What a rule file or a query says, or its first fault, with patterns as their grammars read them.
use Rattle.std.specs.Prelude.{ℕ, Bool, List}
use Rattle.std.specs.Str.{chars}
use Rattle.od_pattern.specs.declared.grammar.Grammar.{Grammar}
use Rattle.od_pattern.specs.declared.grammar.GrammarKind.{GrammarKind}
use Rattle.od_rule_text.specs.declared.grammar_fault.GrammarFault.{GrammarFault}
use Rattle.od_rule_text.specs.Expressions.{body_expressions}
use Rattle.od_rule_text.specs.Grammars.{Answer, Patterns}
use Rattle.od_rule_text.specs.Grammars as with_patterns
use Rattle.od_syntax.specs.EventVerdicts.{event_of}
use Rattle.od_syntax.specs.HopVerdicts.{hop_of}

-- How patterns are read, and which regular expressions they have.
-- The text of a pattern is bytes, and it is read by its characters.
abbrev pub patterns : Patterns
patterns = record {
  hop_of = λ text. hop_of (chars text);
  event_of = λ text. event_of (chars text);
  expressions_in = body_expressions;
}

-- the grammar that a text is, with room for so many different expressions, or its first fault
abbrev pub grammar_read : GrammarKind → List ℕ → (room : ℕ) → Answer Grammar
grammar_read = with_patterns.grammar_read patterns

module _ (accepts : List ℕ → Bool) where
  -- the grammar whose expressions can be made by a maker that accepts some, or why there is none
  abbrev pub grammar_made : GrammarKind → List ℕ → (room : ℕ) → Answer Grammar
  grammar_made = with_patterns.grammar_made patterns accepts

  -- what a reader may answer in place of a grammar: why there is none, or that memory was refused
  abbrev pub IsGrammarFault : GrammarKind → List ℕ → (room : ℕ) → GrammarFault → Type 0
  IsGrammarFault = with_patterns.IsGrammarFault patterns accepts
