-- Why a grammar is not built.
use Rattle.std.specs.Prelude.{◌≡◌, ℕ, List, length, drop, Err}
use Rattle.od_pattern.specs.declared.grammar.GrammarKind.{GrammarKind}
use Rattle.od_rule_text.specs.declared.grammar_fault.GrammarFault.{GrammarFault}
use Rattle.od_grammar.specs.Telling.{Tells}
use Rattle.od_grammars.specs.Grammars.{grammar_made}
pub use Rattle.od_session.specs.Grammars.{accepts_all_but}

-- what a maker refused since it had refused these
abbrev pub refused_since : (before after : List (List ℕ)) → List (List ℕ)
refused_since before after = drop (length before) after

-- The first fault of a text, with room for so many expressions, where the maker had refused the
-- expressions `before`, and then `after`. An expression is told to be refused only where it was.
abbrev pub IsBuildFault : (before after : List (List ℕ)) → GrammarKind → List ℕ → (room : ℕ) →
    GrammarFault → Type 0
IsBuildFault before after kind text room =
    Tells (λ f. grammar_made (accepts_all_but (refused_since before after)) kind text room ≡ Err f)
