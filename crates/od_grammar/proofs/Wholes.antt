-- A grammar, by its rules and what they have as a whole.
use Rattle.std.proofs.Common.{◌≡◌, ℕ, List, length, Option, Some, None, Ok, Err, Bool, true, false, sym, ap, ◌∙◌, subst}
use Rattle.std.specs.Prelude.{nat_lt, if◌then◌else◌}
use Rattle.std.specs.Option.{option_or}
use Rattle.od_pattern.specs.declared.grammar.GrammarKind.{GrammarKind}
use Rattle.od_pattern.specs.declared.grammar.Grammar.{Grammar}
use Rattle.od_pattern.specs.declared.rule.Rule.{Rule}
use Rattle.od_rule_text.specs.declared.grammar_fault.GrammarFault.{GrammarFault}
use Rattle.od_rule_text.specs.declared.grammar_fault.GrammarLimit.TheVariants.{GrammarBytes}
use Rattle.od_rule_text.specs.Expressions.{body_expressions, first_appearances}
use Rattle.od_rule_text.specs.Grammars.{Answer, and_then, unless, refusal, whole_fault, limit_of, passed, text_rules, grammar_with, unless_refused, grammar_read as read_with}
use Rattle.od_grammars.specs.Grammars.{patterns, grammar_read, grammar_made}
use Rattle.od_grammar.specs.Telling.{Tells}
use Rattle.od_grammar.proofs.Telling.{told}

module _ (kind : GrammarKind) (text : List ℕ) (room : ℕ) where
  abbrev of_rules : List Rule → Grammar
  of_rules rules = record { kind = kind; text = text; rules = rules }

  -- a text that is short is what its rules say
  short : nat_lt (limit_of GrammarBytes) (length text) ≡ false → (a : Answer (List Rule)) → text_rules patterns kind text ≡ a
      → grammar_read kind text room ≡ and_then a (grammar_with patterns kind text room)
  unfolding read_with
  short few a is =
      ap (λ b. if b then Err (passed GrammarBytes) else and_then (text_rules patterns kind text) (grammar_with patterns kind text room)) few
      ∙ ap (λ z. and_then z (grammar_with patterns kind text room)) is

  pub is_read : nat_lt (limit_of GrammarBytes) (length text) ≡ false → (rules built : List Rule) → text_rules patterns kind text ≡ Ok rules
      → whole_fault patterns room rules ≡ None → built ≡ rules → grammar_read kind text room ≡ Ok (of_rules built)
  is_read few rules built is none same =
      short few (Ok rules) is ∙ ap (λ o. unless o (of_rules rules)) none ∙ ap (λ (z : List Rule). Ok (of_rules z)) (sym same)

  module _ (accepts : List ℕ → Bool) where
    pub too_long : nat_lt (limit_of GrammarBytes) (length text) ≡ true → grammar_made accepts kind text room ≡ Err (passed GrammarBytes)
    unfolding read_with
    too_long many =
        ap (λ b. and_then (if b then Err (passed GrammarBytes) else and_then (text_rules patterns kind text) (grammar_with patterns kind text room)) (unless_refused patterns accepts)) many

    pub rules_bad : nat_lt (limit_of GrammarBytes) (length text) ≡ false → (f : GrammarFault) → text_rules patterns kind text ≡ Err f → grammar_made accepts kind text room ≡ Err f
    rules_bad few f is = ap (λ a. and_then a (unless_refused patterns accepts)) (short few (Err f) is)

    first_or : (rules : List Rule) (o : Option GrammarFault) (f : GrammarFault) → option_or o (refusal accepts 1 (first_appearances body_expressions rules)) ≡ Some f
        → and_then (unless o (of_rules rules)) (unless_refused patterns accepts) ≡ Err f
    first_or rules None f e = ap (λ o. unless o (of_rules rules)) e
    first_or rules (Some g) f e = let same : g ≡ f = cc in ap (λ z. Err z) same

    pub whole_bad : nat_lt (limit_of GrammarBytes) (length text) ≡ false → (rules : List Rule) → text_rules patterns kind text ≡ Ok rules → (f : GrammarFault)
        → option_or (whole_fault patterns room rules) (refusal accepts 1 (first_appearances body_expressions rules)) ≡ Some f → grammar_made accepts kind text room ≡ Err f
    whole_bad few rules is f e =
        ap (λ a. and_then a (unless_refused patterns accepts)) (short few (Ok rules) is) ∙ first_or rules (whole_fault patterns room rules) f e

-- ## What faults tell

-- rules with a fault as a whole, or an expression that is refused
abbrev pub IsWholeFault : (room : ℕ) → List Rule → (refused : Option GrammarFault) → GrammarFault → Type 0
IsWholeFault room rules refused f = option_or (whole_fault patterns room rules) refused ≡ Some f

-- why there is no grammar
abbrev pub IsMakeFault : (accepts : List ℕ → Bool) → GrammarKind → List ℕ → (room : ℕ) → GrammarFault → Type 0
IsMakeFault accepts kind text room f = grammar_made accepts kind text room ≡ Err f

module _ (accepts : List ℕ → Bool) (kind : GrammarKind) (text : List ℕ) (room : ℕ) where
  pub long_told : nat_lt (limit_of GrammarBytes) (length text) ≡ true → (f : GrammarFault) → f ≡ passed GrammarBytes → Tells (IsMakeFault accepts kind text room) f
  long_told many f is = subst (Tells (IsMakeFault accepts kind text room)) (sym is) (too_long kind text room accepts many)

  pub rules_told : nat_lt (limit_of GrammarBytes) (length text) ≡ false → (f : GrammarFault) → Tells (λ g. text_rules patterns kind text ≡ Err g) f
      → Tells (IsMakeFault accepts kind text room) f
  rules_told few f h = told (λ g. text_rules patterns kind text ≡ Err g) (IsMakeFault accepts kind text room) (λ g k. rules_bad kind text room accepts few g k) f h

  pub whole_told : nat_lt (limit_of GrammarBytes) (length text) ≡ false → (rules : List Rule) → text_rules patterns kind text ≡ Ok rules → (f : GrammarFault)
      → Tells (IsWholeFault room rules (refusal accepts 1 (first_appearances body_expressions rules))) f → Tells (IsMakeFault accepts kind text room) f
  whole_told few rules is f h =
      told (IsWholeFault room rules (refusal accepts 1 (first_appearances body_expressions rules))) (IsMakeFault accepts kind text room)
      (λ g k. whole_bad kind text room accepts few rules is g k) f h
