-- Which expression a refusal tells.
use Rattle.std.proofs.Common.{◌≡◌, ℕ, ◌+◌, List, [], ◌∷◌, ◌++◌, length, map, Bool, true, false, refl, ap, ◌∙◌, arith, Option, Some, None, Ok, Err, inl, inr}
use Rattle.std.specs.Prelude.{◌⊎◌, ◌&&◌, if◌then◌else◌}
use Rattle.std.specs.List.{list_all}
use Rattle.od_pattern.specs.declared.grammar.GrammarKind.{GrammarKind}
use Rattle.od_pattern.specs.declared.grammar.Grammar.{Grammar}
use Rattle.od_rule_text.specs.declared.grammar_fault.GrammarFault.{GrammarFault}
use Rattle.od_rule_text.specs.declared.grammar_fault.GrammarFault.TheVariants.{RegexRefused}
use Rattle.od_rule_text.specs.Expressions.{Appearance, first_appearances, expressions_of}
use Rattle.od_rule_text.specs.Grammars.{Patterns, Answer, and_then, unless, refusal, unless_refused, grammar_read, grammar_made}
use Rattle.od_rule_text.specs.Laws.{IsRefused, MakesGrammars}
use Rattle.od_rule_text.proofs.Outcomes.{and_then-ok, unless-ok}

-- the first appearance whose expression is not accepted, where the first of all has the number n
record IsFirst (accepts : List ℕ → Bool) (n : ℕ) (appearances : List Appearance) (f : GrammarFault) : Type 0 where
  before : List Appearance
  refused : Appearance
  behind : List Appearance
  parts : appearances ≡ before ++ refused ∷ behind
  accepted : list_all (λ a. accepts a.expression) before ≡ true
  not_accepted : accepts refused.expression ≡ false
  tells : f ≡ RegexRefused refused.rule (length before + n)

first_or_later : (accepts : List ℕ → Bool) (n : ℕ) (a : Appearance) (more : List Appearance) (f : GrammarFault) (t : Bool) → accepts a.expression ≡ t →
    (refusal accepts (n + 1) more ≡ Some f → IsFirst accepts (n + 1) more f) →
    (if t then refusal accepts (n + 1) more else Some (RegexRefused a.rule n)) ≡ Some f → IsFirst accepts n (a ∷ more) f
first_or_later accepts n a more f true is later e =
    let l = later e in
    let number : length l.before + (n + 1) ≡ length (a ∷ l.before) + n = omega arith in
    record {
      before = a ∷ l.before;
      refused = l.refused;
      behind = l.behind;
      parts = ap (λ xs. a ∷ xs) l.parts;
      accepted = rw is l.accepted;
      not_accepted = l.not_accepted;
      tells = l.tells ∙ ap (RegexRefused l.refused.rule) number;
    }
first_or_later accepts n a more f false is later e =
    let number : n ≡ 0 + n = omega arith in
    let same : f ≡ RegexRefused a.rule n = cc in
    record { before = []; refused = a; behind = more; parts = refl; accepted = refl; not_accepted = is; tells = same ∙ ap (RegexRefused a.rule) number }

first_refused : (accepts : List ℕ → Bool) (n : ℕ) (appearances : List Appearance) (f : GrammarFault) → refusal accepts n appearances ≡ Some f → IsFirst accepts n appearances f
first_refused accepts n [] f e = absurd (cc)
first_refused accepts n (a ∷ more) f e = first_or_later accepts n a more f (accepts a.expression) refl (first_refused accepts (n + 1) more f) e

-- where none is refused, all are accepted
all_accepted : (accepts : List ℕ → Bool) (n : ℕ) (appearances : List Appearance) → refusal accepts n appearances ≡ None → list_all accepts (map (λ a. a.expression) appearances) ≡ true
all_accepted accepts n [] e = refl
all_accepted accepts n (a ∷ more) e = first_accepted (accepts a.expression) (refusal accepts (n + 1) more) (RegexRefused a.rule n) _ e (all_accepted accepts (n + 1) more)
  where
    first_accepted : (t : Bool) (o : Option GrammarFault) (f : GrammarFault) (rest : Bool) → (if t then o else Some f) ≡ None → (o ≡ None → rest ≡ true) → (t && rest) ≡ true
    first_accepted true o f rest e h = h e
    first_accepted false o f rest e h = absurd (cc)

refused_some : {X : Type 0} (o : Option GrammarFault) (x : X) (f : GrammarFault) → unless o x ≡ Err f → o ≡ Some f
refused_some None x f e = absurd (cc)
refused_some (Some g) x f e = let same : g ≡ f = cc in ap (λ h. Some h) same

module _ (patterns : Patterns) (accepts : List ℕ → Bool) where
  made : (kind : GrammarKind) (text : List ℕ) (room : ℕ) (grammar : Grammar) → grammar_made patterns accepts kind text room ≡ Ok grammar →
      (grammar_read patterns kind text room ≡ Ok grammar) × (list_all accepts (expressions_of patterns.expressions_in grammar.rules) ≡ true)
  made kind text room grammar e =
      let a = and_then-ok (grammar_read patterns kind text room) (unless_refused patterns accepts) grammar e in
      let u = unless-ok (refusal accepts 1 (first_appearances patterns.expressions_in a.0.rules)) a.0 grammar a.2 in
      rw u.1 (a.1, all_accepted accepts 1 (first_appearances patterns.expressions_in a.0.rules) u.0)

  refused_by : (kind : GrammarKind) (text : List ℕ) (room : ℕ) (answer : Answer Grammar) (f : GrammarFault) → grammar_read patterns kind text room ≡ answer →
      and_then answer (unless_refused patterns accepts) ≡ Err f → (grammar_read patterns kind text room ≡ Err f) ⊎ IsRefused patterns accepts kind text room f
  refused_by kind text room (Err g) f reads e = inl (reads ∙ e)
  refused_by kind text room (Ok grammar) f reads e =
      let first = first_refused accepts 1 (first_appearances patterns.expressions_in grammar.rules) f
      (refused_some (refusal accepts 1 (first_appearances patterns.expressions_in grammar.rules)) grammar f e) in
      inr (record {
        grammar = grammar;
        reads = reads;
        before = first.before;
        refused = first.refused;
        behind = first.behind;
        parts = first.parts;
        accepted = first.accepted;
        not_accepted = first.not_accepted;
        tells = first.tells;
      })

pub makes_grammars : MakesGrammars
makes_grammars = record {
  made = made;
  refused = λ patterns accepts kind text room f e. refused_by patterns accepts kind text room (grammar_read patterns kind text room) f refl e;
}
