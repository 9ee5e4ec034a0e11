-- What a rule file has, by the tests that its statements passed, and where its first fault stands.
use Rattle.std.proofs.Common.{◌≡◌, ℕ, zero, suc, ◌+◌, ◌≤◌, List, [], ◌∷◌, ◌++◌, length, drop, arith, Bool, true, false, refl, subst, Option, Some, None, Result, Ok, Err}
use Rattle.std.specs.Prelude.{if◌then◌else◌, ◌&&◌, max, unwrap_or}
use Rattle.std.specs.Option.{is_some}
use Rattle.std.specs.Str.Lines.{lines}
use Rattle.od_text.specs.Cuts.{split_once}
use Rattle.od_text.specs.Lists.{Each}
use Rattle.od_text.proofs.Lists.{Each-append, EachPoint-snoc}
use Rattle.od_language.specs.Identifier.{is_identifier}
use Rattle.od_rule_text.specs.declared.rule_file.KeyText.{KeyText}
use Rattle.od_rule_text.specs.declared.rule_file.RuleFile.{RuleFile}
use Rattle.od_rule_text.specs.declared.rule_file.YamlKind.{YamlKind}
use Rattle.od_rule_text.specs.Texts.{begins_with}
use Rattle.od_rule_text.specs.Blanks.{says_nothing}
use Rattle.od_rule_text.specs.Scalars.{scalar}
use Rattle.od_rule_text.specs.Statements.{Statement, Entry, entry_text, cut_entry, entry_of, statement_of, statements}
use Rattle.od_rule_text.specs.RuleFiles.{Section, in_vars, in_rules, Outline, nothing_said, with_last_item, items_of, heading, misplaced, Role, variable, first_key, further_key, role_of, siblings, has_key, with_entry, enter, take_scalar, take_entry, take_role, take_placed, take_unless, take_statement, file_of, goes_on, file_after, rule_file_of}
use Rattle.od_rule_text.specs.Laws.{HasKeys, IsItem, IsRuleFile, ReadsRuleFiles, TellsLines}
use Rattle.od_rule_text.proofs.Outcomes.{same_ok, both, behind_refusal}

-- ## Keys

-- the key of an entry is an identifier
cut_key : (o : Option (List ℕ × List ℕ)) (e : Entry) → cut_entry o ≡ Some e → is_identifier e.key ≡ true
cut_key None e h = absurd (cc)
cut_key (Some p) e h = by_test (is_identifier p.0 && begins_with 32 p.1) (record { key = p.0; rest = drop 1 p.1 }) e (λ t. (both (is_identifier p.0) _ t).0) h
  where
    by_test : (t : Bool) (d e : Entry) → (t ≡ true → is_identifier d.key ≡ true) → (if t then Some d else None) ≡ Some e → is_identifier e.key ≡ true
    by_test true d e is h = let same : d ≡ e = cc in subst (λ (x : Entry). is_identifier x.key ≡ true) same (is refl)
    by_test false d e is h = absurd (cc)

-- one more entry with a new key
one_key_more : (entries : List KeyText) (e : KeyText) → HasKeys entries → is_identifier e.key ≡ true → has_key e.key entries ≡ false → HasKeys (entries ++ e ∷ [])
one_key_more entries e h is new = record {
  identifiers = Each-append (λ (d : KeyText). is_identifier d.key ≡ true) entries (e ∷ []) h.identifiers (is, tt);
  distinct = EachPoint-snoc (λ before (d : KeyText). has_key d.key before ≡ false) entries e h.distinct new;
}

-- ## What was said keeps its keys

record KeepsKeys (o : Outline) : Type 0 where
  vars : HasKeys o.vars
  complete : Each IsItem o.complete
  item : HasKeys o.item

no_keys : HasKeys []
no_keys = record { identifiers = tt; distinct = tt }

all_items : (complete : List (List KeyText)) (item : List KeyText) → Each IsItem complete → HasKeys item → Each IsItem (with_last_item complete item)
all_items complete [] h k = h
all_items complete (e ∷ item) h k = Each-append IsItem complete ((e ∷ item) ∷ []) h (record { some = omega arith; keys = k }, tt)

with_entry_keeps : (o : Outline) (role : Role) (column : ℕ) (e : KeyText) → KeepsKeys o → is_identifier e.key ≡ true → has_key e.key (siblings o role) ≡ false → KeepsKeys (with_entry o role column e)
with_entry_keeps o variable column e h is new = record { vars = one_key_more o.vars e h.vars is new; complete = h.complete; item = h.item }
with_entry_keeps o first_key column e h is new = record { vars = h.vars; complete = all_items o.complete o.item h.complete h.item; item = one_key_more [] e no_keys is new }
with_entry_keeps o further_key column e h is new = record { vars = h.vars; complete = h.complete; item = one_key_more o.item e h.item is new }

-- ## The line of `rules:`

-- it is from 1 to the last line
abbrev IsLine : ℕ → ℕ → Type 0
IsLine last line = (1 ≤ line) × (line ≤ last)

abbrev IsLineIfThere : ℕ → Option ℕ → Type 0
IsLineIfThere last None = Unit {0}
IsLineIfThere last (Some line) = IsLine last line

with_entry_line : (o : Outline) (role : Role) (column : ℕ) (e : KeyText) (last : ℕ) → IsLineIfThere last o.rules_line → IsLineIfThere last (with_entry o role column e).rules_line
with_entry_line o variable column e last h = h
with_entry_line o first_key column e last h = h
with_entry_line o further_key column e last h = h

-- ## One statement

-- both facts, where the last line has this number
record IsKept (last : ℕ) (o : Outline) : Type 0 where
  keys : KeepsKeys o
  line : IsLineIfThere last o.rules_line

module _ (last : ℕ) where
  entered : (o : Outline) (line : ℕ) (section : Section) (next : Outline) → IsKept last o → IsLine last line → enter o line section ≡ Ok next → IsKept last next
  entered o line in_vars next h l e =
      let t = behind_refusal o.has_vars _ _ next e in
      subst (IsKept last) (same_ok _ _ next refl t.1) (record { keys = record { vars = h.keys.vars; complete = h.keys.complete; item = h.keys.item }; line = h.line })
  entered o line in_rules next h l e =
      let t = behind_refusal (is_some o.rules_line) _ _ next e in
      subst (IsKept last) (same_ok _ _ next refl t.1) (record { keys = record { vars = h.keys.vars; complete = h.keys.complete; item = h.keys.item }; line = l })

  scalar_taken : (o : Outline) (role : Role) (column : ℕ) (key : List ℕ) (text : Option (List ℕ)) (next : Outline) → IsKept last o → is_identifier key ≡ true → has_key key (siblings o role) ≡ false →
      take_scalar o role column key text ≡ Ok next → IsKept last next
  scalar_taken o role column key None next h is new e = absurd (cc)
  scalar_taken o role column key (Some text) next h is new e =
      let entry : KeyText = record { key = key; value = text } in
      subst (IsKept last) (same_ok (take_scalar o role column key (Some text)) _ next refl e)
      (record { keys = with_entry_keeps o role column entry h.keys is new; line = with_entry_line o role column entry last h.line })

  entry_taken : (o : Outline) (role : Role) (column : ℕ) (below : List (List ℕ)) (found : Option Entry) (next : Outline) → IsKept last o →
      ((d : Entry) → found ≡ Some d → is_identifier d.key ≡ true) → take_entry o role column below found ≡ Ok next → IsKept last next
  entry_taken o role column below None next h is e = absurd (cc)
  entry_taken o role column below (Some d) next h is e =
      let t = behind_refusal (has_key d.key (siblings o role)) _ _ next e in
      scalar_taken o role column d.key (scalar d.rest below) next h (is d refl) t.0 t.1

  role_taken : (o : Outline) (s : Statement) (role : Option Role) (next : Outline) → IsKept last o → take_role o s role ≡ Ok next → IsKept last next
  role_taken o s None next h e = absurd (cc)
  role_taken o s (Some role) next h e = entry_taken o role s.column s.below (entry_of s.text) next h (λ d. cut_key (split_once 58 (entry_text s.text)) d) e

  placed : (o : Outline) (s : Statement) (section : Option Section) (next : Outline) → IsKept last o → IsLine last s.line → take_placed o s section ≡ Ok next → IsKept last next
  placed o s None next h l e = role_taken o s (role_of o.section o.items_column s.column s.text) next h e
  placed o s (Some section) next h l e = entered o s.line section next h l e

  unless_misplaced : (o : Outline) (s : Statement) (kind : Option YamlKind) (next : Outline) → IsKept last o → IsLine last s.line → take_unless o s kind ≡ Ok next → IsKept last next
  unless_misplaced o s None next h l e = placed o s (heading s.column s.text) next h l e
  unless_misplaced o s (Some kind) next h l e = absurd (cc)

  taken : (o : Outline) (s : Statement) (next : Outline) → IsKept last o → IsLine last s.line → take_statement o s ≡ Ok next → IsKept last next
  taken o s next h l e = unless_misplaced o s (misplaced o s) next h l e

  -- ## The file

  -- the answer is a rule file, or a fault at a line
  abbrev IsAnswer : Result RuleFile (ℕ × YamlKind) → Type 0
  IsAnswer (Ok file) = IsRuleFile file
  IsAnswer (Err f) = IsLine last f.0

  line_or_1 : 1 ≤ last → (o : Option ℕ) → IsLineIfThere last o → IsLine last (unwrap_or o 1)
  line_or_1 some None h = (omega arith, some)
  line_or_1 some (Some line) h = h

  ended : 1 ≤ last → (o : Outline) (items : List (List KeyText)) → IsKept last o → Each IsItem items → IsAnswer (file_of o items)
  ended some o [] h k = line_or_1 some o.rules_line h.line
  ended some o (item ∷ items) h k = record { vars = h.keys.vars; some = omega arith; items = k }

  gone_on : (s : Statement) (more : List Statement) (r : Result Outline YamlKind) → IsLine last s.line → ((next : Outline) → r ≡ Ok next → IsAnswer (file_after next more)) → IsAnswer (goes_on s.line (λ next. file_after next more) r)
  gone_on s more (Ok next) l h = h next refl
  gone_on s more (Err kind) l h = l

  answered : 1 ≤ last → (o : Outline) (left : List Statement) → IsKept last o → Each (λ s. IsLine last s.line) left → IsAnswer (file_after o left)
  answered some o [] h l = ended some o (items_of o) h (all_items o.complete o.item h.keys.complete h.keys.item)
  answered some o (s ∷ more) h l = gone_on s more (take_statement o s) l.0 (λ next e. answered some next more (taken o s next h l.0 e) l.1)

  -- the lines of statements
  lined : (n k : ℕ) (left : List (List ℕ)) → 1 ≤ n → n + length left ≤ last + 1 → Each (λ s. IsLine last s.line) (statements n k left)
  lined n k [] some within = tt
  lined n (suc k) (line ∷ left) some within = lined (n + 1) k left (omega arith) (omega (arith, within))
  lined n zero (line ∷ left) some within =
      said (says_nothing line) (statement_of n line left) _ _ (lined (n + 1) 0 left (omega arith) (omega (arith, within)))
      (some, omega (arith, within)) (lined (n + 1) (length (statement_of n line left).below) left (omega arith) (omega (arith, within)))
    where
      said : (t : Bool) (s : Statement) (without with_it : List Statement) → Each (λ s. IsLine last s.line) without → IsLine last s.line → Each (λ s. IsLine last s.line) with_it →
          Each (λ s. IsLine last s.line) (if t then without else s ∷ with_it)
      said true s without with_it h l k = h
      said false s without with_it h l k = (l, k)

begun : (last : ℕ) → IsKept last nothing_said
begun last = record { keys = record { vars = no_keys; complete = tt; item = no_keys }; line = tt }

answer : (text : List ℕ) → IsAnswer (max 1 (length (lines text))) (rule_file_of text)
unfolding rule_file_of
answer text =
    let last : ℕ = max 1 (length (lines text)) in
    answered last (omega arith) nothing_said (statements 1 0 (lines text)) (begun last) (lined last 1 0 (lines text) (omega arith) (omega arith))

pub reads_rule_files : ReadsRuleFiles
reads_rule_files text file e = subst (IsAnswer (max 1 (length (lines text)))) e (answer text)

pub tells_lines : TellsLines
tells_lines text line kind e = subst (IsAnswer (max 1 (length (lines text)))) e (answer text)
