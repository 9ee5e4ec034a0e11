-- One line of a rule file more.
use Rattle.std.proofs.Common.{◌≡◌, ℕ, zero, suc, ◌+◌, List, [], ◌∷◌, length, drop, Bool, true, false, Some, None, Result, Ok, Err, refl, sym, ap, ap₂, ◌∙◌, arith}
use Rattle.std.specs.Prelude.{◌==◌, ◌&&◌, IfOk, IfErr, OnOk, if◌then◌else◌, codes}
use Rattle.std.specs.Str.{bytes_eq}
use Rattle.std.specs.Str.Lines.{lines}
use Rattle.std.proofs.lemmas.Slice.Eq.{bytes_eq-Decides}
use Rattle.od_rule_text.specs.declared.rule_file.RuleFile.{RuleFile}
use Rattle.od_rule_text.specs.declared.rule_file.YamlFault.{YamlFault}
use Rattle.od_rule_text.specs.declared.rule_file.YamlFault.TheVariants.{Bad, NoMemory}
use Rattle.od_rule_text.specs.Blanks.{says_nothing, indentation}
use Rattle.od_rule_text.specs.Statements.{Statement, entry_of, entry_column, entry_lines, statement_at, statement_of, statements}
use Rattle.od_rule_text.specs.RuleFiles.{Section, in_vars, in_rules, Outline, Role, heading, misplaced, role_of, take_role, take_placed, take_unless, take_statement, Reading, file_after, goes_on, rule_file_of}
use Rattle.od_rule_text.specs.Laws.{IsRuleFile}
use Rattle.od_rule_text.specs.Written.{written_file}
use Rattle.od_rule_text.proofs.Outcomes.{same_ok}
use Rattle.od_rule_text.proofs.ReadsBack.{reads_back}
use Rattle.od_yaml.specs.declared.below.Below.{Below}
use Rattle.od_yaml.specs.Below.{IsBelow}
use Rattle.od_yaml.specs.Readers.{IsFileFault, ReadsBack}

-- ## Statement by statement

-- the lines that belong to the statement before are passed over
statements_past : (n k : ℕ) (ls : List (List ℕ)) → statements n k ls ≡ statements (n + k) 0 (drop k ls)
statements_past n zero ls = ap (λ m. statements m 0 ls) (omega arith)
statements_past n (suc k) [] = refl
statements_past n (suc k) (l ∷ ls) = statements_past (n + 1) k ls ∙ ap (λ m. statements m 0 (drop k ls)) (omega arith)

-- a line that says something is a statement
says_step : (n : ℕ) (line : List ℕ) (ls : List (List ℕ)) → says_nothing line ≡ false → statements n 0 (line ∷ ls) ≡ statement_of n line ls ∷ statements (n + 1) (length (statement_of n line ls).below) ls
says_step n line ls e = ap (λ (t : Bool). if t then statements (n + 1) 0 ls else statement_of n line ls ∷ statements (n + 1) (length (statement_of n line ls).below) ls) e

-- a statement that was taken
taken_step : (o p : Outline) (n : ℕ) (line more : List ℕ) (b : Below) → says_nothing line ≡ false → take_statement o (statement_of n line (lines more)) ≡ Ok p → IsBelow (statement_of n line (lines more)).below more b
    → file_after o (statements n 0 (line ∷ lines more)) ≡ file_after p (statements (n + 1 + b.lines) 0 (lines b.rest.now))
taken_step o p n line more b says took below =
    let s : Statement = statement_of n line (lines more) in
    ap (file_after o) (says_step n line (lines more) says) ∙ ap (goes_on n (λ q. file_after q (statements (n + 1) (length s.below) (lines more)))) took
    ∙ ap (file_after p) (statements_past (n + 1) (length s.below) (lines more))
    ∙ ap (λ k. file_after p (statements (n + 1 + k) 0 (drop (length s.below) (lines more)))) (sym below.lines_are)
    ∙ ap (λ ls. file_after p (statements (n + 1 + b.lines) 0 ls)) (sym below.rest_is)

pub taken_steps : (r : Result Below YamlFault) (o p : Outline) (n : ℕ) (line more : List ℕ) → says_nothing line ≡ false → OnOk r (take_statement o (statement_of n line (lines more)) ≡ Ok p) → IfOk r (IsBelow (statement_of n line (lines more)).below more)
    → IfOk r (λ b. file_after o (statements n 0 (line ∷ lines more)) ≡ file_after p (statements (n + 1 + b.lines) 0 (lines b.rest.now)))
taken_steps (Ok b) o p n line more says took below = taken_step o p n line more b says took below
taken_steps (Err fault) o p n line more says took below = below

-- ## One statement

-- a line is the statement of what stands behind its indentation
same_statement : (n column : ℕ) (line text : List ℕ) (ls : List (List ℕ)) → column ≡ indentation line → text ≡ drop column line → statement_of n line ls ≡ statement_at n column text ls
same_statement n column line text ls column_is text_is = ap₂ (λ k t. statement_at n k t ls) (sym column_is) (ap (λ k. drop k line) (sym column_is) ∙ sym text_is)

-- a line that stands where it may, and is no heading, is an entry
pub entry_step : (o : Outline) (n column : ℕ) (line text : List ℕ) (ls : List (List ℕ)) (role : Role) → column ≡ indentation line → text ≡ drop column line →
    misplaced o (statement_at 0 column text []) ≡ None → heading column text ≡ None → role_of o.section o.items_column column text ≡ Some role →
    take_statement o (statement_of n line ls) ≡ take_role o (statement_at n column text ls) (Some role)
entry_step o n column line text ls role column_is text_is placed other is =
    ap (take_statement o) (same_statement n column line text ls column_is text_is)
    ∙ ap (take_unless o (statement_at n column text ls)) placed ∙ ap (take_placed o (statement_at n column text ls)) other ∙ ap (take_role o (statement_at n column text ls)) is

-- a heading has no lines below it
pub heading_below : (column : ℕ) (text : List ℕ) (section : Section) (ls : List (List ℕ)) → heading column text ≡ Some section → entry_lines (entry_column column text) (entry_of text) ls ≡ []
heading_below column text section ls h = by_name (column == 0) (bytes_eq text (codes "vars:")) (bytes_eq text (codes "rules:")) refl refl h
  where
    by_name : (z v r : Bool) → bytes_eq text (codes "vars:") ≡ v → bytes_eq text (codes "rules:") ≡ r
        → (if z && v then Some in_vars else (if z && r then Some in_rules else None)) ≡ Some section → entry_lines (entry_column column text) (entry_of text) ls ≡ []
    by_name true true r e f h = let is : text ≡ codes "vars:" = (bytes_eq-Decides text (codes "vars:")).0 e in rw is refl
    by_name true false true e f h = let is : text ≡ codes "rules:" = (bytes_eq-Decides text (codes "rules:")).0 f in rw is refl
    by_name true false false e f h = absurd (cc)
    by_name false v r e f h = absurd (cc)

-- ## Reading back

not_ok : {X E : Type 0} {Y : Type 0} (r : Result X E) (x : X) (e : E) → r ≡ Ok x → r ≡ Err e → Y
not_ok r x e is not = absurd (cc)

-- what was written is what was read, and no fault is told but that memory was refused
pub back : (text : List ℕ) (reading : Reading) (r : Result RuleFile YamlFault) → rule_file_of text ≡ reading → IfOk r (λ file. reading ≡ Ok file) → IfErr r (IsFileFault reading) →
    (file : RuleFile) → IsRuleFile file → text ≡ written_file file → ReadsBack file r
back text reading (Ok read) is value fault file h same = same_ok reading read file value (sym is ∙ ap rule_file_of same ∙ reads_back file h)
back text reading (Err (Bad line kind)) is value fault file h same = not_ok reading file (line, kind) (sym is ∙ ap rule_file_of same ∙ reads_back file h) fault
back text reading (Err NoMemory) is value fault file h same = refl
