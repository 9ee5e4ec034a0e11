-- Words, lines one after another, and their first fault.
use Rattle.std.proofs.Common.{◌≡◌, ℕ, zero, suc, ◌+◌, ◌<◌, ◌≤◌, List, [], ◌∷◌, length, drop, true, false, refl, sym, ap, ◌∙◌, subst, arith}
use Rattle.std.specs.Prelude.{Some, None, Result, Ok, Err, nat_lt}
use Rattle.std.specs.Borrow.{Bor}
use Rattle.od_language.specs.Machine.{◌>>=◌}
use Rattle.od_order.specs.declared.keyword.Keyword.{Keyword}
use Rattle.od_order.specs.declared.script.Script.{Script}
use Rattle.od_order.specs.declared.script.TheConstants.{SCRIPT_BYTES}
use Rattle.od_order.specs.declared.script_kind.ScriptKind.TheVariants.{NotUtf8, TooLong}
use Rattle.od_order.specs.Lines.{whole_lines, line_text, says_nothing, has_bad_byte}
use Rattle.od_order.specs.Scripts.{Reading, script_lines, script_after, script_of, nothing_said, misplaced, unless_fault, take_saying, take_statement, take_keyword, take_line}
use Rattle.od_order.specs.Statements.{Statement, keyword_in, statement_of, block_count, block_with, block_behind}
use Rattle.od_script.specs.declared.script.ScriptFault.{ScriptFault}
use Rattle.od_script.specs.declared.script.ScriptFault.TheVariants.{Bad, NoMemory}
use Rattle.od_script.specs.Faults.{IsFaultOf}
use Rattle.od_script.specs.Readers.{line_at, IsPassed, Takes}

pub five_words : (a b c d : List ℕ) (all words : List (List ℕ)) → 0 < length words → all ≡ a ∷ b ∷ c ∷ d ∷ words
    → (b' c' d' e : List ℕ) × (more : List (List ℕ)) × (all ≡ a ∷ b' ∷ c' ∷ d' ∷ e ∷ more)
five_words a b c d all [] some is = absurd (omega arith)
five_words a b c d all (w ∷ words) some is = (b, c, d, w, words, is)

-- ## One line

module _ (s : Script) (number : ℕ) (line behind : List ℕ) where
  pub not_a_text : has_bad_byte line ≡ true → take_line s (line_at number line behind) ≡ Err (number, NotUtf8)
  not_a_text bad = rw bad refl

  pub nothing_taken : has_bad_byte line ≡ false → says_nothing (line_text line) ≡ true → take_line s (line_at number line behind) ≡ Ok s
  nothing_taken good nothing = rw good (rw nothing refl)

  pub line_taken : has_bad_byte line ≡ false → says_nothing (line_text line) ≡ false
      → take_line s (line_at number line behind) ≡ take_keyword s (line_at number line behind) (keyword_in (line_text line))
  line_taken good nothing = rw good (rw nothing refl)

  pub text_taken : (text : List ℕ) (k : Keyword) (said : Statement) → keyword_in text ≡ Some k → misplaced s k ≡ None → statement_of k text ≡ Ok said → line_text line ≡ text
      → take_keyword s (line_at number line behind) (keyword_in text) ≡ take_statement s (line_at number line behind) said
  text_taken text k said is may says same =
      ap (take_keyword s (line_at number line behind)) is
      ∙ ap (λ f. unless_fault number f (take_saying s (line_at number line behind) (statement_of k (line_text line)))) may
      ∙ ap (take_saying s (line_at number line behind)) (ap (statement_of k) same ∙ says)

pub said_block : (text : List ℕ) (k : Keyword) (said : Statement) → keyword_in text ≡ Some k → statement_of k text ≡ Ok said → block_with text (keyword_in text) ≡ block_count (Ok said)
said_block text k said is says = ap (block_with text) is ∙ ap block_count says

pub no_block : (text : List ℕ) → says_nothing text ≡ true → block_behind text ≡ 0
no_block text nothing = rw nothing refl

pub some_block : (text : List ℕ) → says_nothing text ≡ false → block_behind text ≡ block_with text (keyword_in text)
some_block text nothing = rw nothing refl

pub none_passed : (behind : Bor (List ℕ)) → IsPassed behind.now 0 (0, behind)
none_passed behind = record { count_is = refl; lines = refl; within = omega arith; few = omega arith }

-- the same of another reading and count
pub takes_as : (reading reading' : Reading) (new : Script) (behind : List ℕ) (count count' : ℕ) (r : Result (ℕ × Bor (List ℕ)) ScriptFault) → reading ≡ reading' → count ≡ count' → Takes reading' new behind count' r → Takes reading new behind count r
takes_as reading reading' new behind count count' r e f h = subst (λ x. Takes x new behind count r) (sym e) (subst (λ n. Takes reading' new behind n r) (sym f) h)

-- ## Line by line

-- the lines of a block are passed over
passed_over : (n k : ℕ) (lines : List (List ℕ)) → k ≤ length lines → script_lines n k lines ≡ script_lines (n + k) 0 (drop k lines)
passed_over n zero lines within = let e : n + 0 ≡ n = omega arith in ap (λ m. script_lines m 0 lines) (sym e)
passed_over n (suc k) [] within = absurd (omega arith)
passed_over n (suc k) (line ∷ lines) within =
    let e : n + 1 + k ≡ n + suc k = omega arith in
    passed_over (n + 1) k lines (omega arith) ∙ ap (λ m. script_lines m 0 (drop k lines)) e

-- what follows one line
pub goes_on : (s next : Script) (number block : ℕ) (line rest behind more : List ℕ) → whole_lines rest ≡ line ∷ whole_lines behind → take_line s (line_at number line behind) ≡ Ok next
    → block ≡ block_behind (line_text line) → block_behind (line_text line) ≤ length (whole_lines behind) → whole_lines more ≡ drop (block_behind (line_text line)) (whole_lines behind)
    → script_after s (script_lines number 0 (whole_lines rest)) ≡ script_after next (script_lines (number + (1 + block)) 0 (whole_lines more))
goes_on s next number block line rest behind more cut taken count within left =
    let e : number + 1 + block_behind (line_text line) ≡ number + (1 + block) = omega (arith, count) in
    ap (λ ls. script_after s (script_lines number 0 ls)) cut
    ∙ ap (λ r. r >>= λ t. script_after t (script_lines (number + 1) (block_behind (line_text line)) (whole_lines behind))) taken
    ∙ ap (script_after next) (passed_over (number + 1) (block_behind (line_text line)) (whole_lines behind) within
    ∙ ap (λ m. script_lines m 0 (drop (block_behind (line_text line)) (whole_lines behind))) e ∙ ap (script_lines (number + (1 + block)) 0) (sym left))

failed_on : (reading : Reading) (f : Script → Reading) (fault : ScriptFault) → IsFaultOf reading fault → IsFaultOf (reading >>= f) fault
failed_on reading f (Bad line kind) e = ap (λ r. r >>= f) e
failed_on reading f NoMemory e = tt

-- the fault of a line is that of all
pub fails : (all : Reading) (s : Script) (number : ℕ) (line rest behind : List ℕ) (fault : ScriptFault) → all ≡ script_after s (script_lines number 0 (whole_lines rest)) → whole_lines rest ≡ line ∷ whole_lines behind
    → IsFaultOf (take_line s (line_at number line behind)) fault → IsFaultOf all fault
fails all s number line rest behind fault is cut h =
    subst (λ r. IsFaultOf r fault) (sym (is ∙ ap (λ ls. script_after s (script_lines number 0 ls)) cut))
    (failed_on (take_line s (line_at number line behind)) (λ t. script_after t (script_lines (number + 1) (block_behind (line_text line)) (whole_lines behind))) fault h)

-- a script that is not too long
pub script_is : (bytes : List ℕ) → nat_lt SCRIPT_BYTES (length bytes) ≡ false → script_of bytes ≡ script_after nothing_said (script_lines 1 0 (whole_lines bytes))
unfolding script_of
script_is bytes e = rw e refl

pub too_long : (bytes : List ℕ) → nat_lt SCRIPT_BYTES (length bytes) ≡ true → script_of bytes ≡ Err (0, TooLong)
unfolding script_of
too_long bytes e = rw e refl
