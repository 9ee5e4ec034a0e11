-- How far the lines of a text were read, and reading on by one line.
use Rattle.std.proofs.Common.{◌≡◌, ℕ, ◌+◌, ◌<◌, ◌≤◌, List, [], ◌∷◌, ◌++◌, length, map, drop, Bool, true, false, refl, sym, ap, ◌∙◌, subst, Option, None, Some, append_assoc, get_or, drop-cons, add-one}
use Rattle.std.specs.Prelude.{if◌then◌else◌}
use Rattle.std.specs.List.{All, slice_split}
use Rattle.std.proofs.lemmas.List.{map-append, append-nil, drop_all}
use Rattle.std.proofs.lemmas.List.Elements.{All-push, All-nil}
use Rattle.std.proofs.lemmas.List.Splits.{slice_split_at, slice_split_none}
use Rattle.od_document.specs.declared.sentence.Sentence.{Sentence}
use Rattle.od_document.specs.declared.conllu.ConlluFault.{ConlluFault}
use Rattle.od_document.specs.Lines.{Line, is_blank, numbered}
use Rattle.od_document.specs.Words.{WordLine, word_lines_of, content_of}
use Rattle.od_document.specs.Faults.{lines_fault, block_fault, blocks_fault, sentences_in, heads_fault, content_fault, fault_at}
use Rattle.od_document.specs.Reading.{shown, tokens_and_edges}
use Rattle.od_document.proofs.Faults.{blocks_fault-append, sentences_in-append, lines_fault-snoc, fault_in_block, words_of-append, option_or-none}
use Rattle.od_conllu.specs.declared.fault.ReadDocFault.{ReadDocFault}
use Rattle.od_conllu.specs.declared.fault.ReadDocFault.TheVariants.{Bad, NoMemory}
use Rattle.od_conllu.specs.Lines.{IfBad}
use Rattle.od_conllu.specs.Steps.{Adds, Steps, step_fault, sentence_in, AreRead}

-- some blocks were read without a fault, and of the next one these lines, which have these word lines
pub record IsAt (done : List (List Line)) (block : List Line) (sentences : List Sentence) (ws : List WordLine) : Type 0 where
  pub before : blocks_fault done ≡ None
  pub sentences_are : map shown sentences ≡ map tokens_and_edges (sentences_in done)
  pub lines : lines_fault 0 block ≡ None
  pub words : ws ≡ word_lines_of block
  pub filled : All (λ l. is_blank l ≡ false) block

-- these lines are left of all the blocks
abbrev pub Reaches : List (List Line) → List Line → List Sentence → List WordLine → Type 0
Reaches all rest sentences ws = (done : List (List Line)) × (block : List Line) × IsAt done block sentences ws × (all ≡ done ++ slice_split is_blank (block ++ rest))

-- the fault of a block whose lines have none
block_heads : (done : List (List Line)) (block : List Line) (ss : List Sentence) (ws : List WordLine) (o : Option ConlluFault) → IsAt done block ss ws
    → heads_fault (length ws) ws ≡ o → block_fault block ≡ o
block_heads done block ss ws o at heads = rw (at.lines, ← at.words, heads) refl

-- the blocks up to the end of this one
up_to : (done : List (List Line)) (block : List Line) (ss new : List Sentence) (ws : List WordLine) → IsAt done block ss ws
    → heads_fault (length ws) ws ≡ None → Adds ss ws new → AreRead (done ++ block ∷ []) new
up_to done block ss new ws at heads added = record {
  faultless = blocks_fault-append done (block ∷ []) ∙ rw (at.before) (option_or-none (block_fault block) ∙ block_heads done block ss ws None at heads);
  sentences_are = added ∙ rw (at.sentences_are, at.words, sentences_in-append) (sym (map-append tokens_and_edges (sentences_in done) (sentence_in (word_lines_of block))));
}

reads_blank : (all : List (List Line)) (l : Line) (rest : List Line) (ss new : List Sentence) (ws : List WordLine) → Reaches all (l ∷ rest) ss ws → is_blank l ≡ true
    → heads_fault (length ws) ws ≡ None → Adds ss ws new → Reaches all rest new []
reads_blank all l rest ss new ws r blank heads added =
    let done : List (List Line) = r.0 in
    let block : List Line = r.1 in
    let at : IsAt done block ss ws = r.2 in
    let read = up_to done block ss new ws at heads added in (
      done ++ block ∷ [],
      [],
      record { before = read.faultless; sentences_are = read.sentences_are; lines = refl; words = refl; filled = All-nil (λ l. is_blank l ≡ false) },
      r.3 ∙ ap (λ bs. done ++ bs) (slice_split_at is_blank block l rest at.filled blank) ∙ sym (append_assoc done (block ∷ []) (slice_split is_blank rest)),
    )

blank_fault : (all : List (List Line)) (l : Line) (rest : List Line) (ss : List Sentence) (ws : List WordLine) (f : ConlluFault) → Reaches all (l ∷ rest) ss ws → is_blank l ≡ true
    → heads_fault (length ws) ws ≡ Some f → blocks_fault all ≡ Some f
blank_fault all l rest ss ws f r blank heads =
    let done : List (List Line) = r.0 in
    let block : List Line = r.1 in
    let at : IsAt done block ss ws = r.2 in
    let here : block_fault block ≡ Some f = block_heads done block ss ws (Some f) at heads in
    rw (r.3, slice_split_at is_blank block l rest at.filled blank, blocks_fault-append, at.before, here) refl

reads_filled : (all : List (List Line)) (l : Line) (rest : List Line) (ss new : List Sentence) (ws : List WordLine) → Reaches all (l ∷ rest) ss ws → is_blank l ≡ false
    → fault_at l.number (content_fault (length ws) (content_of l.text)) ≡ None → Adds ss [] new → Reaches all rest new (ws ++ word_lines_of (l ∷ []))
reads_filled all l rest ss new ws r filled faultless same =
    let done : List (List Line) = r.0 in
    let block : List Line = r.1 in
    let at : IsAt done block ss ws = r.2 in (
      done,
      block ++ l ∷ [],
      record {
        before = at.before;
        sentences_are = same ∙ append-nil (map shown ss) ∙ at.sentences_are;
        lines = lines_fault-snoc block l at.lines ∙ rw (← at.words) faultless;
        words = rw (at.words) (sym (words_of-append block (l ∷ [])));
        filled = All-push (λ l. is_blank l ≡ false) block l at.filled filled;
      },
      r.3 ∙ ap (λ ls. done ++ slice_split is_blank ls) (sym (append_assoc block (l ∷ []) rest)),
    )

filled_fault : (all : List (List Line)) (l : Line) (rest : List Line) (ss : List Sentence) (ws : List WordLine) (f : ConlluFault) → Reaches all (l ∷ rest) ss ws → is_blank l ≡ false
    → fault_at l.number (content_fault (length ws) (content_of l.text)) ≡ Some f → blocks_fault all ≡ Some f
filled_fault all l rest ss ws f r filled fault =
    let done : List (List Line) = r.0 in
    let block : List Line = r.1 in
    let at : IsAt done block ss ws = r.2 in
    ap blocks_fault (r.3 ∙ ap (λ ls. done ++ slice_split is_blank ls) (sym (append_assoc block (l ∷ []) rest)))
    ∙ fault_in_block done (block ++ l ∷ []) rest f at.before (All-push (λ l. is_blank l ≡ false) block l at.filled filled) (lines_fault-snoc block l at.lines ∙ rw (← at.words) fault)

-- before the first line
pub reaches_none : (all : List Line) → Reaches (slice_split is_blank all) all [] []
reaches_none all = ([], [], record { before = refl; sentences_are = refl; lines = refl; words = refl; filled = All-nil (λ l. is_blank l ≡ false) }, refl)

-- a line without a fault leads on
pub reaches_more : (all : List (List Line)) (l : Line) (rest : List Line) (ss new : List Sentence) (ws more : List WordLine)
    → Reaches all (l ∷ rest) ss ws → Steps l ss ws new more → Reaches all rest new more
reaches_more all l rest ss new ws more r step = by (is_blank l) refl step.faultless step.sentences_are step.words_are
  where
    by : (t : Bool) → is_blank l ≡ t → (if t then heads_fault (length ws) ws else fault_at l.number (content_fault (length ws) (content_of l.text))) ≡ None
        → Adds ss (if t then ws else []) new → more ≡ (if t then [] else ws ++ word_lines_of (l ∷ [])) → Reaches all rest new more
    by true is faultless added words = subst (λ vs. Reaches all rest new vs) (sym words) (reads_blank all l rest ss new ws r is faultless added)
    by false is faultless added words = subst (λ vs. Reaches all rest new vs) (sym words) (reads_filled all l rest ss new ws r is faultless added)

-- a fault of the next line is the first one of all
step_faults : (all : List (List Line)) (l : Line) (rest : List Line) (ss : List Sentence) (ws : List WordLine) (f : ConlluFault)
    → Reaches all (l ∷ rest) ss ws → step_fault l ws ≡ Some f → blocks_fault all ≡ Some f
step_faults all l rest ss ws f r fault = by (is_blank l) refl fault
  where
    by : (t : Bool) → is_blank l ≡ t → (if t then heads_fault (length ws) ws else fault_at l.number (content_fault (length ws) (content_of l.text))) ≡ Some f → blocks_fault all ≡ Some f
    by true is fault = blank_fault all l rest ss ws f r is fault
    by false is fault = filled_fault all l rest ss ws f r is fault

pub step_bad : (all : List (List Line)) (l : Line) (rest : List Line) (ss : List Sentence) (ws : List WordLine) (e : ReadDocFault)
    → Reaches all (l ∷ rest) ss ws → IfBad e (λ f. step_fault l ws ≡ Some f) → IfBad e (λ f. blocks_fault all ≡ Some f)
step_bad all l rest ss ws (Bad f) r fault = step_faults all l rest ss ws f r fault
step_bad all l rest ss ws NoMemory r fault = tt

-- behind the last line
pub reads_end : (all : List (List Line)) (ss new : List Sentence) (ws : List WordLine) → Reaches all [] ss ws
    → heads_fault (length ws) ws ≡ None → Adds ss ws new → AreRead all new
reads_end all ss new ws r heads added =
    let done : List (List Line) = r.0 in
    let block : List Line = r.1 in
    let at : IsAt done block ss ws = r.2 in
    rw (r.3, append-nil, slice_split_none is_blank block at.filled) (up_to done block ss new ws at heads added)

end_fault : (all : List (List Line)) (ss : List Sentence) (ws : List WordLine) (f : ConlluFault) → Reaches all [] ss ws → heads_fault (length ws) ws ≡ Some f → blocks_fault all ≡ Some f
end_fault all ss ws f r heads =
    let done : List (List Line) = r.0 in
    let block : List Line = r.1 in
    let at : IsAt done block ss ws = r.2 in
    let here : block_fault block ≡ Some f = block_heads done block ss ws (Some f) at heads in
    rw (r.3, append-nil, slice_split_none is_blank block at.filled, blocks_fault-append, at.before, here) refl

pub end_bad : (all : List (List Line)) (ss : List Sentence) (ws : List WordLine) (e : ReadDocFault) → Reaches all [] ss ws
    → IfBad e (λ f. heads_fault (length ws) ws ≡ Some f) → IfBad e (λ f. blocks_fault all ≡ Some f)
end_bad all ss ws (Bad f) r heads = end_fault all ss ws f r heads
end_bad all ss ws NoMemory r heads = tt

-- the first of the lines that are left, behind k others
pub at_line : (all : List (List Line)) (n k : ℕ) (texts : List (List ℕ)) (text : List ℕ) (ss : List Sentence) (ws : List WordLine) → Reaches all (numbered n (drop k texts)) ss ws
    → (k < length texts) × (text ≡ get_or texts k text) → Reaches all (record { number = n; text = text } ∷ numbered (n + 1) (drop (k + 1) texts)) ss ws
at_line all n k texts text ss ws r h =
    let rest : drop k texts ≡ text ∷ drop (k + 1) texts = drop-cons texts k text h.0 ∙ rw (← h.1, add-one) refl in
    subst (λ ls. Reaches all ls ss ws) (ap (numbered n) rest) r

-- no line is left
pub at_end : (all : List (List Line)) (n k : ℕ) (texts : List (List ℕ)) (ss : List Sentence) (ws : List WordLine) → Reaches all (numbered n (drop k texts)) ss ws
    → length texts ≤ k → Reaches all [] ss ws
at_end all n k texts ss ws r past = subst (λ ls. Reaches all ls ss ws) (ap (numbered n) (drop_all k texts past)) r
