-- Faults, words and blocks of lists of lines that are put together.
use Rattle.std.proofs.Common.{◌≡◌, ℕ, suc, ◌+◌, ◌<◌, List, [], ◌∷◌, ◌++◌, length, map, Bool, false, refl, sym, ap, ◌∙◌, arith, Option, None, Some, length-append}
use Rattle.std.specs.Option.{option_or}
use Rattle.std.specs.List.{slice_split, onto_first, All}
use Rattle.std.proofs.lemmas.List.Elements.{filter_map-append, filter-append}
use Rattle.std.proofs.lemmas.List.{map-append}
use Rattle.std.proofs.lemmas.List.Splits.{slice_split-cons_no, length-slice_split}
use Rattle.od_document.specs.declared.conllu.ConlluFault.{ConlluFault}
use Rattle.od_document.specs.Lines.{Line, is_blank}
use Rattle.od_document.specs.Words.{word_lines_of, content_of, word_line_at}
use Rattle.od_document.specs.Faults.{lines_fault, content_fault, fault_at, blocks_fault, block_fault, sentences_in}

pub option_or_assoc : {T : Type 0} (x y z : Option T) → option_or (option_or x y) z ≡ option_or x (option_or y z)
option_or_assoc None y z = refl
option_or_assoc (Some x) y z = refl

pub option_or-none : {T : Type 0} (x : Option T) → option_or x None ≡ x
option_or-none None = refl
option_or-none (Some x) = refl

pub words_of-append : (xs ys : List Line) → word_lines_of (xs ++ ys) ≡ word_lines_of xs ++ word_lines_of ys
words_of-append xs ys = filter_map-append (λ l. word_line_at l.number (content_of l.text)) xs ys

pub lines_fault-append : (k : ℕ) (xs ys : List Line) → lines_fault k (xs ++ ys) ≡ option_or (lines_fault k xs) (lines_fault (k + length (word_lines_of xs)) ys)
lines_fault-append k [] ys = let e : k + 0 ≡ k = omega arith in rw e refl
lines_fault-append k (l ∷ xs) ys =
    let more : length (word_lines_of (l ∷ xs)) ≡ length (word_lines_of (l ∷ [])) + length (word_lines_of xs) = ap length (words_of-append (l ∷ []) xs) ∙ length-append (word_lines_of (l ∷ [])) (word_lines_of xs) in
    let e : k + length (word_lines_of (l ∷ xs)) ≡ (k + length (word_lines_of (l ∷ []))) + length (word_lines_of xs) = omega (arith, more) in
    ap (option_or (fault_at l.number (content_fault k (content_of l.text)))) (lines_fault-append (k + length (word_lines_of (l ∷ []))) xs ys ∙ ap (λ n. option_or (lines_fault (k + length (word_lines_of (l ∷ []))) xs) (lines_fault n ys)) (sym e))
    ∙ sym (option_or_assoc (fault_at l.number (content_fault k (content_of l.text))) (lines_fault (k + length (word_lines_of (l ∷ []))) xs) (lines_fault (k + length (word_lines_of (l ∷ xs))) ys))

-- one more line
pub lines_fault-snoc : (xs : List Line) (l : Line) → lines_fault 0 xs ≡ None → lines_fault 0 (xs ++ l ∷ []) ≡ fault_at l.number (content_fault (length (word_lines_of xs)) (content_of l.text))
lines_fault-snoc xs l none = let z : 0 + length (word_lines_of xs) ≡ length (word_lines_of xs) = omega arith in lines_fault-append 0 xs (l ∷ []) ∙ rw (none, z) (option_or-none (fault_at l.number (content_fault (length (word_lines_of xs)) (content_of l.text))))

pub blocks_fault-append : (bs cs : List (List Line)) → blocks_fault (bs ++ cs) ≡ option_or (blocks_fault bs) (blocks_fault cs)
blocks_fault-append [] cs = refl
blocks_fault-append (b ∷ bs) cs = ap (option_or (block_fault b)) (blocks_fault-append bs cs) ∙ sym (option_or_assoc (block_fault b) (blocks_fault bs) (blocks_fault cs))

pub sentences_in-append : (bs cs : List (List Line)) → sentences_in (bs ++ cs) ≡ sentences_in bs ++ sentences_in cs
sentences_in-append bs cs = rw (map-append) (filter-append _ (map word_lines_of bs) (map word_lines_of cs))

-- the first part begins with what no break is in
pub split_front : {X : Type 0} (p : X → Bool) (xs ys : List X) → All (λ x. p x ≡ false) xs
    → (first : List X) × (others : List (List X)) × (slice_split p (xs ++ ys) ≡ (xs ++ first) ∷ others)
split_front {X} p [] ys none = parts (slice_split p ys) refl (omega (arith, length-slice_split p ys))
  where
    parts : (bs : List (List X)) → slice_split p ys ≡ bs → 0 < length bs → (first : List X) × (others : List (List X)) × (slice_split p ys ≡ first ∷ others)
    parts [] e some = absurd (omega arith)
    parts (b ∷ bs) e some = (b, bs, e)
split_front p (x ∷ xs) ys none =
    let rest = split_front p xs ys (λ k d h. none (suc k) d (omega arith)) in
    (rest.0, rest.1, slice_split-cons_no p x (xs ++ ys) (none 0 x (omega arith)) ∙ ap (onto_first x) rest.2)

-- a fault in the lines of a block, whatever follows
pub fault_in_block : (bs : List (List Line)) (xs ys : List Line) (f : ConlluFault) → blocks_fault bs ≡ None → All (λ l. is_blank l ≡ false) xs
    → lines_fault 0 xs ≡ Some f → blocks_fault (bs ++ slice_split is_blank (xs ++ ys)) ≡ Some f
fault_in_block bs xs ys f before filled here =
    let split = split_front is_blank xs ys filled in
    rw (split.2, blocks_fault-append, before, lines_fault-append, here) refl
