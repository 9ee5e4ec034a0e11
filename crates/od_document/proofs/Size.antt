-- A document has no more parts than bytes.
use Rattle.std.proofs.Common.{◌≡◌, ℕ, ◌+◌, ◌-◌, ◌*◌, ◌≤◌, List, [], ◌∷◌, length, length-drop, drop, map, take, Bool, true, false, refl, ap, arith, Option, None, Some, length-append}
use Rattle.std.specs.Prelude.{◌==◌, if◌then◌else◌, nat_lt, nat_eq, slice_index, cond}
use Rattle.std.specs.List.{slice_split, onto_first, cons_option, starts_with}
use Rattle.std.specs.Str.Lines.{lines, lines_of_parts, strip_carriage_return}
use Rattle.std.proofs.lemmas.Bool.{ltb-true}
use Rattle.std.proofs.lemmas.Grind.{common_steps}
use Rattle.std.proofs.lemmas.List.{length-map}
use Rattle.od_document.specs.declared.token.Token.{Token}
use Rattle.od_document.specs.declared.token.Edge.{Edge}
use Rattle.od_document.specs.declared.sentence.Sentence.{Sentence}
use Rattle.od_document.specs.Lines.{Line, is_blank, lines_of, numbered, blocks_of, without_mark}
use Rattle.od_document.specs.Columns.{LineColumns, line_columns_of, columns_of, word_id}
use Rattle.od_document.specs.Words.{WordLine, no_word, word_lines_of, content_of, content_by_columns, content_by_id, word_line_at, edges_from, edge_of, head_number, token_of}
use Rattle.od_document.specs.Faults.{sentences_in}
use Rattle.od_document.specs.Reading.{shown, tokens_and_edges}
use Rattle.od_document.specs.Size.{sentence_parts, size_in_parts}

-- the sum over a list, and over a list of lists
abbrev pub total : {X : Type 0} → (X → ℕ) → List X → ℕ
total f [] = 0
total f (x ∷ xs) = f x + total f xs

abbrev pub total_of : {X : Type 0} → (X → ℕ) → List (List X) → ℕ
total_of f [] = 0
total_of f (x ∷ xs) = total f x + total_of f xs

onto_total : {X : Type 0} (f : X → ℕ) (x : X) (xs : List (List X)) → total_of f (onto_first x xs) ≡ f x + total_of f xs
onto_total f x [] = omega arith
onto_total f x (part ∷ parts) = omega arith

split_cond : {X : Type 0} (f : X → ℕ) (t : Bool) (x : X) (n : ℕ) (parts : List (List X)) → total_of f parts ≤ n → total_of f (cond t ([] ∷ parts) (onto_first x parts)) ≤ f x + n
split_cond f true x n parts h = omega arith
split_cond f false x n parts h = omega (arith, onto_total f x parts)

pub split_total : {X : Type 0} (f : X → ℕ) (p : X → Bool) (xs : List X) → total_of f (slice_split p xs) ≤ total f xs
split_total f p [] = omega arith
split_total f p (x ∷ xs) = split_cond f (p x) x (total f xs) (slice_split p xs) (split_total f p xs)

ones : (xs : List ℕ) → total (λ _. 1) xs ≡ length xs
ones [] = refl
ones (x ∷ xs) = omega (arith, ones xs)

-- the lines are no longer than the text
stripped : (l : List ℕ) → length (strip_carriage_return l) ≤ length l
stripped l = by (slice_index l (length l - 1) == 13)
  where
    by : (t : Bool) → length (if t then take (length l - 1) l else l) ≤ length l
    by true = grind (arith, common_steps)
    by false = omega arith

kept : (t : Bool) (l : List ℕ) → total length (if t then [] else l ∷ []) ≤ length l
kept true l = omega arith
kept false l = omega arith

lines_short : (ps : List (List ℕ)) → total length (lines_of_parts ps) ≤ total_of (λ _. 1) ps
lines_short [] = omega arith
lines_short (x ∷ []) = omega (arith, kept (length x == 0) x, ones x)
lines_short (x ∷ y ∷ more) = omega (arith, stripped x, ones x, lines_short (y ∷ more))

numbered_total : (n : ℕ) (ls : List (List ℕ)) → total (λ (l : Line). length l.text) (numbered n ls) ≡ total length ls
numbered_total n [] = refl
numbered_total n (l ∷ ls) = omega (arith, numbered_total (n + 1) ls)

pub blocks_short : (text : List ℕ) → total_of (λ (l : Line). length l.text) (blocks_of text) ≤ length text
blocks_short text = omega (arith, split_total (λ (l : Line). length l.text) is_blank (lines_of text), numbered_total 1 (lines text), lines_short (slice_split (λ b. b == 10) text), split_total (λ _. 1) (λ b. b == 10) text, ones text)

-- a word line has nine tabs
onto_length : {X : Type 0} (x : X) (parts : List (List X)) (n : ℕ) → length parts ≤ n + 1 → length (onto_first x parts) ≤ n + 2
onto_length x [] n h = omega arith
onto_length x (part ∷ parts) n h = omega arith

cond_length : {X : Type 0} (t : Bool) (x : X) (parts : List (List X)) (n : ℕ) → length parts ≤ n + 1 → length (cond t ([] ∷ parts) (onto_first x parts)) ≤ n + 2
cond_length true x parts n h = omega arith
cond_length false x parts n h = onto_length x parts n h

split_length : {X : Type 0} (p : X → Bool) (xs : List X) → length (slice_split p xs) ≤ length xs + 1
split_length p [] = omega arith
split_length p (x ∷ xs) = omega (arith, cond_length (p x) x (slice_split p xs) (length xs) (split_length p xs))

columns_long : (cs : List (List ℕ)) (columns : LineColumns) → line_columns_of cs ≡ Some columns → 10 ≤ length cs
columns_long [] columns e = absurd (cc)
columns_long (a ∷ []) columns e = absurd (cc)
columns_long (a ∷ b ∷ []) columns e = absurd (cc)
columns_long (a ∷ b ∷ c ∷ []) columns e = absurd (cc)
columns_long (a ∷ b ∷ c ∷ d ∷ []) columns e = absurd (cc)
columns_long (a ∷ b ∷ c ∷ d ∷ g ∷ []) columns e = absurd (cc)
columns_long (a ∷ b ∷ c ∷ d ∷ g ∷ h ∷ []) columns e = absurd (cc)
columns_long (a ∷ b ∷ c ∷ d ∷ g ∷ h ∷ i ∷ []) columns e = absurd (cc)
columns_long (a ∷ b ∷ c ∷ d ∷ g ∷ h ∷ i ∷ j ∷ []) columns e = absurd (cc)
columns_long (a ∷ b ∷ c ∷ d ∷ g ∷ h ∷ i ∷ j ∷ k ∷ []) columns e = absurd (cc)
columns_long (a ∷ b ∷ c ∷ d ∷ g ∷ h ∷ i ∷ j ∷ k ∷ l ∷ more) columns e = omega arith

word_long : (n : ℕ) (text : List ℕ) (t : Bool) (cs : List (List ℕ)) (o : Option LineColumns) → line_columns_of cs ≡ o → length cs ≤ length text + 1
    → 3 * length (cons_option (word_line_at n (if t then no_word else content_by_columns o)) []) ≤ length text
word_long n text true cs o e h = omega arith
word_long n text false cs None e h = omega arith
word_long n text false cs (Some columns) e h = by (word_line_at n (content_by_id columns (word_id columns.id))) (columns_long cs columns e)
  where
    by : (w : Option WordLine) → 10 ≤ length cs → 3 * length (cons_option w []) ≤ length text
    by None long = omega arith
    by (Some w) long = omega arith

line_long : (l : Line) → 3 * length (word_lines_of (l ∷ [])) ≤ length l.text
line_long l = word_long l.number l.text (slice_index l.text 0 == 35) (columns_of l.text) (line_columns_of (columns_of l.text)) refl (split_length (λ b. b == 9) l.text)

pub cons_length : {X : Type 0} (o : Option X) (xs : List X) → length (cons_option o xs) ≡ length (cons_option o []) + length xs
cons_length None xs = omega arith
cons_length (Some x) xs = omega arith

words_short : (ls : List Line) → 3 * length (word_lines_of ls) ≤ total (λ (l : Line). length l.text) ls
words_short [] = omega arith
words_short (l ∷ ls) = omega (arith, line_long l, words_short ls, cons_length (word_line_at l.number (content_of l.text)) (word_lines_of ls))

-- each word gives one edge at most
edge_short : (p : ℕ) (w : WordLine) → length (edge_of p w) ≤ 1
edge_short p w = by (head_number w == 0) _
  where
    by : (t : Bool) (e : Edge) → length (if t then [] else e ∷ []) ≤ 1
    by true e = omega arith
    by false e = omega arith

pub edges_short : (p : ℕ) (ws : List WordLine) → length (edges_from p ws) ≤ length ws
edges_short p [] = omega arith
edges_short p (w ∷ ws) = omega (arith, edge_short p w, edges_short (p + 1) ws, length-append (edge_of p w) (edges_from (p + 1) ws))

-- the size of what sentences show
abbrev size_shown : List (List Token × List Edge) → ℕ
size_shown [] = 0
size_shown (p ∷ ps) = (1 + length p.0 + length p.1) + size_shown ps

shown_size : (ss : List Sentence) → size_in_parts ss ≡ size_shown (map shown ss)
shown_size [] = refl
shown_size (s ∷ ss) = ap (λ n. sentence_parts s + n) (shown_size ss)

filled_size : (t : Bool) (ws : List WordLine) (rest : List (List WordLine)) → nat_lt 0 (length ws) ≡ t
    → size_shown (map tokens_and_edges (cond t (ws ∷ rest) rest)) ≤ 3 * length ws + size_shown (map tokens_and_edges rest)
filled_size true ws rest e = omega (arith, ltb-true 0 (length ws) e, edges_short 0 ws, length-map ws token_of)
filled_size false ws rest e = omega arith

sentences_short : (bs : List (List Line)) → size_shown (map tokens_and_edges (sentences_in bs)) ≤ total_of (λ (l : Line). length l.text) bs
sentences_short [] = omega arith
sentences_short (b ∷ bs) = omega (arith, filled_size (nat_lt 0 (length (word_lines_of b))) (word_lines_of b) (sentences_in bs) refl, words_short b, sentences_short bs)

pub size_short : (text : List ℕ) (ss : List Sentence) → map shown ss ≡ map tokens_and_edges (sentences_in (blocks_of text)) → size_in_parts ss ≤ length text
size_short text ss e = omega (arith, shown_size ss, ap size_shown e, sentences_short (blocks_of text), blocks_short text)

pub mark_short : (bytes : List ℕ) → length (without_mark bytes) ≤ length bytes
mark_short bytes = by (starts_with nat_eq bytes (239 ∷ 187 ∷ 191 ∷ []))
  where
    by : (t : Bool) → length (if t then drop 3 bytes else bytes) ≤ length bytes
    by true = omega (arith, length-drop 3 bytes)
    by false = omega arith
