-- The words of tokens, joined by one space.
use Rattle.std.proofs.Common.{◌≡◌, ℕ, zero, suc, ◌+◌, ◌-◌, ◌<◌, ◌≤◌, List, [], ◌∷◌, ◌++◌, length, take, drop, map, Option, Some, None, slice_get, refl, sym, ap, ◌∙◌, append_assoc, arith}
use Rattle.std.specs.Prelude.{IsSomeAnd, option_map}
use Rattle.std.specs.Borrow.{Bor}
use Rattle.std.specs.List.{join_with_byte}
use Rattle.std.proofs.lemmas.List.{length-map, length-take, length-drop, map-append}
use Rattle.std.proofs.lemmas.Option.{slice_get_within}
use Rattle.od_document.specs.declared.token.Token.{Token}
use Rattle.od_index.specs.Sentences.{Indexed}
use Rattle.od_line.specs.Mentions.{text_in, tokens_in}
use Rattle.od_postings.proofs.Lists.{taken_more}
use Rattle.od_lines.specs.Words.{tokens_of}

-- the tokens of a sentence that is kept are those of the document's
pub same_tokens : (words : Option (Bor Indexed)) → tokens_of words ≡ tokens_in (option_map (λ w. w.now.sentence) words)
same_tokens None = refl
same_tokens (Some words) = refl

-- one piece more behind others
joined_more : (first : List ℕ) (rest : List (List ℕ)) (last : List ℕ) → join_with_byte 32 ((first ∷ rest) ++ last ∷ []) ≡ join_with_byte 32 (first ∷ rest) ++ 32 ∷ last
joined_more first [] last = refl
joined_more first (next ∷ rest) last =
    ap (λ text. first ++ 32 ∷ text) (joined_more next rest last) ∙ sym (append_assoc first (32 ∷ join_with_byte 32 (next ∷ rest)) (32 ∷ last))

joined_behind : (some : List (List ℕ)) (last : List ℕ) → 0 < length some → join_with_byte 32 (some ++ last ∷ []) ≡ join_with_byte 32 some ++ 32 ∷ last
joined_behind [] last h = absurd (omega arith)
joined_behind (first ∷ rest) last h = joined_more first rest last

-- an element behind others that were left out
got_behind : {X : Type 0} (xs : List X) (start at : ℕ) → start ≤ at → slice_get (drop start xs) (at - start) ≡ slice_get xs at
got_behind xs zero at h = let same : at - 0 ≡ at = omega arith in ap (slice_get xs) same
got_behind [] (suc start) at h = refl
got_behind (x ∷ xs) (suc start) zero h = absurd (omega arith)
got_behind (x ∷ xs) (suc start) (suc at) h =
    let below : start ≤ at = omega arith in
    let same : suc at - suc start ≡ at - start = omega arith in
    ap (slice_get (drop start xs)) same ∙ got_behind xs start at below

-- a span of one token more
span_more : (tokens : List Token) (start at : ℕ) (t : Token) → start ≤ at → slice_get tokens at ≡ Some t
    → map (λ token. token.word) (take (at + 1 - start) (drop start tokens)) ≡ map (λ token. token.word) (take (at - start) (drop start tokens)) ++ t.word ∷ []
span_more tokens start at t h e =
    let one : at + 1 - start ≡ at - start + 1 = omega arith in
    let more : take (at + 1 - start) (drop start tokens) ≡ take (at - start) (drop start tokens) ++ t ∷ [] =
    ap (λ n. take n (drop start tokens)) one ∙ taken_more (drop start tokens) (at - start) t (got_behind tokens start at h ∙ e) in
    ap (map (λ token. token.word)) more ∙ map-append (λ token. token.word) (take (at - start) (drop start tokens)) (t ∷ [])

long_enough : (tokens : List Token) (start at : ℕ) → start < at → at < length tokens → 0 < length (map (λ token. token.word) (take (at - start) (drop start tokens)))
long_enough tokens start at below within = simp (length-map, length-take, length-drop) (omega arith)

-- the word of a token, behind a space where it is not the first of its span
pub next_word : (tokens : List Token) (start at : ℕ) (word : List ℕ) → start < at → IsSomeAnd (slice_get tokens at) (λ t. t.word ≡ word)
    → text_in tokens start at ++ 32 ∷ word ≡ text_in tokens start (at + 1)
next_word tokens start at word below h = by (slice_get tokens at) refl h
  where
    by : (o : Option Token) → slice_get tokens at ≡ o → IsSomeAnd o (λ t. t.word ≡ word) → text_in tokens start at ++ 32 ∷ word ≡ text_in tokens start (at + 1)
    by None e h = absurd h
    by (Some t) e h =
        let same : t.word ≡ word = h in
        let upto : start ≤ at = omega arith in
        let within : at < length tokens = slice_get_within tokens at t e in
        ap (λ w. text_in tokens start at ++ 32 ∷ w) (sym same)
        ∙ sym (joined_behind (map (λ token. token.word) (take (at - start) (drop start tokens))) t.word (long_enough tokens start at below within))
        ∙ ap (join_with_byte 32) (sym (span_more tokens start at t upto e))

-- the first word of a span stands alone
pub first_word : (tokens : List Token) (start : ℕ) (word : List ℕ) → IsSomeAnd (slice_get tokens start) (λ t. t.word ≡ word) → word ≡ text_in tokens start (start + 1)
first_word tokens start word h = by (slice_get tokens start) refl h
  where
    by : (o : Option Token) → slice_get tokens start ≡ o → IsSomeAnd o (λ t. t.word ≡ word) → word ≡ text_in tokens start (start + 1)
    by None e h = absurd h
    by (Some t) e h =
        let same : t.word ≡ word = h in
        let upto : start ≤ start = omega arith in
        let none : start - start ≡ 0 = omega arith in
        sym same ∙ ap (λ n. join_with_byte 32 (map (λ token. token.word) (take n (drop start tokens)) ++ t.word ∷ [])) (sym none)
        ∙ ap (join_with_byte 32) (sym (span_more tokens start start t upto e))
