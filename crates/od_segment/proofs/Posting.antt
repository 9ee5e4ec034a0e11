-- Posting lists are short enough to be packed.
use Rattle.std.proofs.Common.{ℕ, ◌+◌, ◌<◌, ◌≤◌, ◌^◌, Bool, true, false, cond, List, [], ◌∷◌, length, filter, flat_map, arith, length-append}
use Rattle.std.proofs.lemmas.List.{length-map}
use Rattle.std.proofs.lemmas.List.FromFn.{length-enumerate_from}
use Rattle.std.specs.List.{enumerate_from}
use Rattle.od_text.specs.Lists.{Each}
use Rattle.od_document.specs.Size.{size_in_parts}
use Rattle.od_document.specs.declared.sentence.Sentence.{Sentence}
use Rattle.od_document.specs.declared.token.Token.{Token}
use Rattle.od_index.specs.Postings.{Posting, postings, postings_in, posting_lists, stands_at}
use Rattle.od_index.specs.Terms.{Term}
use Rattle.od_index.proofs.Postings.{postings-ascend}
use Rattle.od_packed.specs.PackedLists.{MayBePacked}

kept-few : {X : Type 0} (p : X → Bool) (xs : List X) → length (filter p xs) ≤ length xs
kept-few p [] = omega arith
kept-few p (x ∷ xs) = by (p x) (kept-few p xs)
  where
    by : (b : Bool) → length (filter p xs) ≤ length xs → length (cond b (x ∷ filter p xs) (filter p xs)) ≤ length (x ∷ xs)
    by true few = omega (arith, few)
    by false few = omega (arith, few)

-- of a sentence there are no more pairs than tokens
sentence-few : (term : Term) (n : ℕ) (s : Sentence) → length (postings_in term (n, s)) ≤ length s.tokens
sentence-few term n s =
    omega (
      arith,
      length-map {B = Posting} (filter (stands_at term s) (enumerate_from 0 s.tokens)) (λ (t : ℕ × Token). (n, t.0)),
      kept-few (stands_at term s) (enumerate_from 0 s.tokens),
      length-enumerate_from 0 s.tokens,
    )

few-from : (term : Term) (n : ℕ) (ss : List Sentence) → length (flat_map (postings_in term) (enumerate_from n ss)) ≤ size_in_parts ss
few-from term n [] = omega arith
few-from term n (s ∷ ss) =
    omega (
      arith,
      length-append (postings_in term (n, s)) (flat_map (postings_in term) (enumerate_from (n + 1) ss)),
      sentence-few term n s,
      few-from term (n + 1) ss,
    )

-- a list has no more pairs than the sentences have parts
pub postings-few : (term : Term) (ss : List Sentence) → length (postings term ss) ≤ size_in_parts ss
postings-few term ss = few-from term 0 ss

-- so all can be packed where there are few parts
pub lists-packable : (table : List Term) (ss : List Sentence) → size_in_parts ss < 2 ^ 32 → Each MayBePacked (posting_lists table ss)
lists-packable [] ss small = tt
lists-packable (term ∷ table) ss small = (record { count = omega (arith, postings-few term ss, small); ascends = postings-ascend term ss }, lists-packable table ss small)
