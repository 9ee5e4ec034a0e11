-- Which sentences of a segment are wanted by its posting lists and the mentions that are known.
use Rattle.std.specs.Prelude.{ℕ, Bool, false, ◌==◌, cond, nat_lt, List, [], ◌∷◌, map, Option, None, Some, slice_get}
use Rattle.od_extraction.specs.declared.mention.Mention.{Mention}
use Rattle.od_index.specs.Postings.{posting_lists}
use Rattle.od_index.specs.Segments.{Stored}
use Rattle.od_index.specs.Sites.{Site, later, sentences_in}
use Rattle.od_matching.specs.Matching.Rules.{labelled}
use Rattle.od_matching.specs.Rounds.Round.{known_at}
use Rattle.od_need.specs.Occurs.{some_label}
use Rattle.od_search.specs.Posted.{has_posting}
use Rattle.od_plan.specs.Wanted.{wanted}
use Rattle.od_plan.specs.declared.searched.Searched.{Searched}
use Rattle.od_plan.specs.declared.wanted.Wanted.{Wanted}

-- a posting list, and none where there is none
abbrev pub list_or_none : Option (List (ℕ × ℕ)) → List (ℕ × ℕ)
list_or_none None = []
list_or_none (Some pairs) = pairs

-- the number is posted at the sentence
abbrev pub is_posted : List (List (ℕ × ℕ)) → ℕ → ℕ → Bool
is_posted lists n i = has_posting (list_or_none (slice_get lists n)) i

-- the posting lists of a segment
abbrev pub lists_of : Stored → List (List (ℕ × ℕ))
lists_of s = posting_lists s.table (sentences_in s.sites)

-- a sentence, where there is one, has a mention with the label
abbrev pub label_there : List Mention → ℕ → List ℕ → Option Site → Bool
label_there known first name None = false
label_there known first name (Some site) = some_label (map labelled (known_at known (later first site))) name

-- the sentence of a number has one
abbrev pub label_at : Searched → List ℕ → ℕ → Bool
label_at s name i = label_there s.known.now s.first name (slice_get s.segment.now.sites i)

-- the sentence of a number is wanted in a segment that stands behind so many documents
abbrev pub wanted_in : List Mention → ℕ → Stored → Wanted → ℕ → Bool
wanted_in known first s w i =
    wanted (λ n. is_posted (lists_of s) n i) (λ name. label_there known first name (slice_get s.sites i)) w

abbrev pub wanted_at : Searched → Wanted → ℕ → Bool
wanted_at s w i = wanted_in s.known.now s.first s.segment.now w i

-- two ascending lists as one, each number once
abbrev pub merged : List ℕ → List ℕ → List ℕ
merged [] ys = ys
merged (x ∷ xs) [] = x ∷ xs
merged (x ∷ xs) (y ∷ ys) =
    cond (nat_lt x y) (x ∷ merged xs (y ∷ ys)) (cond (x == y) (x ∷ merged xs ys) (y ∷ merged (x ∷ xs) ys))
