-- A state of mentions is a list without repeats; what is asked of it.
use Rattle.std.specs.Prelude.{◌≡◌, ℕ, List, map, filter, bytes_eq}
use Rattle.od_index.specs.Ascending.{IsAscendingOf, ascending, pair_cmp}
use Rattle.od_extraction.specs.declared.mention.Mention.{Mention}
use Rattle.od_extraction.specs.Mentions.{distinct}

-- no mention is there twice
abbrev pub IsState : List Mention → Type 0
IsState ms = distinct ms ≡ ms

-- the documents and sentences of the mentions that have a label, in the order of the mentions
abbrev pub places_with : List ℕ → List Mention → List (ℕ × ℕ)
places_with label ms = map (λ m. (m.document, m.sentence)) (filter (λ m. bytes_eq m.label label) ms)

-- the sentences that have such a mention, each once, ascending
abbrev pub AreSentencesWith : List ℕ → List Mention → List (ℕ × ℕ) → Type 0
AreSentencesWith label ms places = IsAscendingOf pair_cmp (places_with label ms) places

-- they are computed by putting one after another into its place
abbrev pub sentences_with : List ℕ → List Mention → List (ℕ × ℕ)
sentences_with label ms = ascending pair_cmp (places_with label ms)
