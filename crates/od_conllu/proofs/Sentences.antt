-- The edges of word lines, one word after another.
use Rattle.std.proofs.Common.{◌≡◌, ℕ, ◌+◌, ◌<◌, List, [], ◌∷◌, ◌++◌, length, map, take, get_or, sym, ap, ◌∙◌, arith, add-one}
use Rattle.std.proofs.Math.Seq.{take-suc}
use Rattle.std.proofs.lemmas.List.{map-append, length-map, length-take}
use Rattle.od_document.specs.declared.token.Edge.{Edge}
use Rattle.od_document.specs.Words.{edges_from, edge_of}
use Rattle.od_document.proofs.Edges.{edges_from-snoc}
use Rattle.od_conllu.specs.declared.word_line.WordLine.{WordLine}
use Rattle.od_conllu.specs.Lines.{word_seen}

-- with one more word, the edge of which was added
pub edges_more : (words : List WordLine) (w : WordLine) (i place : ℕ) (old new : List Edge) → i < length words → w ≡ get_or words i w → place ≡ i
    → old ≡ edges_from 0 (map word_seen (take i words)) → new ≡ old ++ edge_of place (word_seen w) → new ≡ edges_from 0 (map word_seen (take (i + 1) words))
edges_more words w i place old new within is at before added =
    let front : take (i + 1) words ≡ take i words ++ w ∷ [] = ap (λ n. take n words) (add-one i) ∙ take-suc words i w within ∙ ap (λ x. take i words ++ x ∷ []) (sym is) in
    let seen : map word_seen (take (i + 1) words) ≡ map word_seen (take i words) ++ word_seen w ∷ [] = ap (map word_seen) front ∙ map-append word_seen (take i words) (w ∷ []) in
    let count : 0 + length (map word_seen (take i words)) ≡ place = omega (arith, length-map (take i words) word_seen, length-take i words) in
    added ∙ ap (λ es. es ++ edge_of place (word_seen w)) before
    ∙ sym (ap (edges_from 0) seen ∙ edges_from-snoc 0 (map word_seen (take i words)) (word_seen w) ∙ ap (λ n. edges_from 0 (map word_seen (take i words)) ++ edge_of n (word_seen w)) count)
