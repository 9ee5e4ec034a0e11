use Rattle.std.proofs.Common.{◌≡◌, List, length, map, ap, ◌∙◌, arith}
use Rattle.std.proofs.lemmas.List.{length-map}
use Rattle.od_document.specs.Words as words
use Rattle.od_document.specs.Faults.{heads_fault}
use Rattle.od_document.specs.Words.{token_of}
use Rattle.od_document.proofs.Existence.{sentence_keeps}
use Rattle.od_conllu.specs.Lines.{word_seen}
use Rattle.od_conllu.proofs.sentence.sentence.Goals as goal

pub invariant_of-result : goal.invariant_of-result
invariant_of-result c =
    let ws : List words.WordLine = map word_seen c.args.words.now in
    let count : length ws ≡ length c.args.words.now = length-map c.args.words.now word_seen in
    let told = c.from_vec.ensures ∙ c.in_ok-tokens.ensures in
    let k = sentence_keeps ws c.from_vec.result c.from_vec-2.result told (c.from_vec-2.ensures ∙ c.in_ok-edges.ensures) (omega (arith, count, c.requires.few))
    (ap (λ n. heads_fault n ws) count ∙ c.requires.heads) (λ z. omega (arith, z, count, ap length told, length-map ws token_of, c.requires.some)) in
    record { some = k.0.0.0.0; few = k.0.0.0.1; few_edges = k.0.0.1; ends = k.0.1; distinct = k.1 }
