use Rattle.std.proofs.Common.{◌≡◌, ◌∙◌, ap, ℕ, List, false, map, length, arith}
use Rattle.std.specs.List.{range_with_len}
use Rattle.std.proofs.lemmas.List.FromFn.{length-map-range_with_len}
use Rattle.od_document.specs.declared.token.Edge.{Edge}
use Rattle.od_constraint.specs.Rows.{marks}
use Rattle.od_constraint.proofs.Lists.{taken_all}
use Rattle.od_constraint.proofs.rows.end_row.Goals as goal

pub loop-place-init : goal.loop-place-init
loop-place-init c =
    let n = length c.args.sentence.now.sentence.tokens in
    let none : c.in_ok-ends.ends.items ≡ map {A = ℕ} (λ k. false) (range_with_len 0 n) = c.in_ok-ends.ensures ∙ ap (λ (k : ℕ). map {A = ℕ} (λ k. false) (range_with_len 0 k)) c.len.ensures in
    record { marks = λ value h. none; long = ap length none ∙ length-map-range_with_len (λ k. false) 0 n }

pub returns : goal.returns
returns c = λ value h.
    let s = c.args.sentence.now.sentence in
    c.loop-place.invariant.marks value h
    ∙ ap (λ (es : List Edge). marks c.args.outgoing value es (length s.tokens)) (taken_all s.edges c.loop-place.place (omega (arith, c.edge_count-place-end.ensures, c.loop-place-test.false)))
