use Rattle.std.proofs.Common.{◌≡◌, ◌<◌, ℕ, length, ◌∙◌, sym, subst, arith}
use Rattle.od_reach.specs.Links.{AreNumbersAt, end_of}
use Rattle.od_reach.proofs.Crossed.{none_yet, noted, blank_long}
use Rattle.od_reach.proofs.links.numbers_by_token.Goals as goal

pub loop-place-init : goal.loop-place-init
loop-place-init c = record {
  long = blank_long c.len.result c.in_ok-lists.lists.items c.in_ok-lists.ensures ∙ c.len.ensures;
  numbers = λ t lt. none_yet (end_of c.args.governor) c.args.sentence.now.sentence.edges c.len.result t c.in_ok-lists.lists.items c.in_ok-lists.ensures;
}

pub note-requires : goal.note-requires
note-requires c = omega (arith, c.end_at-token.ensures.within, c.loop-place.invariant.long, c.loop-place.lists.ok)

pub loop-place-preserved : goal.loop-place-preserved
loop-place-preserved c =
    let s = c.args.sentence.now.sentence in
    let lt : c.end_at-token.result < length c.loop-place.lists.items = omega (arith, c.end_at-token.ensures.within, c.loop-place.invariant.long) in
    record {
      long = omega (arith, c.note.ensures.long, c.loop-place.invariant.long, c.loop-place.lists.ok, c.note.new.lists.ok);
      numbers = noted (end_of c.args.governor) s.edges (length s.tokens) c.loop-place.place c.end_at-token.result c.loop-place.lists.items c.note.new.lists.items
          c.end_at-token.ensures.end lt c.in_ok-note.ensures.items c.loop-place.invariant.numbers;
    }

pub returns : goal.returns
returns c =
    let s = c.args.sentence.now.sentence in
    let all : c.loop-place.place ≡ length s.edges = omega (arith, c.edge_count-place-end.ensures, c.loop-place-test.false) in
    subst (λ (n : ℕ). AreNumbersAt (end_of c.args.governor) s n c.loop-place.lists.items) all c.loop-place.invariant
