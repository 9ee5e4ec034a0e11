-- The first edge of the token, and then from each the next one.
use Rattle.std.proofs.Common.{◌≡◌, ◌+◌, ◌-◌, ◌<◌, ◌++◌, ◌∷◌, [], ℕ, List, length, map, drop, sym, ap, ◌∙◌, subst, arith, append_assoc}
use Rattle.std.specs.Prelude.{Some, slice_get}
use Rattle.od_document.specs.declared.sentence.Sentence.{Sentence}
use Rattle.od_document.specs.declared.token.Edge.{Edge}
use Rattle.od_index.specs.Postings.{Posting}
use Rattle.od_index.specs.Terms.{Term}
use Rattle.od_posted.specs.Chains.{end_of, first_from, label_of, labels_at}
use Rattle.od_posted.specs.Entries.{marks_of, marks_at}
use Rattle.od_posted.proofs.Chained.{IsNext, next-is, labels-step, some-and}
use Rattle.od_posted.proofs.Marked.{mark-put}
use Rattle.od_posted.proofs.entries.put_labels.Goals as goal

pub loop-place-init : goal.loop-place-init
loop-place-init c =
    let es = c.args.at.now.sentence.edges in
    let end = c.args.chains.now.end in
    let at : Posting = (c.args.at.now.number, c.args.token) in
    let is : c.first-place.result ≡ first_from end c.args.token 0 es = c.first-place.ensures ∙ c.requires.chains.first c.args.token c.requires.token in
    let next = subst (λ (p : ℕ). IsNext end c.args.token 0 p es) (sym is) (next-is end c.args.token 0 es) in
    record {
      marks = ap (λ (xs : List Edge). marks_of c.args.at.now.table c.args.entries.now.items ++ marks_at at (map (label_of end) xs)) (sym next.same);
      has = next.has;
    }

-- the edge at the place, and the place of the next one
record Step (c : goal.After-next-place) : Type 0 where
  edge : Edge
  at : slice_get c.args.at.now.sentence.edges c.loop-place.place ≡ Some edge
  term : slice_get c.args.at.now.table c.label-label.result ≡ Some (label_of c.args.chains.now.end edge)
  end : end_of c.args.chains.now.end edge ≡ c.args.token
  is : c.next-place.result ≡ first_from c.args.chains.now.end c.args.token (c.loop-place.place + 1) c.args.at.now.sentence.edges
  next : IsNext c.args.chains.now.end c.args.token (c.loop-place.place + 1) c.next-place.result c.args.at.now.sentence.edges

step : (c : goal.After-next-place) → Step c
step c =
    let es = c.args.at.now.sentence.edges in
    let end = c.args.chains.now.end in
    let place = c.loop-place.place in
    let e = some-and (slice_get es place) (λ (edge : Edge). slice_get c.args.at.now.table c.label-label.result ≡ Some (label_of end edge)) c.label-label.ensures in
    let here : end_of end e.0 ≡ c.args.token = c.loop-place.invariant.has e.0 e.1 in
    let is : c.next-place.result ≡ first_from end c.args.token (place + 1) es =
    c.next-place.ensures ∙ c.requires.chains.next place e.0 (omega arith) e.1 ∙ ap (λ (t : ℕ). first_from end t (place + 1) es) here in
    record {
      edge = e.0;
      at = e.1;
      term = e.2;
      end = here;
      is = is;
      next = subst (λ (p : ℕ). IsNext end c.args.token (place + 1) p es) (sym is) (next-is end c.args.token (place + 1) es);
    }

pub loop-place-smaller : goal.loop-place-smaller
loop-place-smaller c =
    let s = step c in
    let lt : c.loop-place.place < length c.args.at.now.sentence.edges =
    subst (λ (w : Sentence). c.loop-place.place < length w.edges) c.sentence.ensures.sentence (omega (arith, c.loop-place-test.true, c.edge_count.ensures)) in
    let behind = s.next.behind in
    let less : length c.args.at.now.sentence.edges - c.next-place.result < length c.args.at.now.sentence.edges - c.loop-place.place = omega (arith, lt, behind) in
    less

pub loop-place-preserved : goal.loop-place-preserved
loop-place-preserved c =
    let s = step c in
    let es = c.args.at.now.sentence.edges in
    let end = c.args.chains.now.end in
    let table = c.args.at.now.table in
    let at : Posting = (c.args.at.now.number, c.args.token) in
    let old = c.loop-place.entries.items in
    let pushed : c.push.new.self.items ≡ old ++ (c.label-label.result, at) ∷ [] =
    c.in_ok-push.ensures.items ∙ ap (λ (n : ℕ). old ++ (c.label-label.result, (n, c.args.token)) ∷ []) c.number.ensures in
    let rest : List Term = labels_at end c.args.token (drop c.next-place.result es) in
    record {
      marks =
          ap (λ m. m ++ marks_at at rest) (mark-put table old c.push.new.self.items c.label-label.result at (label_of end s.edge) pushed s.term)
          ∙ append_assoc (marks_of table old) (marks_at at (label_of end s.edge ∷ [])) (marks_at at rest)
          ∙ ap (λ (p : ℕ). marks_of table old ++ marks_at at (label_of end s.edge ∷ labels_at end c.args.token (drop p es))) s.is
          ∙ ap (λ (ls : List Term). marks_of table old ++ marks_at at ls) (sym (labels-step end c.args.token c.loop-place.place es s.edge s.at s.end))
          ∙ c.loop-place.invariant.marks;
      has = s.next.has;
    }
