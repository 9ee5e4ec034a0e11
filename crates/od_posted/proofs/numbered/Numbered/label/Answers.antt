use Rattle.std.proofs.Common.{◌≡◌, sym, ap, ◌∙◌, subst}
use Rattle.std.specs.Prelude.{IsSomeAnd, Option, Some, slice_get}
use Rattle.od_document.specs.declared.token.Edge.{Edge}
use Rattle.od_index.specs.Tables.{IsNumber}
use Rattle.od_pattern.specs.declared.pattern.Field.TheVariants.{Incoming}
use Rattle.od_posted.specs.Chains.{label_of}
use Rattle.od_posted.specs.Entries.{NumberedSentence}
use Rattle.od_posted.specs.declared.chains.End.{End}
use Rattle.od_posted.proofs.Chained.{some-and}
use Rattle.od_posted.proofs.Marked.{goes-out}
use Rattle.od_posted.proofs.numbered.Numbered.label.Goals as goal

pub out-requires : goal.out-requires
out-requires c =
    let s = c.self.inside.sentence.now in
    let e = some-and (slice_get s.sentence.edges c.args.place) (λ (e : Edge). (e.governor ≡ c.edge-label.result.0) × (e.dependent ≡ c.edge-label.result.1) × IsNumber s.table Incoming e.label c.edge-label.result.2) c.edge-label.ensures in
    (s.table, e.0.label, c.self.invariant.labels c.edge-label.result.2 e.0.label e.2.2 (goes-out s.table s.sentence c.args.place e.0 c.self.invariant.has e.1))

pub returns-in-Governor : goal.returns-in-Governor
returns-in-Governor c =
    let s = c.self.inside.sentence.now in
    let e = some-and (slice_get s.sentence.edges c.args.place) (λ (e : Edge). (e.governor ≡ c.edge-label.result.0) × (e.dependent ≡ c.edge-label.result.1) × IsNumber s.table Incoming e.label c.edge-label.result.2) c.edge-label.ensures in
    let turned = c.self.invariant.labels c.edge-label.result.2 e.0.label e.2.2 (goes-out s.table s.sentence c.args.place e.0 c.self.invariant.has e.1) in
    subst (λ (n : NumberedSentence). IsSomeAnd (slice_get n.sentence.edges c.args.place) (λ (edge : Edge). slice_get n.table c.out.result ≡ Some (label_of c.args.end edge))) c.self.view_is
    (subst (λ (o : Option Edge). IsSomeAnd o (λ (edge : Edge). slice_get s.table c.out.result ≡ Some (label_of c.args.end edge))) (sym e.1)
    (c.out.ensures s.table e.0.label turned ∙ ap (λ (end : End). Some (label_of end e.0)) (sym c.in-Governor.is)))
