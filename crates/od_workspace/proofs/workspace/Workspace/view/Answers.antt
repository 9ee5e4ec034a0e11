-- The segments of the documents tile them.
use Rattle.std.proofs.Common.{map, arith}
use Rattle.std.specs.Arc.{arc_value}
use Rattle.std.specs.List.{AllZip}
use Rattle.std.proofs.lemmas.List.{length-map}
use Rattle.od_workspace.specs.Workspaces.Kept.{StandsAlone}
use Rattle.od_workspace.proofs.Workspaces.Tiled.{tiles-alone, documents-alone}
use Rattle.od_workspace.proofs.Workspaces.Zips.{zip-long}
use Rattle.od_workspace.proofs.workspace.Workspace.view.Goals as goal

pub make-requires-clause-few : goal.make-requires-clause-few
make-requires-clause-few c =
    let docs = c.self.inside.docs.items in
    let few = c.self.invariant.kept.few_docs in
    let is : AllZip StandsAlone docs (map arc_value c.in_ok-segments.segments) = rw (c.deref.ensures.value) at c.in_ok-segments.ensures in
    let count = documents-alone docs (map arc_value c.in_ok-segments.segments) is in
    omega (arith, few, count)

pub make-requires-clause-short : goal.make-requires-clause-short
make-requires-clause-short c =
    let docs = c.self.inside.docs.items in
    let few = c.self.invariant.kept.few_docs in
    let is : AllZip StandsAlone docs (map arc_value c.in_ok-segments.segments) = rw (c.deref.ensures.value) at c.in_ok-segments.ensures in
    let long = zip-long StandsAlone docs (map arc_value c.in_ok-segments.segments) is in
    let each = length-map c.in_ok-segments.segments arc_value in
    omega (arith, few, long, each)

pub returns-clause-tiled : goal.returns-clause-tiled
returns-clause-tiled c =
    let docs = c.self.inside.docs.items in
    let is : AllZip StandsAlone docs (map arc_value c.in_ok-segments.segments) = rw (c.deref.ensures.value) at c.in_ok-segments.ensures in
    rw (← c.self.view_is, c.in_ok-view.ensures) (tiles-alone docs (map arc_value c.in_ok-segments.segments) is)
