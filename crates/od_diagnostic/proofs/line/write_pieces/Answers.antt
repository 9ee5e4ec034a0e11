use Rattle.std.proofs.Common.{◌++◌}
use Rattle.std.proofs.KnownBytes.{Appends-trans}
use Rattle.od_diagnostic.proofs.Pieces.{part-behind, part-of-more}
use Rattle.od_diagnostic.proofs.line.write_pieces.Goals as goal

pub returns-in-Err-clause-part : goal.returns-in-Err-clause-part
returns-in-Err-clause-part g c =
    let old = g.E.Sink.written c.args.diag.now in
    let new = g.E.Sink.written c.write_text.new.diag in
    part-of-more old new (c.args.pieces.0.now ++ c.args.pieces.1.now) c.args.pieces.2.now
    (part-of-more old new c.args.pieces.0.now c.args.pieces.1.now c.in-Err.ensures.part)

pub returns-in-Err-write_text-clause-part : goal.returns-in-Err-write_text-clause-part
returns-in-Err-write_text-clause-part g c =
    let old = g.E.Sink.written c.args.diag.now in
    let mid = g.E.Sink.written c.write_text.new.diag in
    let new = g.E.Sink.written c.write_text-2.new.diag in
    part-of-more old new (c.args.pieces.0.now ++ c.args.pieces.1.now) c.args.pieces.2.now
    (part-behind old mid new c.args.pieces.0.now c.args.pieces.1.now c.in_default.ensures.whole c.in-Err-write_text.ensures.part)

pub returns-in-Err-write_text-2-clause-part : goal.returns-in-Err-write_text-2-clause-part
returns-in-Err-write_text-2-clause-part g c =
    let old = g.E.Sink.written c.args.diag.now in
    let mid = g.E.Sink.written c.write_text.new.diag in
    let late = g.E.Sink.written c.write_text-2.new.diag in
    let new = g.E.Sink.written c.write_text-3.new.diag in
    part-behind old late new (c.args.pieces.0.now ++ c.args.pieces.1.now) c.args.pieces.2.now
    (Appends-trans old mid late c.args.pieces.0.now c.args.pieces.1.now c.in_default.ensures.whole c.in_default-write_text.ensures.whole)
    c.in-Err-write_text-2.ensures.part
