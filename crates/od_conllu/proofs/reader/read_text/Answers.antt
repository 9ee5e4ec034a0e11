use Rattle.std.proofs.Common.{length, arith, refl}
use Rattle.std.proofs.lemmas.Iterator.Splits.{YieldsList-from_lines}
use Rattle.std.proofs.lemmas.Iterator.Consumers.{YieldsList-turn, YieldsList-end}
use Rattle.std.proofs.lemmas.List.{length_push}
use Rattle.std.proofs.lemmas.Result.{err_from_is_err_and}
use Rattle.std.specs.Str.Lines.{lines}
use Rattle.od_document.specs.Lines.{blocks_of, lines_of}
use Rattle.od_conllu.proofs.Reached.{reaches_none, reaches_more, step_bad, reads_end, end_bad, at_line, at_end}
use Rattle.od_conllu.proofs.reader.read_text.Goals as goal

pub loop-line-init : goal.loop-line-init
loop-line-init c = (rw (c.new-sentences.ensures.items, c.new-draft.ensures) (reaches_none (lines_of c.args.text.now)), refl)

pub returns-in_err-take_line-clause-bad : goal.returns-in_err-take_line-clause-bad
returns-in_err-take_line-clause-bad c =
    let turn = YieldsList-turn (YieldsList-from_lines c.args.text.now cc) c.loop-line.yielded _ c.loop-line.yielded_by _ _ c.in-Some.line c.in-Some.is c.next.ensures.steps in
    let here = at_line (blocks_of c.args.text.now) c.loop-line.number (length c.loop-line.yielded) (lines c.args.text.now) c.in-Some.line.now c.loop-line.sentences.items c.loop-line.draft c.loop-line.invariant.0 turn in
    let p = err_from_is_err_and c.from_residual.result c.from_residual.ensures.1 in
    rw (p.1, p.2) (step_bad (blocks_of c.args.text.now) _ _ c.loop-line.sentences.items c.loop-line.draft c.in_err-take_line.field-0.0 here c.in_err-take_line.ensures.bad)

pub loop-line-preserved : goal.loop-line-preserved
loop-line-preserved c =
    let turn = YieldsList-turn (YieldsList-from_lines c.args.text.now cc) c.loop-line.yielded _ c.loop-line.yielded_by _ _ c.in-Some.line c.in-Some.is c.next.ensures.steps in
    let here = at_line (blocks_of c.args.text.now) c.loop-line.number (length c.loop-line.yielded) (lines c.args.text.now) c.in-Some.line.now c.loop-line.sentences.items c.loop-line.draft c.loop-line.invariant.0 turn in
    let more = length_push c.loop-line.yielded c.in-Some.line in (
      rw more (reaches_more (blocks_of c.args.text.now) _ _ c.loop-line.sentences.items c.take_line.new.sentences.items c.loop-line.draft c.take_line.new.draft here c.in_ok-take_line.ensures.ok),
      omega (arith, more, c.loop-line.invariant.1),
    )

pub returns-in_err-end_sentence-clause-bad : goal.returns-in_err-end_sentence-clause-bad
returns-in_err-end_sentence-clause-bad c =
    let end = YieldsList-end (YieldsList-from_lines c.args.text.now cc) c.loop-line.yielded _ c.loop-line.yielded_by _ _ c.in-None.is c.next.ensures.steps in
    let here = at_end (blocks_of c.args.text.now) c.loop-line.number (length c.loop-line.yielded) (lines c.args.text.now) c.loop-line.sentences.items c.loop-line.draft c.loop-line.invariant.0 (omega (arith, end.1)) in
    let p = err_from_is_err_and c.from_residual-in_err-end_sentence.result c.from_residual-in_err-end_sentence.ensures.1 in
    rw (p.1, p.2) (end_bad (blocks_of c.args.text.now) c.loop-line.sentences.items c.loop-line.draft c.in_err-end_sentence.field-0.0 here c.in_err-end_sentence.ensures.bad)

pub returns-clause-ok : goal.returns-clause-ok
returns-clause-ok c =
    let end = YieldsList-end (YieldsList-from_lines c.args.text.now cc) c.loop-line.yielded _ c.loop-line.yielded_by _ _ c.in-None.is c.next.ensures.steps in
    let here = at_end (blocks_of c.args.text.now) c.loop-line.number (length c.loop-line.yielded) (lines c.args.text.now) c.loop-line.sentences.items c.loop-line.draft c.loop-line.invariant.0 (omega (arith, end.1)) in
    reads_end (blocks_of c.args.text.now) c.loop-line.sentences.items c.end_sentence.new.sentences.items c.loop-line.draft here c.in_ok-end_sentence.ensures.ok c.in_ok-end_sentence.ensures.kept
