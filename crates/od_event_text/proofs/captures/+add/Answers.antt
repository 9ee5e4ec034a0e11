use Rattle.std.proofs.Common.{[], ◌∷◌, sym, ◌∙◌, ap, arith}
use Rattle.od_syntax.specs.Events.{captures}
use Rattle.od_event_text.specs.Names.{captures_in}
use Rattle.od_event_text.proofs.Names.{captures_seq, captures_alt, captures_repeat, captures_capture, adds_part, adds_all, adds_same, adds_behind}
use Rattle.od_event_text.proofs.captures.+add.Goals as goal

pub add_all-loop-part-preserved : goal.add_all-loop-part-preserved
add_all-loop-part-preserved t c = adds_part c.args.names.now c.loop-part.names c.add_captures.new.names c.args.parts.now c.loop-part.part-index c.part-item.result (omega (arith, c.loop-part-test.true)) c.part-item.is
    c.loop-part.invariant c.in_ok-add_captures.ensures

pub add_all-returns : goal.add_all-returns
add_all-returns t c = adds_all c.args.names.now c.loop-part.names c.args.parts.now c.loop-part.part-index (omega (arith, c.loop-part-test.false)) c.loop-part.invariant

pub add_captures-returns-in-Seq : goal.add_captures-returns-in-Seq
add_captures-returns-in-Seq t c = adds_same c.add_all.result c.args.names.now c.add_all.new.names (captures_in c.get.result.now) (captures c.args.pattern.now)
    (ap captures_in c.get.ensures ∙ sym (captures_seq c.in-Seq.parts) ∙ ap captures (sym c.in-Seq.is)) c.add_all.ensures

pub add_captures-returns-in-Alt : goal.add_captures-returns-in-Alt
add_captures-returns-in-Alt t c = adds_same c.add_all-in-Alt.result c.args.names.now c.add_all-in-Alt.new.names (captures_in c.get-in-Alt.result.now) (captures c.args.pattern.now)
    (ap captures_in c.get-in-Alt.ensures ∙ sym (captures_alt c.in-Alt.parts) ∙ ap captures (sym c.in-Alt.is)) c.add_all-in-Alt.ensures

pub add_captures-returns-in-Repeat : goal.add_captures-returns-in-Repeat
add_captures-returns-in-Repeat t c = adds_same c.add_captures.result c.args.names.now c.add_captures.new.names (captures c.get-in-Repeat.result.now) (captures c.args.pattern.now)
    (ap captures c.get-in-Repeat.ensures ∙ sym (captures_repeat c.in-Repeat.body c.in-Repeat.field-1) ∙ ap captures (sym c.in-Repeat.is)) c.add_captures.ensures

pub add_captures-returns-in_ok-seen_before-in-Capture : goal.add_captures-returns-in_ok-seen_before-in-Capture
add_captures-returns-in_ok-seen_before-in-Capture t c = adds_behind c.add_captures-in-Capture.result c.args.names.now c.seen_before.new.names c.add_captures-in-Capture.new.names (c.in-Capture.name ∷ []) (captures c.get-in-Capture.result.now)
    (captures c.args.pattern.now) (λ before k. (c.in_ok-seen_before-in-Capture.ensures before k).1)
    (ap captures c.in-Capture.is ∙ captures_capture c.in-Capture.name c.in-Capture.body ∙ ap (λ z. c.in-Capture.name ∷ captures z) (sym c.get-in-Capture.ensures)) c.add_captures-in-Capture.ensures
