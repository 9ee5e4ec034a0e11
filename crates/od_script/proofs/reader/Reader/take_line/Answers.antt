use Rattle.std.proofs.Common.{◌≡◌, ◌∙◌, ap, sym, false}
use Rattle.od_order.specs.Lines.{line_text, says_nothing, has_bad_byte}
use Rattle.od_script.proofs.Blocks.{good_bytes, bad_bytes}
use Rattle.od_script.proofs.Folds.{not_a_text, nothing_taken, line_taken, no_block, some_block, none_passed, takes_as}
use Rattle.od_script.proofs.reader.Reader.take_line.Goals as goal

pub returns-in_default : goal.returns-in_default
returns-in_default c =
    rw c.bad.ensures (not_a_text c.args.self.now c.args.number c.args.line.now c.args.behind.now (bad_bytes c.args.line.now (λ good. c.in_default.ensures.cases.0 good)))

pub returns-then-says_nothing : goal.returns-then-says_nothing
returns-then-says_nothing c =
    let good : has_bad_byte c.args.line.now ≡ false = good_bytes c.args.line.now c.in-Ok.ensures.cases.1 in
    let text : c.line_text-text.result.now ≡ line_text c.args.line.now = c.line_text-text.ensures ∙ ap line_text c.in-Ok.ensures.cases.0 in
    let nothing = ap says_nothing (sym text) ∙ sym c.says_nothing.ensures ∙ c.if-says_nothing.true in
    (nothing_taken c.args.self.now c.args.number c.args.line.now c.args.behind.now good nothing, rw (no_block (line_text c.args.line.now) nothing) (none_passed c.args.behind))

pub returns : goal.returns
returns c =
    let good : has_bad_byte c.args.line.now ≡ false = good_bytes c.args.line.now c.in-Ok.ensures.cases.1 in
    let text : c.line_text-text.result.now ≡ line_text c.args.line.now = c.line_text-text.ensures ∙ ap line_text c.in-Ok.ensures.cases.0 in
    let some = ap says_nothing (sym text) ∙ sym c.says_nothing.ensures ∙ c.if-says_nothing.false in
    takes_as _ _ c.take_text.new.self c.args.behind.now _ _ c.take_text.result
    (line_taken c.args.self.now c.args.number c.args.line.now c.args.behind.now good some) (some_block (line_text c.args.line.now) some)
    (rw text at (c.take_text.ensures c.args.line.now (sym text)))
