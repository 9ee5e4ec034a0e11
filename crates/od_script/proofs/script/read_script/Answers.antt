use Rattle.std.proofs.Common.{◌≡◌, ◌+◌, ◌∙◌, false, ap, sym, length, length-append, arith}
use Rattle.std.specs.Prelude.{Ok, nat_lt}
use Rattle.std.proofs.lemmas.Bool.{lt-ltb, le-ltb}
use Rattle.od_order.specs.declared.script.TheConstants.{SCRIPT_BYTES}
use Rattle.od_order.specs.Lines.{whole_lines}
use Rattle.od_order.specs.Scripts.{script_after, script_lines}
use Rattle.od_script.proofs.Folds.{too_long, script_is, goes_on, fails}
use Rattle.od_script.proofs.Written.{back_ok, back_fault}
use Rattle.od_script.proofs.script.read_script.Goals as goal

pub returns-then-bytes-gt-SCRIPT_BYTES-clause-fault : goal.returns-then-bytes-gt-SCRIPT_BYTES-clause-fault
returns-then-bytes-gt-SCRIPT_BYTES-clause-fault c = too_long c.args.bytes.now (lt-ltb SCRIPT_BYTES (length c.args.bytes.now) (omega (arith, c.if-bytes-gt-SCRIPT_BYTES.true)))

pub loop-line-preserved : goal.loop-line-preserved
loop-line-preserved c =
    let passed = c.in-Ok.ensures.1 in
    let long : length c.loop-line.rest.now ≡ length c.in-Some.line.now + length c.in-Some.behind.now = ap length c.in-Some.ensures.1 ∙ length-append c.in-Some.line.now c.in-Some.behind.now in
    record {
      left = c.loop-line.invariant.left
          ∙ goes_on c.loop-line.reader c.take_line.new.self c.loop-line.number c.in-Ok.block c.in-Some.line.now c.loop-line.rest.now c.in-Some.behind.now c.in-Ok.more.now c.in-Some.ensures.0 c.in-Ok.ensures.0 passed.count_is passed.within passed.lines;
      few = omega (arith, c.loop-line.invariant.few, long, c.in-Some.ensures.2, passed.few, passed.count_is);
    }

pub returns-in-Err-clause-fault : goal.returns-in-Err-clause-fault
returns-in-Err-clause-fault c =
    let short : nat_lt SCRIPT_BYTES (length c.args.bytes.now) ≡ false = le-ltb SCRIPT_BYTES (length c.args.bytes.now) (omega (arith, c.if-bytes-gt-SCRIPT_BYTES.false)) in
    fails _ c.loop-line.reader c.loop-line.number c.in-Some.line.now c.loop-line.rest.now c.in-Some.behind.now c.in-Err.fault (script_is c.args.bytes.now short ∙ c.loop-line.invariant.left) c.in-Some.ensures.0 c.in-Err.ensures

pub returns-clause-ok : goal.returns-clause-ok
returns-clause-ok c =
    let short : nat_lt SCRIPT_BYTES (length c.args.bytes.now) ≡ false = le-ltb SCRIPT_BYTES (length c.args.bytes.now) (omega (arith, c.if-bytes-gt-SCRIPT_BYTES.false)) in
    script_is c.args.bytes.now short ∙ c.loop-line.invariant.left ∙ ap (λ ls. script_after c.loop-line.reader (script_lines c.loop-line.number 0 ls)) (ap whole_lines c.in_default.ensures) ∙ ap Ok (sym c.close.ensures)

pub returns-then-bytes-gt-SCRIPT_BYTES-clause-back : goal.returns-then-bytes-gt-SCRIPT_BYTES-clause-back
returns-then-bytes-gt-SCRIPT_BYTES-clause-back c = back_fault c.args.bytes.now _ (returns-then-bytes-gt-SCRIPT_BYTES-clause-fault c)

pub returns-in-Err-clause-back : goal.returns-in-Err-clause-back
returns-in-Err-clause-back c = back_fault c.args.bytes.now c.in-Err.fault (returns-in-Err-clause-fault c)

pub returns-clause-back : goal.returns-clause-back
returns-clause-back c = back_ok c.args.bytes.now _ (returns-clause-ok c)
