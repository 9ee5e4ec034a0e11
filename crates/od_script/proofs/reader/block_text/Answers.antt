use Rattle.od_script.proofs.Blocks.{good_bytes, bad_bytes}
use Rattle.od_script.proofs.reader.block_text.Goals as goal

pub returns-in-Ok-clause-ok : goal.returns-in-Ok-clause-ok
returns-in-Ok-clause-ok c = good_bytes c.args.block.now c.in-Ok.ensures.cases.1

pub returns-in-Err-clause-bad : goal.returns-in-Err-clause-bad
returns-in-Err-clause-bad c = bad_bytes c.args.block.now (λ good. c.in-Err.ensures.cases.0 good)
