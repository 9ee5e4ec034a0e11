use Rattle.std.proofs.Common.{◌∙◌}
use Rattle.od_io.proofs.Compiled.{compiled_from}
use Rattle.od_io.proofs.regex_maker.compile.Goals as goal

pub returns-in-Ok-new : goal.returns-in-Ok-new
returns-in-Ok-new c =
    let made = c.in-Ok-new.ensures in
    compiled_from c.in-Ok-new.regex c.args.pattern.now (made.source ∙ c.as_str.ensures.value ∙ c.in-Ok.ensures.ok) made.config made.read
