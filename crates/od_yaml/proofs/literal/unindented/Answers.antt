use Rattle.std.proofs.Common.{◌≤◌, arith}
use Rattle.std.specs.Prelude.{◌==◌, min}
use Rattle.od_rule_text.specs.Blanks.{indentation}
use Rattle.od_yaml.proofs.Blanks.{boundary_within, space_ascii}
use Rattle.od_yaml.proofs.literal.unindented.Goals as goal

pub text_from-requires : goal.text_from-requires
text_from-requires c =
    let within : min c.args.n (indentation c.args.line.now) ≤ indentation c.args.line.now = omega arith in
    rw (c.min-at.ensures, c.indentation.ensures, c.as_bytes.ensures.value) (boundary_within (λ c. c == 32) space_ascii c.args.line.now (min c.args.n (indentation c.args.line.now)) c.utf8.line within)
