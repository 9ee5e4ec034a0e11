use Rattle.od_rule_text.specs.Blanks.{is_blank}
use Rattle.od_yaml.proofs.Blanks.{boundary_prefix, blank_ascii}
use Rattle.od_yaml.proofs.blank.past_blanks.Goals as goal

pub text_from-requires : goal.text_from-requires
text_from-requires c = rw (c.leading_blanks-blanks.ensures, c.as_bytes.ensures.value) (boundary_prefix is_blank blank_ascii c.args.text.now c.utf8.text)
