use Rattle.std.proofs.Common.{◌∙◌}
use Rattle.od_yaml.proofs.Comments.{before_comment_is, comment_boundary}
use Rattle.od_yaml.proofs.plain.before_comment.Goals as goal

pub text_to-requires : goal.text_to-requires
text_to-requires c = rw (c.comment_at-end.ensures, c.as_bytes.ensures.value) (comment_boundary c.args.text.now)

pub returns : goal.returns
returns c = c.text_to.ensures ∙ rw (c.comment_at-end.ensures, c.as_bytes.ensures.value) (before_comment_is c.args.text.now)
