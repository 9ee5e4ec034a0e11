use Rattle.od_rows.proofs.Rows.Replies.{rows-of_replies}
use Rattle.od_rows.proofs.row_laws.replies_keep_rows.Goals as goal

pub returns : goal.returns
returns c = rows-of_replies
