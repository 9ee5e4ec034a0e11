use Rattle.od_need.proofs.Expressions.{expressions_asked}
use Rattle.od_need.proofs.need_laws.what_is_needed_is_asked.Goals as goal

pub returns : goal.returns
returns c = expressions_asked
