use Rattle.std.proofs.Common.{sym, ◌∙◌}
use Rattle.od_yaml.proofs.Steps.{taken_steps}
use Rattle.od_yaml.proofs.reader.Reader.take_line.Goals as goal

pub returns-clause-ok : goal.returns-clause-ok
returns-clause-ok c =
    taken_steps c.take_statement.result c.args.self.now c.take_statement.new.self c.args.number c.args.line.now c.args.more.now (sym c.says_nothing.ensures ∙ c.if-says_nothing.false) c.take_statement.ensures.ok c.take_statement.ensures.below
