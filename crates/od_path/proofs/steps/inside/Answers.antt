use Rattle.std.proofs.Common.{drop}
use Rattle.od_syntax.specs.PathMachine.{top}
use Rattle.od_path.proofs.Groups.{inside_goes}
use Rattle.od_path.proofs.steps.inside.Goals as goal

pub returns-clause-goes : goal.returns-clause-goes
returns-clause-goes c = λ s. inside_goes (λ x. x.path) (λ x. x.to) c.path_at.result c.args.depth s (drop c.args.from c.args.lexemes.now) c.args.lexemes.now (c.path_at.ensures.goes top)
