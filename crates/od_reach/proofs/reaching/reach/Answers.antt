use Rattle.std.proofs.Common.{sym, subst, Bool, List}
use Rattle.od_asked.specs.Asked.{asked_path}
use Rattle.od_asked.specs.Tables.{RowsFit}
use Rattle.od_asked.proofs.Fits.{table_fits}
use Rattle.od_reach.proofs.reaching.reach.Goals as goal

pub reach_at-requires-clause-columns : goal.reach_at-requires-clause-columns
reach_at-requires-clause-columns c =
    subst (λ (z : List (List Bool)). RowsFit z c.args.sentence.now.sentence 0 (asked_path c.args.path.now)) (sym c.requires.columns) (table_fits c.args.sentence.now.sentence (asked_path c.args.path.now))
