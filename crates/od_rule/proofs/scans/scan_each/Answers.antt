use Rattle.std.proofs.Common.{◌≡◌, ◌++◌, ◌∷◌, [], sym, ◌∙◌, arith}
use Rattle.od_rule.proofs.Scanned.{scans_more, scans_whole}
use Rattle.od_rule.proofs.scans.scan_each.Goals as goal

pub loop-placed-preserved : goal.loop-placed-preserved
loop-placed-preserved c = λ surfaces placed fit.
    c.in_ok-push.ensures.ok
    ∙ scans_more c.args.columns.now.rows c.args.words.now.sentence c.args.local.now c.args.programs.now surfaces placed fit
    c.loop-placed.placed-index c.placed-item.result c.in_ok-found.found c.loop-placed.scans (omega arith) c.placed-item.is
    c.in_ok-found.ensures (c.loop-placed.invariant surfaces placed fit)

pub returns : goal.returns
returns c = λ surfaces placed fit.
    scans_whole c.args.columns.now.rows c.args.words.now.sentence c.args.local.now c.args.programs.now surfaces placed fit
    c.loop-placed.placed-index c.loop-placed.scans (omega arith) (c.loop-placed.invariant surfaces placed fit)
