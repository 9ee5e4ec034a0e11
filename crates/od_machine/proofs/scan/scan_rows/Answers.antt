use Rattle.std.proofs.Common.{◌≤◌, ◌+◌, ◌*◌, length, ◌++◌, sym, ◌∙◌, ap, arith}
use Rattle.std.proofs.lemmas.List.{append-nil}
use Rattle.od_matching.proofs.Matching.Steps.{scan_at-end}
use Rattle.std.proofs.Math.Nat.{mul-le-mul_left}
use Rattle.od_machine.proofs.Meetings.{length-runs_code}
use Rattle.od_machine.proofs.scan.scan_rows.Goals as goal

pub scan_here-requires-clause-small : goal.scan_here-requires-clause-small
scan_here-requires-clause-small c =
    let few : c.args.points.now.count ≤ length c.args.code.now = omega (arith, length-runs_code c.args.code.now c.args.points.now.slots c.requires.meet, c.args.points.now.counted) in
    let le : (c.args.tokens + 1) * (2 * c.args.points.now.count) ≤ (c.args.tokens + 1) * (2 * length c.args.code.now) = mul-le-mul_left (c.args.tokens + 1) (let q : 2 * c.args.points.now.count ≤ 2 * length c.args.code.now = omega arith in q) in
    omega (arith, le, c.requires.small)

pub returns-clause-found : goal.returns-clause-found
returns-clause-found c = λ u p f.
    sym (append-nil c.places.matches.items)
    ∙ ap (λ z. c.places.matches.items ++ z) (sym (scan_at-end u p c.places.at (omega (arith, f.tokens))))
    ∙ c.places.invariant.4 u p f
