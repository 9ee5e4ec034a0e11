use Rattle.std.proofs.Common.{◌≡◌, ℕ, ◌+◌, ◌-◌, ◌*◌, ◌≤◌, List, Bool, take, drop, length, sum, arith, subst, sym, ◌∙◌, ap}
use Rattle.std.proofs.lemmas.List.{take_rest}
use Rattle.std.proofs.lemmas.Result.{IfOk-weaker}
use Rattle.od_matching.proofs.Matching.Steps.{scan_of-start}
use Rattle.od_matching.specs.Matching.Scan.{world_in}
use Rattle.od_machine.specs.Inputs.{given}
use Rattle.od_machine.specs.Found.{Finds, AreFound, AreMatchesOf}
use Rattle.std.proofs.Math.Nat.{mul-le-mul_left}
use Rattle.od_machine.specs.Points.{runs}
use Rattle.od_machine.proofs.Dues.{owed-start}
use Rattle.od_machine.proofs.Founds.{finds_in}
use Rattle.od_machine.proofs.Meetings.{whole_code, length-runs_code}
use Rattle.od_machine.proofs.scan.Scanner.scan.Goals as goal

pub table_size-requires-clause-short : goal.table_size-requires-clause-short
table_size-requires-clause-short c =
    let program = c.args.program.now in
    omega (arith, length-runs_code program.code program.points.slots program.meet, program.points.counted, program.short)

pub scan_rows-requires-clause-fresh : goal.scan_rows-requires-clause-fresh
scan_rows-requires-clause-fresh c =
    let program = c.args.program.now in
    let tokens : ℕ = c.args.length in
    let size : ℕ = length c.get-code.result.now in
    let runs_all : ℕ = sum (runs program.points.slots) in
    let same : size ≡ length program.code = ap length c.get-code.ensures in
    let few : runs_all ≤ size = omega (arith, whole_code program.code program.points.slots program.meet, same) in
    let le : (tokens + 1) * (2 * runs_all) ≤ (tokens + 1) * (2 * size) = mul-le-mul_left (tokens + 1) (let q : 2 * runs_all ≤ 2 * size = omega arith in q) in
    omega (arith, le, owed-start program.points tokens c.reset.new.self.marks, c.in_ok-reset.ensures.steps)

pub returns-clause-found : goal.returns-clause-found
returns-clause-found c =
    let w = given c.args.length (take (length c.get.result.now - c.args.first) (drop c.args.first c.get.result.now)) c.args.labels.now in
    IfOk-weaker c.scan_rows.result (λ found. AreFound w c.get-code.result.now found.items)
    (λ found. AreMatchesOf c.args.program.now c.args.length c.args.columns.now.rows c.args.first c.args.labels.now found.items)
    (λ found scanned p s e l h.
    let rows = c.args.columns.now.rows in
    let cut = take_rest c.get.result.now c.args.first ∙ ap (drop c.args.first) c.get.ensures in
    let f : Finds (given c.args.length (drop c.args.first rows) c.args.labels.now) c.get-code.result.now (world_in s c.args.labels.now) p =
    finds_in s c.args.labels.now rows c.args.first p c.get-code.result.now c.args.length (c.get-code.ensures ∙ e) l h in
    let f' = subst (λ (z : List (List Bool)). Finds (given c.args.length z c.args.labels.now) c.get-code.result.now (world_in s c.args.labels.now) p) (sym cut) f in
    scanned (world_in s c.args.labels.now) p f' ∙ sym (scan_of-start p s c.args.labels.now))
    c.scan_rows.ensures.found
