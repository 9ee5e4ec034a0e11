use Rattle.std.proofs.Common.{◌≡◌, ℕ, ◌+◌, ◌*◌, ◌<◌, ◌≤◌, ◌++◌, [], true, List, length, sym, ◌∙◌, ap, subst, arith, get_or, set}
use Rattle.std.proofs.lemmas.List.{append-nil}
use Rattle.std.proofs.lemmas.Option.{slice_get_past}
use Rattle.std.specs.Prelude.{Option, None}
use Rattle.od_reach.specs.Moves.{nexts, nexts_of, steps, input_of}
use Rattle.od_reach.specs.Walking.{number, Walking}
use Rattle.od_reach.specs.declared.moves.Move.{Move}
use Rattle.od_reach.specs.declared.moves.Move.TheVariants.{Along}
use Rattle.od_reach.specs.declared.moves.Spot.{Spot}
use Rattle.od_reach.proofs.Walked.{drop_out, drop_seen, go_on, read_at, mark_at}
use Rattle.od_reach.proofs.walk.visit.Goals as goal

pub returns-then-from-moves-clause-walking : goal.returns-then-from-moves-clause-walking
returns-then-from-moves-clause-walking c = λ start w.
    drop_out (input_of c.args.sentence.now.sentence c.args.columns.now.rows) c.args.code.now start c.args.marks.now.items c.args.todo.now.items c.args.from (λ p. absurd (omega arith)) w

pub returns-then-from-tokens-clause-walking : goal.returns-then-from-tokens-clause-walking
returns-then-from-tokens-clause-walking c = λ start w.
    let tokens : c.len-tokens.result ≡ length c.args.sentence.now.sentence.tokens = c.len-tokens.ensures in
    drop_out (input_of c.args.sentence.now.sentence c.args.columns.now.rows) c.args.code.now start c.args.marks.now.items c.args.todo.now.items c.args.from (λ p. absurd (omega arith)) w

pub returns-then-index-clause-walking : goal.returns-then-index-clause-walking
returns-then-index-clause-walking c = λ start w.
    let tokens : c.len-tokens.result ≡ length c.args.sentence.now.sentence.tokens = c.len-tokens.ensures in
    let value : c.place-n.result ≡ number (length c.args.code.now + 1) c.args.from = c.place-n.ensures.value in
    let within : c.place-n.result < length c.args.sentence.now.sentence.tokens * (length c.args.code.now + 1) = subst (λ (z : ℕ). c.place-n.result < z * (length c.args.code.now + 1)) tokens c.place-n.ensures.within in
    let room : c.place-n.result < length c.args.marks.now.items = omega (arith, c.args.marks.now.ok) in
    drop_seen (input_of c.args.sentence.now.sentence c.args.columns.now.rows) c.args.code.now start c.args.marks.now.items c.args.todo.now.items c.args.from (
      (let lt : c.args.from.pc < length c.args.code.now + 1 = omega arith in lt),
      mark_at c.args.marks.now.items c.place-n.result (number (length c.args.code.now + 1) c.args.from) c.index.result.now true value room c.index.ensures c.if-index.true,
    ) w

pub returns-in_ok-follow-clause-walking : goal.returns-in_ok-follow-clause-walking
returns-in_ok-follow-clause-walking c = λ start w.
    let tokens : c.len-tokens.result ≡ length c.args.sentence.now.sentence.tokens = c.len-tokens.ensures in
    let value : c.place-n.result ≡ number (length c.args.code.now + 1) c.args.from = c.place-n.ensures.value in
    let within : c.place-n.result < length c.args.sentence.now.sentence.tokens * (length c.args.code.now + 1) = subst (λ (z : ℕ). c.place-n.result < z * (length c.args.code.now + 1)) tokens c.place-n.ensures.within in
    let room : c.place-n.result < length c.args.marks.now.items = omega (arith, c.args.marks.now.ok) in
    let here : number (length c.args.code.now + 1) c.args.from < length c.args.marks.now.items = omega arith in
    let lt : c.args.from.pc < length c.args.code.now + 1 = omega arith in
    let w' = input_of c.args.sentence.now.sentence c.args.columns.now.rows in
    let after : Walking w' c.args.code.now start (set c.args.marks.now.items (number (length c.args.code.now + 1) c.args.from) true) (c.args.todo.now.items ++ steps w' c.args.code.now c.args.from) =
    go_on w' c.args.code.now start c.args.marks.now.items c.args.todo.now.items c.args.from lt here w in
    let read : steps w' c.args.code.now c.args.from ≡ nexts w' (get_or c.args.code.now c.args.from.pc (Along None)) c.args.from.pc c.args.from.at =
    ap (λ (z : Option Move). nexts_of w' z c.args.from.pc c.args.from.at) (read_at c.args.code.now c.args.from.pc (Along None) (let h : c.args.from.pc < length c.args.code.now = omega arith in h)) in
    subst (λ (z : ℕ). Walking w' c.args.code.now start (set c.args.marks.now.items z true) c.follow.new.todo.items) (sym value)
    (subst (λ (z : List Spot). Walking w' c.args.code.now start (set c.args.marks.now.items (number (length c.args.code.now + 1) c.args.from) true) z) (ap (λ (z : List Spot). c.args.todo.now.items ++ z) read ∙ sym c.in_ok-follow.ensures.spots) after)

pub returns-else-from-moves-2-clause-walking : goal.returns-else-from-moves-2-clause-walking
returns-else-from-moves-2-clause-walking c = λ start w.
    let tokens : c.len-tokens.result ≡ length c.args.sentence.now.sentence.tokens = c.len-tokens.ensures in
    let value : c.place-n.result ≡ number (length c.args.code.now + 1) c.args.from = c.place-n.ensures.value in
    let within : c.place-n.result < length c.args.sentence.now.sentence.tokens * (length c.args.code.now + 1) = subst (λ (z : ℕ). c.place-n.result < z * (length c.args.code.now + 1)) tokens c.place-n.ensures.within in
    let room : c.place-n.result < length c.args.marks.now.items = omega (arith, c.args.marks.now.ok) in
    let here : number (length c.args.code.now + 1) c.args.from < length c.args.marks.now.items = omega arith in
    let lt : c.args.from.pc < length c.args.code.now + 1 = omega arith in
    let past : length c.args.code.now ≤ c.args.from.pc = omega arith in
    let w' = input_of c.args.sentence.now.sentence c.args.columns.now.rows in
    let after : Walking w' c.args.code.now start (set c.args.marks.now.items (number (length c.args.code.now + 1) c.args.from) true) (c.args.todo.now.items ++ steps w' c.args.code.now c.args.from) =
    go_on w' c.args.code.now start c.args.marks.now.items c.args.todo.now.items c.args.from lt here w in
    let none : steps w' c.args.code.now c.args.from ≡ [] = ap (λ (z : Option Move). nexts_of w' z c.args.from.pc c.args.from.at) (slice_get_past c.args.code.now c.args.from.pc past) in
    subst (λ (z : ℕ). Walking w' c.args.code.now start (set c.args.marks.now.items z true) c.args.todo.now.items) (sym value)
    (subst (λ (z : List Spot). Walking w' c.args.code.now start (set c.args.marks.now.items (number (length c.args.code.now + 1) c.args.from) true) z) (ap (λ (z : List Spot). c.args.todo.now.items ++ z) none ∙ append-nil c.args.todo.now.items) after)
