use Rattle.std.proofs.Common.{◌≡◌, ℕ, ◌+◌, ◌*◌, [], Bool, false, List, length, sym, ◌∙◌, ap, subst, arith, slice_index_or}
use Rattle.std.specs.Prelude.{replicate}
use Rattle.od_matching.specs.Matching.Reach.{Set, nodes}
use Rattle.od_matching.proofs.Matching.Spread.{Under}
use Rattle.od_reach.specs.Moves.{spot, input_of}
use Rattle.od_reach.specs.Walking.{number, Walking, set_of, starts_below}
use Rattle.od_reach.specs.declared.moves.Move.{Move}
use Rattle.od_reach.specs.declared.moves.Spot.{Spot}
use Rattle.od_reach.proofs.Walked.{walked, begun, under_length}
use Rattle.od_reach.proofs.walk.walk_from.Goals as goal

pub returns-clause-reached : goal.returns-clause-reached
returns-clause-reached c = λ path first is_code fit b lt.
    let s = c.args.sentence.now.sentence in
    let rows = c.args.columns.now.rows in
    let start : Set = set_of c.args.from.now in
    let code : List Move = c.args.code.now in
    let n : ℕ = nodes s in
    let tokens : c.len-tokens.result ≡ n = c.len-tokens.ensures in
    let last : c.deref.result.now ≡ c.walk.new.marks.items = c.deref.ensures.value in
    let blank : c.in_ok-marks.marks.items ≡ replicate (c.len-tokens.result * (length code + 1)) false = c.in_ok-marks.ensures.items_if_clones_equal (λ y h. h) in
    let begins : c.in_ok-todo.todo.items ≡ starts_below start (length c.args.from.now) = c.in_ok-todo.ensures in
    let before : Walking (input_of s rows) code start (replicate (c.len-tokens.result * (length code + 1)) false) (starts_below start (length c.args.from.now)) =
    begun (input_of s rows) code start (length c.args.from.now) (c.len-tokens.result * (length code + 1)) (omega (arith, c.requires.marks)) in
    let done : Walking (input_of s rows) code start c.walk.new.marks.items [] =
    c.in_ok-walk.ensures.walking start
    (subst (λ (z : List Bool). Walking (input_of s rows) code start z c.in_ok-todo.todo.items) (sym blank)
    (subst (λ (z : List Spot). Walking (input_of s rows) code start (replicate (c.len-tokens.result * (length code + 1)) false) z) (sym begins) before)) in
    let under : Under n start = subst (λ (z : ℕ). Under z start) c.requires.marks (under_length c.args.from.now) in
    let told : slice_index_or c.in_ok-ends.ends.items b false ≡ slice_index_or c.deref.result.now (number (length code + 1) (spot (length code) b)) false =
    c.in_ok-ends.ensures.ends b (omega arith) in
    told ∙ ap (λ (z : List Bool). slice_index_or z (number (length code + 1) (spot (length code) b)) false) last
    ∙ walked s rows path code start c.walk.new.marks.items first is_code fit under done b lt
