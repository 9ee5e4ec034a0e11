use Rattle.std.proofs.Common.{◌≡◌, ℕ, ◌<◌, ◌++◌, [], List, length, sym, ◌∙◌, ap, subst, arith}
use Rattle.std.proofs.lemmas.List.{get_or_default}
use Rattle.std.specs.Prelude.{OnOk}
use Rattle.od_matching.specs.Matching.Reach.{governor, dependent}
use Rattle.od_reach.specs.Links.{numbers_at, over_all}
use Rattle.od_reach.specs.Moves.{input_of, nexts}
use Rattle.od_reach.specs.declared.moves.Spot.{Spot}
use Rattle.od_reach.specs.declared.moves.Move.{Move}
use Rattle.od_reach.proofs.Crossed.{grouped}
use Rattle.od_reach.proofs.walk.follow.Goals as goal

pub returns-in-Along-clause-spots : goal.returns-in-Along-clause-spots
returns-in-Along-clause-spots c =
    let s = c.args.sentence.now.sentence in
    let w = input_of s c.args.columns.now.rows in
    let lists : List (List ℕ) = c.args.links.now.along.items in
    let inside : c.args.at < length lists = omega (arith, c.requires.links.along.long, c.requires.inside) in
    let numbers : c.get-numbers.result.now ≡ numbers_at governor s.edges c.args.at (length s.edges) =
    c.get-numbers.ensures ∙ c.index.ensures ∙ sym (get_or_default lists c.args.at [] c.index.result.now inside) ∙ c.requires.links.along.numbers c.args.at c.requires.inside in
    let led : over_all dependent w c.in-Along.row c.args.pc c.get-numbers.result.now ≡ nexts w c.args.next c.args.pc c.args.at =
    ap (over_all dependent w c.in-Along.row c.args.pc) numbers ∙ grouped governor dependent w c.in-Along.row c.args.pc c.args.at (length s.edges)
    ∙ ap (λ (z : Move). nexts w z c.args.pc c.args.at) (sym c.in-Along.is) in
    subst (λ (z : List Spot). OnOk c.cross.result (c.cross.new.todo.items ≡ c.args.todo.now.items ++ z)) led c.cross.ensures.spots

pub returns-in-Against-clause-spots : goal.returns-in-Against-clause-spots
returns-in-Against-clause-spots c =
    let s = c.args.sentence.now.sentence in
    let w = input_of s c.args.columns.now.rows in
    let lists : List (List ℕ) = c.args.links.now.against.items in
    let inside : c.args.at < length lists = omega (arith, c.requires.links.against.long, c.requires.inside) in
    let numbers : c.get-numbers-in-Against.result.now ≡ numbers_at dependent s.edges c.args.at (length s.edges) =
    c.get-numbers-in-Against.ensures ∙ c.index-in-Against.ensures ∙ sym (get_or_default lists c.args.at [] c.index-in-Against.result.now inside)
    ∙ c.requires.links.against.numbers c.args.at c.requires.inside in
    let led : over_all governor w c.in-Against.row c.args.pc c.get-numbers-in-Against.result.now ≡ nexts w c.args.next c.args.pc c.args.at =
    ap (over_all governor w c.in-Against.row c.args.pc) numbers ∙ grouped dependent governor w c.in-Against.row c.args.pc c.args.at (length s.edges)
    ∙ ap (λ (z : Move). nexts w z c.args.pc c.args.at) (sym c.in-Against.is) in
    subst (λ (z : List Spot). OnOk c.cross-in-Against.result (c.cross-in-Against.new.todo.items ≡ c.args.todo.now.items ++ z)) led c.cross-in-Against.ensures.spots
