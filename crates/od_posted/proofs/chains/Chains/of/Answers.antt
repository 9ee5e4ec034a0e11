use Rattle.std.proofs.Common.{◌≡◌, ◌+◌, ◌-◌, ℕ, length, replicate, sym, ap₂, ◌∙◌, subst, arith, rules}
use Rattle.od_posted.specs.Chains.{AreChained}
use Rattle.od_posted.proofs.Chained.{chained-none, chained-put}
use Rattle.od_posted.proofs.chains.Chains.of.Goals as goal

pub loop-passed-init : goal.loop-passed-init
loop-passed-init c =
    let s = c.args.sentence.now.sentence in
    let firsts : c.in_ok-firsts.firsts.items ≡ replicate c.len.result c.edge_count-count.result = search rules in
    let nexts : c.in_ok-nexts.nexts.items ≡ replicate c.edge_count-count.result c.edge_count-count.result = search rules in
    let all : c.edge_count-count.result - 0 ≡ length s.edges = omega (arith, c.edge_count-count.ensures) in
    subst (λ (n : ℕ). AreChained c.args.end s n c.in_ok-firsts.firsts.items c.in_ok-nexts.nexts.items) (sym all)
    (chained-none c.args.end s c.in_ok-firsts.firsts.items c.in_ok-nexts.nexts.items
    (firsts ∙ ap₂ (λ (n m : ℕ). replicate n m) c.len.ensures c.edge_count-count.ensures)
    (nexts ∙ ap₂ (λ (n m : ℕ). replicate n m) c.edge_count-count.ensures c.edge_count-count.ensures))

pub loop-passed-preserved : goal.loop-passed-preserved
loop-passed-preserved c =
    let s = c.args.sentence.now.sentence in
    let place : ℕ = c.edge_count-count.result - 1 - c.loop-passed.passed in
    let before : c.edge_count-count.result - c.loop-passed.passed ≡ place + 1 = omega (arith, c.loop-passed-test.true) in
    let here : place ≡ c.edge_count-count.result - (c.loop-passed.passed + 1) = omega arith in
    subst (λ (n : ℕ). AreChained c.args.end s n c.link.new.firsts.items c.link.new.nexts.items) here
    (chained-put c.args.end s place c.end_at-token.result c.loop-passed.firsts.items c.loop-passed.nexts.items c.link.new.firsts.items c.link.new.nexts.items
    (subst (λ (n : ℕ). AreChained c.args.end s n c.loop-passed.firsts.items c.loop-passed.nexts.items) before c.loop-passed.invariant)
    c.end_at-token.ensures.end c.end_at-token.ensures.within c.link.ensures.firsts c.link.ensures.nexts)
