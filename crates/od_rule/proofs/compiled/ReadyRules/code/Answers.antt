use Rattle.std.proofs.Common.{◌≡◌, ◌<◌, List, length, ap, sym, ◌∙◌, subst, arith}
use Rattle.std.specs.Prelude.{IsSomeAnd, slice_get}
use Rattle.od_pattern.specs.declared.rule.Rule.{Rule}
use Rattle.od_rule.proofs.Scanned.{zip_get, zip_long}
use Rattle.od_rule.specs.Codes.{IsCodeOf, IsReadyRule}
use Rattle.od_rule.proofs.compiled.ReadyRules.code.Goals as goal

pub code_at-requires : goal.code_at-requires
code_at-requires c =
    let long : length c.self.inside.rules ≡ length c.self.inside.ready = zip_long IsReadyRule c.self.inside.rules c.self.inside.ready c.self.invariant in
    let view : length c.self.inside.rules ≡ length c.args.self.now = ap length c.self.view_is in
    let got : length c.get.result.now ≡ length c.self.inside.ready = ap length c.get.ensures in
    let lt : c.args.place < length c.args.self.now = c.requires in
    omega (arith, long, view, got, lt)

pub returns : goal.returns
returns c =
    subst (λ (rules : List Rule). IsSomeAnd (slice_get rules c.args.place) (λ rule. IsCodeOf rule.body c.code_at.result.now)) c.self.view_is
    (zip_get IsReadyRule c.self.inside.rules c.self.inside.ready c.args.place c.code_at.result.now c.self.invariant
    (ap (λ codes. slice_get codes c.args.place) (sym c.get.ensures) ∙ c.code_at.ensures))
