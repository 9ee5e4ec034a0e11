use Rattle.std.proofs.Common.{◌≡◌, ◌<◌, ◌∙◌, ap, sym, subst, arith, map, take, length}
use Rattle.std.proofs.Math.Seq.{take-length}
use Rattle.od_names.proofs.Named.{unnamed}
use Rattle.od_rule_text.specs.declared.rule_file.KeyText.{KeyText}
use Rattle.od_expansion.specs.Rest.{AreDistinct}
use Rattle.od_expansion.proofs.Wholes.{fresh, fresh_rest, new_there}
use Rattle.od_expansion.proofs.expander.Expander.new.Goals as goal

pub push-requires : goal.push-requires
push-requires c =
    let within : c.loop-v.v-index < length c.get-v-items.result.now = omega (arith, c.loop-v-test.true) in
    unnamed (λ (v : KeyText). v.key) _ c.loop-v.names (take c.loop-v.v-index c.get-v-items.result.now) c.loop-v.invariant.names_are
    (new_there c.get-v-items.result.now c.loop-v.v-index c.v-item.result within c.v-item.is (subst AreDistinct (sym c.get-v-items.ensures) c.requires))

pub invariant_of-result : goal.invariant_of-result
invariant_of-result c =
    let last : c.loop-v.v-index ≡ length c.get-v-items.result.now = omega (arith, c.loop-v-test.false, c.loop-v.auto.v-index-end) in
    let all = ap (λ k. take k c.get-v-items.result.now) last ∙ take-length c.get-v-items.result.now ∙ c.get-v-items.ensures in
    fresh_rest c.args.vars c.loop-v.names c.loop-v.states.items (c.loop-v.invariant.names_are ∙ ap (map (λ (v : KeyText). v.key)) all) (c.loop-v.invariant.states_are ∙ ap fresh all)
