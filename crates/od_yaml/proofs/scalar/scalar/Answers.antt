use Rattle.std.proofs.Common.{◌≡◌, ◌∙◌, sym, subst, true, arith, List, ℕ}
use Rattle.od_rule_text.specs.Texts.{begins_with}
use Rattle.od_yaml.proofs.Blanks.{boundary_after_first}
use Rattle.od_yaml.proofs.scalar.scalar.Goals as goal

pub text_from-requires : goal.text_from-requires
text_from-requires c =
    boundary_after_first 34 c.args.rest.now (omega arith) c.utf8.rest
    (subst (λ (s : List ℕ). begins_with 34 s ≡ true) c.as_bytes.ensures.value (sym c.begins_with.ensures ∙ c.if-begins_with.true))
