use Rattle.std.proofs.Common.{◌≡◌, sym, ◌∙◌, subst, true, arith, List, ℕ}
use Rattle.od_rule_text.specs.Texts.{begins_with}
use Rattle.od_yaml.proofs.Blanks.{boundary_after_first}
use Rattle.od_yaml.proofs.entry.entry_of.Goals as goal

pub text_from-requires : goal.text_from-requires
text_from-requires c =
    boundary_after_first 32 c.in_ok-key.rest.now (omega arith) (rw c.as_bytes-then-is_identifier.ensures.value at c.as_bytes-then-is_identifier.ensures.utf8)
    (subst (λ (s : List ℕ). begins_with 32 s ≡ true) c.as_bytes-then-is_identifier.ensures.value (sym c.begins_with.ensures ∙ c.if-begins_with.true))
