use Rattle.std.proofs.Common.{◌≡◌, ℕ, ◌+◌, ◌++◌, ◌∷◌, [], List, length, ap, sym, ◌∙◌, subst, arith, rules}
use Rattle.std.specs.List.{AllZip}
use Rattle.od_asked.specs.Asked.{asked_surface}
use Rattle.od_pattern.specs.declared.rule.HopPart.{HopPart}
use Rattle.od_rule.specs.Codes.{part_surfaces, IsPlaced}
use Rattle.od_pairing.specs.Hop.{part_codes}
use Rattle.od_rule.specs.declared.code.Placed.{Placed}
use Rattle.od_rule.proofs.Places.{grown}
use Rattle.od_rule.proofs.code.hop_code.Goals as goal

pub returns : goal.returns
returns c =
    let first = c.args.hop.now.first in
    let none : length c.new-asked.result.items ≡ 0 = search rules in
    let row : length c.place.new.asked.items ≡ length (asked_surface first) =
    let more : length c.place.new.asked.items ≡ length c.new-asked.result.items + length (asked_surface first) = grown c.new-asked.result.items c.place.new.asked.items (asked_surface first) c.in_ok-place.ensures.asked in omega (arith, none, more) in
    let own : IsPlaced c.in_ok-place.ensures.program.0 (0, first) = subst (λ (n : ℕ). IsPlaced c.in_ok-place.ensures.program.0 (n, first)) none c.in_ok-place.ensures.program.2 in
    let one : AllZip IsPlaced c.place.new.programs ((0, first) ∷ []) =
    subst (λ (z : List Placed). AllZip IsPlaced z ((0, first) ∷ [])) (sym (c.in_ok-place.ensures.program.1 ∙ ap (λ z. z ++ c.in_ok-place.ensures.program.0 ∷ []) c.new.ensures)) (own, tt) in
    let rest = c.args.hop.now.rest in
    record {
      programs = subst (λ (n : ℕ). AllZip IsPlaced c.add_parts.new.code.programs ((0, first) ∷ part_surfaces n rest)) row
          (subst (λ (parts : List HopPart). AllZip IsPlaced c.add_parts.new.code.programs ((0, first) ∷ part_surfaces (length c.place.new.asked.items) parts)) c.get.ensures
          (c.in_ok-add_parts.ensures.programs ((0, first) ∷ []) one));
      moves = c.in_ok-add_parts.ensures.moves
          ∙ ap (λ z. z ++ part_codes (length c.place.new.asked.items) c.get.result.now) c.new-2.ensures
          ∙ ap (part_codes (length c.place.new.asked.items)) c.get.ensures
          ∙ ap (λ n. part_codes n rest) row;
    }
