-- The parts of a constraint leave its row.
use Rattle.std.proofs.Common.{◌≡◌, Bool, true, false, List, [], ◌∷◌, ◌++◌, refl, ◌∙◌, ap, map, length, append_assoc}
use Rattle.std.specs.Prelude.{not}
use Rattle.std.specs.List.{range_with_len}
use Rattle.od_asked.specs.Asked.{at_tokens}
use Rattle.od_asked.specs.Holds.{holds}
use Rattle.od_asked.specs.Tables.{truths}
use Rattle.od_document.specs.declared.sentence.Sentence.{Sentence}
use Rattle.od_pattern.specs.declared.pattern.Constraint.{Constraint, Any, Is, Not', And', Or', end_of-Constraint, more_of-Constraint}
use Rattle.od_constraint.specs.Rows.{zipped, with_top, joined, joined_top, rows_of}
use Rattle.od_constraint.specs.Steps.{Part, and_, or_, parts}

mapped : {X : Type 0} (f : Bool → Bool) (g : X → Bool) (xs : List X) → map f (map g xs) ≡ map (λ x. f (g x)) xs
mapped f g [] = refl
mapped f g (x ∷ xs) = ap (λ (r : List Bool). f (g x) ∷ r) (mapped f g xs)

zipped_map : {X : Type 0} (f : Bool → Bool → Bool) (g h : X → Bool) (xs : List X) → zipped f (map g xs) (map h xs) ≡ map (λ x. f (g x) (h x)) xs
zipped_map f g h [] = refl
zipped_map f g h (x ∷ xs) = ap (λ (r : List Bool). f (g x) (h x) ∷ r) (zipped_map f g h xs)

-- the parts of a constraint put its row on top
pub parts_row : (s : Sentence) (c : Constraint) (rest : List Part) → rows_of s (parts c ++ rest) ≡ truths s (at_tokens c) ∷ rows_of s rest
unfolding holds parts
parts_row s Any rest = refl
parts_row s (Is field value) rest = refl
parts_row s (Not' v (more_of-Constraint c end_of-Constraint)) rest =
    ap (with_top (map not)) (parts_row s c rest)
    ∙ ap (λ (r : List Bool). r ∷ rows_of s rest) (mapped not (holds s c) (range_with_len 0 (length s.tokens)))
parts_row s (And' v (more_of-Constraint c end_of-Constraint) w (more_of-Constraint d end_of-Constraint)) rest =
    ap (λ (ps : List Part). rows_of s (and_ ∷ ps)) (append_assoc (parts c) (parts d) rest)
    ∙ ap (joined_top (joined true)) (parts_row s c (parts d ++ rest) ∙ ap (λ (r : List (List Bool)). truths s (at_tokens c) ∷ r) (parts_row s d rest))
    ∙ ap (λ (r : List Bool). r ∷ rows_of s rest) (zipped_map (joined true) (holds s c) (holds s d) (range_with_len 0 (length s.tokens)))
parts_row s (Or' v (more_of-Constraint c end_of-Constraint) w (more_of-Constraint d end_of-Constraint)) rest =
    ap (λ (ps : List Part). rows_of s (or_ ∷ ps)) (append_assoc (parts c) (parts d) rest)
    ∙ ap (joined_top (joined false)) (parts_row s c (parts d ++ rest) ∙ ap (λ (r : List (List Bool)). truths s (at_tokens c) ∷ r) (parts_row s d rest))
    ∙ ap (λ (r : List Bool). r ∷ rows_of s rest) (zipped_map (joined false) (holds s c) (holds s d) (range_with_len 0 (length s.tokens)))
