-- A word of the grammar takes the machine to its end.
use Rattle.std.proofs.Common.{◌≡◌, ℕ, suc, List, ◌∷◌, Option, Some, None, Ok, refl, ◌∙◌, ap}
use Rattle.od_pattern.specs.declared.pattern.Field.{Field}
use Rattle.od_pattern.specs.declared.pattern.Value.{Value}
use Rattle.od_language.specs.declared.lexeme.LexKind.{LexKind}
use Rattle.od_language.specs.declared.lexeme.LexKind.TheVariants.{SquareClose, RoundClose, And, Or, Equal}
use Rattle.od_pattern.specs.declared.pattern.Constraint.{Constraint}
use Rattle.od_pattern.specs.declared.pattern.Constraint.TheVariants as constraint
use Rattle.od_language.specs.Grammar.{Unary, negation, group, test, Ands, one, more, Ors, first, next, IsConstraint, empty, some}
use Rattle.od_language.specs.Fields.{IsValue, word, quoted, regex}
use Rattle.od_language.specs.ConstraintMachine.{Open, square, round, State, start, operand, named, equals, after, done, negated, both, either, step, named_by}
use Rattle.od_language.specs.Machine.{steps, ◌>>=◌}
use Rattle.od_language.specs.ConstraintMachine as machine

-- behind an `or` that is whole, some part of it stands apart
pub record Behind (s : State) (l : List LexKind) (c : Constraint) (k : Open) (r : List LexKind) : Type 0 where
  pub left : Option Constraint
  pub last : Constraint
  pub whole : either left last ≡ c
  pub goes : steps step s l ≡ steps step (after last left k) r

valued : (f : Field) (x : LexKind) (v : Value) → IsValue f x v → (n : ℕ) (a o : Option Constraint) (k : Open) →
    step (equals f n a o k) x ≡ Ok (after (both a (negated n (constraint.Is f v))) o k)
valued _ _ _ (word f t) n a o k = refl
valued _ _ _ (quoted f t) n a o k = refl
valued _ _ _ (regex f t) n a o k = refl

mutual
  pub unary_goes : (l : List LexKind) (c : Constraint) (r : List LexKind) → Unary l c r → (n : ℕ) (a o : Option Constraint) (k : Open) →
      steps step (operand n a o k) l ≡ steps step (after (both a (negated n c)) o k) r
  unary_goes _ _ _ (negation l c r u) n a o k = unary_goes l c r u (suc n) a o k
  unary_goes _ _ _ (group l c r u) n a o k =
      let b = ors_go l c (RoundClose ∷ r) u (round n a o k) in
      b.goes ∙ ap (λ w. steps step (after (both a (negated n w)) o k) r) b.whole
  unary_goes _ _ _ (test name f x v r e i) n a o k =
      ap (λ w. named_by w n a o k >>= λ t. steps step t (Equal ∷ x ∷ r)) e ∙ ap (λ w. w >>= λ t. steps step t r) (valued f x v i n a o k)

  pub ands_go : (l : List LexKind) (c : Constraint) (r : List LexKind) → Ands l c r → (o : Option Constraint) (k : Open) →
      steps step (operand 0 None o k) l ≡ steps step (after c o k) r
  ands_go _ _ _ (one l c r u) o k = unary_goes l c r u 0 None o k
  ands_go _ _ _ (more l a m b r p u) o k = ands_go l a (And ∷ m) p o k ∙ unary_goes m b r u 0 (Some a) o k

  pub ors_go : (l : List LexKind) (c : Constraint) (r : List LexKind) → Ors l c r → (k : Open) → Behind (operand 0 None None k) l c k r
  ors_go _ _ _ (first l c r u) k = record { left = None; last = c; whole = refl; goes = ands_go l c r u None k }
  ors_go _ _ _ (next l a m b r p u) k =
      let q = ors_go l a (Or ∷ m) p k in
      record {
        left = Some a;
        last = b;
        whole = refl;
        goes = q.goes ∙ ap (λ w. steps step (operand 0 None (Some w) k) m) q.whole ∙ ands_go m b r u (Some a) k;
      }

-- from `[` an operand begins as anywhere
inside_unary : (l : List LexKind) (c : Constraint) (r : List LexKind) → Unary l c r → steps step machine.first l ≡ steps step (operand 0 None None square) l
inside_unary _ _ _ (negation l c r u) = refl
inside_unary _ _ _ (group l c r u) = refl
inside_unary _ _ _ (test name f x v r e i) = refl

inside_ands : (l : List LexKind) (c : Constraint) (r : List LexKind) → Ands l c r → steps step machine.first l ≡ steps step (operand 0 None None square) l
inside_ands _ _ _ (one l c r u) = inside_unary l c r u
inside_ands _ _ _ (more l a m b r p u) = inside_ands l a (And ∷ m) p

inside : (l : List LexKind) (c : Constraint) (r : List LexKind) → Ors l c r → steps step machine.first l ≡ steps step (operand 0 None None square) l
inside _ _ _ (first l c r u) = inside_ands l c r u
inside _ _ _ (next l a m b r p u) = inside l a (Or ∷ m) p

pub constraint_goes : (l : List LexKind) (c : Constraint) (r : List LexKind) → IsConstraint l c r → steps step start l ≡ steps step (done c) r
constraint_goes _ _ _ (empty r) = refl
constraint_goes _ _ _ (some l c r u) =
    let b = ors_go l c (SquareClose ∷ r) u square in
    inside l c (SquareClose ∷ r) u ∙ b.goes ∙ ap (λ w. steps step (done w) r) b.whole
