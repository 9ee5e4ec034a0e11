-- Whether lexemes begin with a word of a constraint does not depend on what follows the word.
use Rattle.std.proofs.Common.{◌≡◌, List, [], ◌∷◌, ◌++◌, refl, sym, ◌∙◌, ap, subst, append_assoc}
use Rattle.od_language.specs.declared.lexeme.LexKind.{LexKind}
use Rattle.od_language.specs.declared.lexeme.LexKind.TheVariants.{Word, SquareOpen, SquareClose, RoundOpen, RoundClose, And, Or, Not, Equal}
use Rattle.od_pattern.specs.declared.pattern.Constraint.{Constraint}
use Rattle.od_language.specs.Grammar.{Unary, negation, group, test, Ands, one, more, Ors, first, next, IsConstraint, empty, some}

-- the word, and that it stands before anything
pub record Cut (Reads : List LexKind → Constraint → List LexKind → Type 0) (l : List LexKind) (c : Constraint) (r : List LexKind) : Type 0 where
  pub front : List LexKind
  pub parts : l ≡ front ++ r
  pub any : (m : List LexKind) → Reads (front ++ m) c m

mutual
  unary_cut : (l : List LexKind) (c : Constraint) (r : List LexKind) → Unary l c r → Cut Unary l c r
  unary_cut _ _ _ (negation l c r u) =
      let w = unary_cut l c r u in
      record { front = Not ∷ w.front; parts = ap (λ z. Not ∷ z) w.parts; any = λ m. negation (w.front ++ m) c m (w.any m) }
  unary_cut _ _ _ (group l c r u) =
      let w = ors_cut l c (RoundClose ∷ r) u in
      record {
        front = RoundOpen ∷ (w.front ++ RoundClose ∷ []);
        parts = ap (λ z. RoundOpen ∷ z) (w.parts ∙ sym (append_assoc w.front (RoundClose ∷ []) r));
        any = λ m. group ((w.front ++ RoundClose ∷ []) ++ m) c m (subst (λ (z : List LexKind). Ors z c (RoundClose ∷ m)) (sym (append_assoc w.front (RoundClose ∷ []) m)) (w.any (RoundClose ∷ m)));
      }
  unary_cut _ _ _ (test name f x v r e i) = record { front = Word name ∷ Equal ∷ x ∷ []; parts = refl; any = λ m. test name f x v m e i }

  ands_cut : (l : List LexKind) (c : Constraint) (r : List LexKind) → Ands l c r → Cut Ands l c r
  ands_cut _ _ _ (one l c r u) = let w = unary_cut l c r u in record { front = w.front; parts = w.parts; any = λ m. one (w.front ++ m) c m (w.any m) }
  ands_cut _ _ _ (more l a n b r p u) =
      let v = ands_cut l a (And ∷ n) p in
      let w = unary_cut n b r u in
      record {
        front = v.front ++ And ∷ w.front;
        parts = v.parts ∙ ap (λ z. v.front ++ And ∷ z) w.parts ∙ sym (append_assoc v.front (And ∷ w.front) r);
        any = λ m. more ((v.front ++ And ∷ w.front) ++ m) a (w.front ++ m) b m
            (subst (λ (z : List LexKind). Ands z a (And ∷ (w.front ++ m))) (sym (append_assoc v.front (And ∷ w.front) m)) (v.any (And ∷ (w.front ++ m)))) (w.any m);
      }

  ors_cut : (l : List LexKind) (c : Constraint) (r : List LexKind) → Ors l c r → Cut Ors l c r
  ors_cut _ _ _ (first l c r u) = let w = ands_cut l c r u in record { front = w.front; parts = w.parts; any = λ m. first (w.front ++ m) c m (w.any m) }
  ors_cut _ _ _ (next l a n b r p u) =
      let v = ors_cut l a (Or ∷ n) p in
      let w = ands_cut n b r u in
      record {
        front = v.front ++ Or ∷ w.front;
        parts = v.parts ∙ ap (λ z. v.front ++ Or ∷ z) w.parts ∙ sym (append_assoc v.front (Or ∷ w.front) r);
        any = λ m. next ((v.front ++ Or ∷ w.front) ++ m) a (w.front ++ m) b m
            (subst (λ (z : List LexKind). Ors z a (Or ∷ (w.front ++ m))) (sym (append_assoc v.front (Or ∷ w.front) m)) (v.any (Or ∷ (w.front ++ m)))) (w.any m);
      }

pub constraint_cut : (l : List LexKind) (c : Constraint) (r : List LexKind) → IsConstraint l c r → Cut IsConstraint l c r
constraint_cut _ _ _ (empty r) = record { front = SquareOpen ∷ SquareClose ∷ []; parts = refl; any = λ m. empty m }
constraint_cut _ _ _ (some l c r u) =
    let w = ors_cut l c (SquareClose ∷ r) u in
    record {
      front = SquareOpen ∷ (w.front ++ SquareClose ∷ []);
      parts = ap (λ z. SquareOpen ∷ z) (w.parts ∙ sym (append_assoc w.front (SquareClose ∷ []) r));
      any = λ m. some ((w.front ++ SquareClose ∷ []) ++ m) c m (subst (λ (z : List LexKind). Ors z c (SquareClose ∷ m)) (sym (append_assoc w.front (SquareClose ∷ []) m)) (w.any (SquareClose ∷ m)));
    }
