-- A constraint that is written out is a word of the grammar for itself.
use Rattle.std.proofs.Common.{◌≡◌, ℕ, List, [], ◌∷◌, ◌++◌, Some, refl, sym, subst, append_assoc}
use Rattle.od_pattern.specs.declared.pattern.Field.{Field}
use Rattle.od_pattern.specs.declared.pattern.Field.TheVariants as field
use Rattle.od_pattern.specs.declared.pattern.Value.{Value}
use Rattle.od_pattern.specs.declared.pattern.Value.TheVariants.{Plain}
use Rattle.od_pattern.specs.declared.pattern.Value.TheVariants as value
use Rattle.od_pattern.specs.declared.pattern.Constraint.{Constraint, end_of-Constraint, more_of-Constraint}
use Rattle.od_pattern.specs.declared.pattern.Constraint.TheVariants.{Any, Is, Not', And', Or'}
use Rattle.od_pattern.specs.declared.pattern.Constraint.TheVariants as constraint
use Rattle.od_language.specs.declared.lexeme.LexKind.{LexKind}
use Rattle.od_language.specs.declared.lexeme.LexKind.TheVariants.{Quoted, SquareOpen, SquareClose, RoundClose, And, Or, Not}
use Rattle.od_language.specs.Fields.{field_name, field_named, IsValue, quoted, regex}
use Rattle.od_language.specs.Grammar.{Unary, negation, group, test, Ands, one, more, Ors, first, next, IsConstraint, empty, some}
use Rattle.od_language.specs.Written.{value_written, forms, grouped, written, IsCompared, IsOperand, IsWritable}

named_back : (f : Field) → field_named (field_name f) ≡ Some f
unfolding field_named
named_back field.Word = refl
named_back field.Norm = refl
named_back field.Lemma = refl
named_back field.Upos = refl
named_back field.Tag = refl
named_back field.Entity = refl
named_back field.Chunk = refl
named_back field.Incoming = refl
named_back field.Outgoing = refl

value_back : (f : Field) (v : Value) → IsCompared f v → IsValue f (value_written v) v
value_back f (Plain text) e = subst (λ (z : List ℕ). IsValue f (Quoted text) (Plain z)) e (quoted f text)
value_back f (value.Regex text) e = regex f text

-- in brackets, anything is an operand
in_brackets : (l : List LexKind) (c : Constraint) (rest : List LexKind) → Ors (l ++ RoundClose ∷ rest) c (RoundClose ∷ rest) → Unary (grouped l ++ rest) c rest
in_brackets l c rest u = group ((l ++ RoundClose ∷ []) ++ rest) c rest (subst (λ (z : List LexKind). Ors z c (RoundClose ∷ rest)) (sym (append_assoc l (RoundClose ∷ []) rest)) u)

joined_ands : (l m : List LexKind) (a b : Constraint) (rest : List LexKind) → Ands (l ++ And ∷ (m ++ rest)) a (And ∷ (m ++ rest)) → Unary (m ++ rest) b rest → Ands ((l ++ And ∷ m) ++ rest) (constraint.And a b) rest
joined_ands l m a b rest u v = subst (λ (z : List LexKind). Ands z (constraint.And a b) rest) (sym (append_assoc l (And ∷ m) rest)) (more (l ++ And ∷ (m ++ rest)) a (m ++ rest) b rest u v)

joined_ors : (l m : List LexKind) (a b : Constraint) (rest : List LexKind) → Ors (l ++ Or ∷ (m ++ rest)) a (Or ∷ (m ++ rest)) → Ands (m ++ rest) b rest → Ors ((l ++ Or ∷ m) ++ rest) (constraint.Or a b) rest
joined_ors l m a b rest u v = subst (λ (z : List LexKind). Ors z (constraint.Or a b) rest) (sym (append_assoc l (Or ∷ m) rest)) (next (l ++ Or ∷ (m ++ rest)) a (m ++ rest) b rest u v)

-- what is written reads back, whatever follows, in each of the three places
abbrev UnaryBack : List LexKind → Constraint → Type 0
UnaryBack l c = (rest : List LexKind) → Unary (l ++ rest) c rest

abbrev AndsBack : List LexKind → Constraint → Type 0
AndsBack l c = (rest : List LexKind) → Ands (l ++ rest) c rest

abbrev OrsBack : List LexKind → Constraint → Type 0
OrsBack l c = (rest : List LexKind) → Ors (l ++ rest) c rest

of_unary : (l : List LexKind) (c : Constraint) → UnaryBack l c → UnaryBack l c × AndsBack l c × OrsBack l c
of_unary l c u = (u, λ rest. one (l ++ rest) c rest (u rest), λ rest. first (l ++ rest) c rest (one (l ++ rest) c rest (u rest)))

of_ands : (l : List LexKind) (c : Constraint) → AndsBack l c → UnaryBack (grouped l) c × AndsBack l c × OrsBack l c
of_ands l c u = (λ rest. in_brackets l c rest (first (l ++ RoundClose ∷ rest) c (RoundClose ∷ rest) (u (RoundClose ∷ rest))), u, λ rest. first (l ++ rest) c rest (u rest))

of_ors : (l : List LexKind) (c : Constraint) → OrsBack l c → UnaryBack (grouped l) c × AndsBack (grouped l) c × OrsBack l c
of_ors l c u =
    let v : UnaryBack (grouped l) c = λ rest. in_brackets l c rest (u (RoundClose ∷ rest)) in
    (v, λ rest. one (grouped l ++ rest) c rest (v rest), u)

pub reads_back : (c : Constraint) → IsOperand c → UnaryBack (forms c).as_unary c × AndsBack (forms c).as_and c × OrsBack (forms c).as_or c
unfolding Rattle.od_pattern.specs.declared.pattern.Constraint.TheBlock.hidden-the_row-Constraint-0 denote.Hole.Carrier.hidden
reads_back Any w = absurd w
reads_back (Is f v) w = of_unary (forms (Is f v)).as_unary (Is f v) (λ rest. test (field_name f) f (value_written v) v rest (named_back f) (value_back f v w))
reads_back (Not' s (more_of-Constraint c end_of-Constraint)) w = of_unary (Not ∷ (forms c).as_unary) (constraint.Not c) (λ rest. negation ((forms c).as_unary ++ rest) c rest ((reads_back c w).0 rest))
reads_back (And' s (more_of-Constraint a end_of-Constraint) q (more_of-Constraint b end_of-Constraint)) w =
    of_ands ((forms a).as_and ++ And ∷ (forms b).as_unary) (constraint.And a b)
    (λ rest. joined_ands (forms a).as_and (forms b).as_unary a b rest ((reads_back a w.0).1 (And ∷ ((forms b).as_unary ++ rest))) ((reads_back b w.1).0 rest))
reads_back (Or' s (more_of-Constraint a end_of-Constraint) q (more_of-Constraint b end_of-Constraint)) w =
    of_ors ((forms a).as_or ++ Or ∷ (forms b).as_and) (constraint.Or a b)
    (λ rest. joined_ors (forms a).as_or (forms b).as_and a b rest ((reads_back a w.0).2 (Or ∷ ((forms b).as_and ++ rest))) ((reads_back b w.1).1 rest))

whole : (c : Constraint) (rest : List LexKind) → OrsBack (forms c).as_or c → IsConstraint (SquareOpen ∷ (((forms c).as_or ++ SquareClose ∷ []) ++ rest)) c rest
whole c rest u = some (((forms c).as_or ++ SquareClose ∷ []) ++ rest) c rest (subst (λ (z : List LexKind). Ors z c (SquareClose ∷ rest)) (sym (append_assoc (forms c).as_or (SquareClose ∷ []) rest)) (u (SquareClose ∷ rest)))

pub written_back : (c : Constraint) → IsWritable c → (rest : List LexKind) → IsConstraint (written c ++ rest) c rest
written_back Any w rest = empty rest
written_back (Is f v) w rest = whole (Is f v) rest (reads_back (Is f v) w).2
written_back (Not' s r) w rest = whole (Not' s r) rest (reads_back (Not' s r) w).2
written_back (And' s r q t) w rest = whole (And' s r q t) rest (reads_back (And' s r q t) w).2
written_back (Or' s r q t) w rest = whole (Or' s r q t) rest (reads_back (Or' s r q t) w).2
