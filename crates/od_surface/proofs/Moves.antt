-- Steps that the parser takes, and which patterns may match no token.
use Rattle.std.proofs.Common.{◌≡◌, ℕ, ◌≤◌, Bool, true, false, ◌&&◌, ◌||◌, ◌==◌, not, if◌then◌else◌, List, [], ◌∷◌, ◌++◌, length, Option, None, refl, sym, ◌∙◌, ap, arith}
use Rattle.std.specs.List.{list_all, list_any}
use denote.Hole.Carrier.{hidden}
use mathlib.Core.Former.{Count}
use Rattle.od_pattern.specs.declared.pattern.Surface.{Surface, Row_of-Surface, end_of-Surface, more_of-Surface, items-the_row-Surface, items_hidden-the_row-Surface-0}
use Rattle.od_pattern.specs.declared.pattern.Surface.TheBlock.{hidden-the_row-Surface-1}
use Rattle.od_pattern.specs.declared.pattern.Surface as surface
use Rattle.od_pattern.specs.Nullable.{is_nullable, are_nullable, is_some_nullable}
use Rattle.od_language.specs.declared.lexeme.Lexeme.{Lexeme}
use Rattle.od_language.specs.declared.lexeme.LexKind.{LexKind}
use Rattle.od_language.specs.declared.lexeme.LexKind.TheVariants.{Word, Quoted, Regex, NameOpen, AheadIs, AheadNot, BehindIs, BehindNot, SquareOpen, RoundOpen, At, Caret, Dollar, Or}
use Rattle.od_language.specs.declared.pattern_fault.PatternKind.{PatternKind}
use Rattle.od_language.specs.declared.pattern_fault.PatternKind.TheVariants as kind
use Rattle.od_language.specs.Depth.{depth_behind}
use Rattle.od_language.specs.Machine.{Outcome, stopped, checked, either_way}
use Rattle.od_lex.specs.Machine.{NoOr}
use Rattle.od_syntax.specs.Sizes.{may_repeat}
use Rattle.od_syntax.specs.SurfaceMachine.{Around, top, round, State, atom, turned, listed, whole, in_order, any_of, repeat, step_atom, step_turned, step_listed, step_whole, ended, begins_atom, IsAtomAt, NoAtomAt}
use Rattle.od_surface.specs.declared.lexemes.Places.{Places}
use Rattle.od_surface.specs.Reading.{Left, single_if, only, left_by, left, rule_at, run, Comes, Next}

-- what begins an atom is taken
atom_way : (x : LexKind) (a s : List Surface) (k : Around) (f : State → Outcome Lexeme Left) (g h : PatternKind → Outcome Lexeme Left) → begins_atom x ≡ true → either_way (step_turned x a s k) f g ≡ either_way (step_atom x a s k) f h
atom_way SquareOpen a s k f g h e = refl
atom_way (Word t) a s k f g h e = refl
atom_way (Quoted t) a s k f g h e = refl
atom_way (Regex t) a s k f g h e = refl
atom_way At a s k f g h e = refl
atom_way RoundOpen a s k f g h e = refl
atom_way (NameOpen n) a s k f g h e = refl
atom_way AheadIs a s k f g h e = refl
atom_way AheadNot a s k f g h e = refl
atom_way BehindIs a s k f g h e = refl
atom_way BehindNot a s k f g h e = refl
atom_way Caret a s k f g h e = refl
atom_way Dollar a s k f g h e = refl
atom_way x a s k f g h e = absurd (cc)

-- the last of choices is the only one where none stands before it
only_last : (a : List Surface) (p : Surface) (k : Around) → single_if a p k ≡ only (a ++ p ∷ []) k
only_last a p (round o b s k) = refl
only_last [] p top = refl
only_last (q ∷ []) p top = refl
only_last (q ∷ r ∷ a) p top = refl

-- of several choices none is the only one, nor is one in brackets
only_none : (a : List Surface) (k : Around) → 2 ≤ length a → only a k ≡ None
only_none a (round o b s k) h = refl
only_none [] top h = absurd (omega (arith, h))
only_none (p ∷ []) top h = absurd (omega (arith, h))
only_none (p ∷ q ∷ a) top h = refl

-- several choices are an alternation
any_of_many : (a : List Surface) → 2 ≤ length a → any_of a ≡ surface.Alt a
any_of_many [] h = refl
any_of_many (p ∷ []) h = absurd (omega (arith, h))
any_of_many (p ∷ q ∷ a) h = refl

no_choice : (x : LexKind) (a : List Surface) (k : Around) → (x ≡ Or → ⊥) → step_listed x a k ≡ step_whole x (any_of a) k
no_choice Or a k h = absurd (h refl)
no_choice x a k h = refl

module _ (places : Places) (d : ℕ) where
  -- behind parts an atom goes on
  pub to_atom : (a s : List Surface) (k : Around) (l : List Lexeme) → Comes IsAtomAt l → run places d (turned a s k) l ≡ run places d (atom a s k) l
  to_atom a s k [] h = absurd h
  to_atom a s k (x ∷ l) h = atom_way x.kind a s k (λ t. checked (rule_at places.again d (atom a s k) x.at x.kind) x.at (run places (depth_behind d x.kind) t l))
      (λ j. stopped (left d (turned a s k)) (x ∷ l) x.at j) (λ j. stopped (left d (atom a s k)) (x ∷ l) x.at j) h

  -- behind parts no atom comes
  pub from_turned : (a s : List Surface) (k : Around) (l : List Lexeme) → Next NoAtomAt l → run places d (turned a s k) l ≡ run places d (listed (a ++ in_order s ∷ []) k) l
  from_turned a s k [] h = ap (λ j. stopped (left_by d (ended (turned a s k)) j) [] places.behind kind.Expected) (only_last a (in_order s) k)
  from_turned a s k (x ∷ l) h =
      ap (λ b. either_way (if b then step_atom x.kind a s k else step_listed x.kind (a ++ in_order s ∷ []) k) (λ t. checked (rule_at places.again d (turned a s k) x.at x.kind) x.at (run places (depth_behind d x.kind) t l))
      (λ j. stopped (left d (turned a s k)) (x ∷ l) x.at j)) h
      ∙ ap (λ i. either_way (step_listed x.kind (a ++ in_order s ∷ []) k) (λ t. checked (rule_at places.again d (turned a s k) x.at x.kind) x.at (run places (depth_behind d x.kind) t l))
      (λ j. stopped (left_by d (ended (turned a s k)) i) (x ∷ l) x.at j)) (only_last a (in_order s) k)

  from_only : (a : List Surface) (k : Around) (l : List Lexeme) → only a k ≡ None → NoOr l → run places d (listed a k) l ≡ run places d (whole (any_of a) k) l
  from_only a k [] e h = ap (λ j. stopped (left_by d (ended (listed a k)) j) [] places.behind kind.Expected) e
  from_only a k (x ∷ l) e h =
      ap (λ q. either_way q (λ t. checked (rule_at places.again d (listed a k) x.at x.kind) x.at (run places (depth_behind d x.kind) t l))
      (λ j. stopped (left d (listed a k)) (x ∷ l) x.at j)) (no_choice x.kind a k h)
      ∙ ap (λ i. either_way (step_whole x.kind (any_of a) k) (λ t. checked (rule_at places.again d (listed a k) x.at x.kind) x.at (run places (depth_behind d x.kind) t l))
      (λ j. stopped (left_by d (ended (listed a k)) i) (x ∷ l) x.at j)) e

  -- behind several choices no further one comes: an alternation
  pub from_listed : (a : List Surface) (k : Around) (l : List Lexeme) → 2 ≤ length a → NoOr l → run places d (listed a k) l ≡ run places d (whole (surface.Alt a) k) l
  from_listed a k l many h = from_only a k l (only_none a k many) h ∙ ap (λ p. run places d (whole p k) l) (any_of_many a many)

  -- nor behind one choice in brackets
  pub from_one : (p : Surface) (o : Option (List ℕ)) (a s : List Surface) (k : Around) (l : List Lexeme) → NoOr l → run places d (listed (p ∷ []) (round o a s k)) l ≡ run places d (whole p (round o a s k)) l
  from_one p o a s k l h = from_only (p ∷ []) (round o a s k) l refl h

pub some_more : (a : List Surface) (p : Surface) → 1 ≤ length (a ++ p ∷ [])
some_more [] p = omega arith
some_more (q ∷ a) p = omega arith

pub many_more : (a : List Surface) (p : Surface) → 1 ≤ length a → 2 ≤ length (a ++ p ∷ [])
many_more [] p h = absurd (omega (arith, h))
many_more (q ∷ a) p h = let e = some_more a p in omega (arith, e)

-- the row of a sequence or an alternation
abbrev row_of : Surface → (n : Count) × Row_of-Surface n
row_of (surface.Seq' _ row) = (_, row)
row_of _ = (_, end_of-Surface)

all-row : (n : _) (row : Row_of-Surface n) → are_nullable row ≡ list_all is_nullable (items-the_row-Surface n row)
all-row n end_of-Surface = refl
all-row n (more_of-Surface p rest) = ap (λ z. is_nullable p && z) (all-row _ rest)

any-row : (n : _) (row : Row_of-Surface n) → is_some_nullable row ≡ list_any is_nullable (items-the_row-Surface n row)
any-row n end_of-Surface = refl
any-row n (more_of-Surface p rest) = ap (λ z. is_nullable p || z) (any-row _ rest)

nullable_seq : (ps : List Surface) → is_nullable (surface.Seq ps) ≡ list_all is_nullable ps
nullable_seq ps = let row = row_of (surface.Seq ps) in all-row row.0 row.1 ∙ ap (list_all is_nullable) (items_hidden-the_row-Surface-0 ps)

pub nullable_alt : (ps : List Surface) → is_nullable (surface.Alt ps) ≡ list_any is_nullable ps
nullable_alt ps = let row = row_of (surface.Seq ps) in any-row row.0 row.1 ∙ ap (list_any is_nullable) (items_hidden-the_row-Surface-0 ps)

and_true : (b : Bool) → b ≡ (b && true)
and_true true = refl
and_true false = refl

or_false : (b : Bool) → b ≡ (b || false)
or_false true = refl
or_false false = refl

and_assoc : (a b c : Bool) → (a && (b && c)) ≡ ((a && b) && c)
and_assoc true b c = refl
and_assoc false b c = refl

or_assoc : (a b c : Bool) → (a || (b || c)) ≡ ((a || b) || c)
or_assoc true b c = refl
or_assoc false b c = refl

-- parts may match no token where all may
pub order_nullable : (ps : List Surface) → is_nullable (in_order ps) ≡ list_all is_nullable ps
order_nullable [] = nullable_seq []
order_nullable (p ∷ []) = and_true (is_nullable p)
order_nullable (p ∷ q ∷ ps) = nullable_seq (p ∷ q ∷ ps)

pub all_more : (ps : List Surface) (p : Surface) → list_all is_nullable (ps ++ p ∷ []) ≡ (list_all is_nullable ps && is_nullable p)
all_more [] p = sym (and_true (is_nullable p))
all_more (q ∷ ps) p = ap (λ z. is_nullable q && z) (all_more ps p) ∙ and_assoc (is_nullable q) (list_all is_nullable ps) (is_nullable p)

and_false : (b : Bool) → (b && false) ≡ false
and_false true = refl
and_false false = refl

-- not all may match no token where the last must match one
pub not_all : (ps : List Surface) (p : Surface) → is_nullable p ≡ false → list_all is_nullable (ps ++ p ∷ []) ≡ false
not_all ps p e = all_more ps p ∙ ap (λ z. list_all is_nullable ps && z) e ∙ and_false (list_all is_nullable ps)

pub any_more : (ps : List Surface) (p : Surface) → list_any is_nullable (ps ++ p ∷ []) ≡ (list_any is_nullable ps || is_nullable p)
any_more [] p = sym (or_false (is_nullable p))
any_more (q ∷ ps) p = ap (λ z. is_nullable q || z) (any_more ps p) ∙ or_assoc (is_nullable q) (list_any is_nullable ps) (is_nullable p)

pub nullable_repeat : (p : Surface) (least : ℕ) (most : Option ℕ) (lazy : Bool) → is_nullable (repeat p least most lazy) ≡ ((least == 0) || is_nullable p)
unfolding hidden hidden-the_row-Surface-1
nullable_repeat p least most lazy = refl

pub nullable_capture : (name : List ℕ) (p : Surface) → is_nullable (surface.Capture name p) ≡ is_nullable p
unfolding hidden hidden-the_row-Surface-1
nullable_capture name p = refl

-- a body that may match no token is not repeated without a most
pub not_again : (p : Surface) → is_nullable p ≡ true → may_repeat p None ≡ false
not_again p e = ap not e
