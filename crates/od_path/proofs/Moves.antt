-- Steps that the parser takes.
use Rattle.std.proofs.Common.{◌≡◌, ℕ, ◌+◌, ◌≤◌, true, List, [], ◌∷◌, ◌++◌, drop, length, length-append, refl, ◌∙◌, ap, arith}
use Rattle.od_pattern.specs.declared.path.Path.{Path}
use Rattle.od_pattern.specs.declared.path.Path.TheVariants as path
use Rattle.od_language.specs.declared.lexeme.Lexeme.{Lexeme}
use Rattle.od_language.specs.declared.lexeme.LexKind.{LexKind}
use Rattle.od_language.specs.declared.lexeme.LexKind.TheVariants.{Or, SquareOpen, RoundOpen, Along, Against, AnyAlong, AnyAgainst}
use Rattle.od_language.specs.declared.pattern_fault.PatternKind.{PatternKind}
use Rattle.od_language.specs.Machine.{Outcome, stopped, checked, either_way}
use Rattle.od_language.specs.Depth.{depth_behind, broken_rule}
use Rattle.od_syntax.specs.PathMachine.{Around, State, atom, turned, listed, whole, in_order, any_of, step_atom, step_turned, step_listed, ended, begins_atom, IsAtomAt, NoAtomAt, NoChoiceAt}
use Rattle.od_lex.specs.Machine.{IsAhead}
use Rattle.od_path.specs.Machine.{run, Comes, Next}

-- what begins an atom is taken
atom_way : (x : LexKind) (a s : List Path) (k : Around) (f : State → Outcome Lexeme Path) (g h : PatternKind → Outcome Lexeme Path) → begins_atom x ≡ true →
    either_way (step_turned x a s k) f g ≡ either_way (step_atom x a s k) f h
atom_way Along a s k f g h e = refl
atom_way Against a s k f g h e = refl
atom_way AnyAlong a s k f g h e = refl
atom_way AnyAgainst a s k f g h e = refl
atom_way SquareOpen a s k f g h e = refl
atom_way RoundOpen a s k f g h e = refl
atom_way x a s k f g h e = absurd (cc)

-- behind parts an atom goes on
pub to_atom : (d : ℕ) (a s : List Path) (k : Around) (l : List Lexeme) → Comes IsAtomAt l → run d (turned a s k) l ≡ run d (atom a s k) l
to_atom d a s k [] h = absurd h
to_atom d a s k (x ∷ l) h = atom_way x.kind a s k (λ t. checked (broken_rule d x.kind) x.at (run (depth_behind d x.kind) t l))
    (λ j. stopped (ended (turned a s k)) (x ∷ l) x.at j) (λ j. stopped (ended (atom a s k)) (x ∷ l) x.at j) h

-- two parts or more are a sequence
in_sequence : (ps : List Path) → 2 ≤ length ps → in_order ps ≡ path.Seq ps
in_sequence [] h = absurd (omega arith)
in_sequence (p ∷ []) h = absurd (omega arith)
in_sequence (p ∷ q ∷ ps) h = refl

-- two choices or more are an alternation
in_alternation : (ps : List Path) → 2 ≤ length ps → any_of ps ≡ path.Alt ps
in_alternation [] h = absurd (omega arith)
in_alternation (p ∷ []) h = absurd (omega arith)
in_alternation (p ∷ q ∷ ps) h = refl

-- no further part
turned_listed : (d : ℕ) (a s : List Path) (k : Around) (l : List Lexeme) → Next NoAtomAt l → run d (turned a s k) l ≡ run d (listed (a ++ in_order s ∷ []) k) l
turned_listed d a s k [] h = refl
turned_listed d a s k (x ∷ l) h =
    ap (λ q. either_way q (λ t. checked (broken_rule d x.kind) x.at (run (depth_behind d x.kind) t l)) (λ j. stopped (ended (turned a s k)) (x ∷ l) x.at j)) (h a s k)

-- no further choice
listed_whole : (d : ℕ) (a : List Path) (k : Around) (l : List Lexeme) → Next NoChoiceAt l → run d (listed a k) l ≡ run d (whole (any_of a) k) l
listed_whole d a k [] h = refl
listed_whole d a k (x ∷ l) h =
    ap (λ q. either_way q (λ t. checked (broken_rule d x.kind) x.at (run (depth_behind d x.kind) t l)) (λ j. stopped (ended (listed a k)) (x ∷ l) x.at j)) (h a k)

pub to_listed : (d : ℕ) (a s : List Path) (k : Around) (l : List Lexeme) → Next NoAtomAt l → 2 ≤ length s → run d (turned a s k) l ≡ run d (listed (a ++ path.Seq s ∷ []) k) l
to_listed d a s k l h n = turned_listed d a s k l h ∙ ap (λ p. run d (listed (a ++ p ∷ []) k) l) (in_sequence s n)

pub to_whole : (d : ℕ) (a : List Path) (k : Around) (l : List Lexeme) → Next NoChoiceAt l → 2 ≤ length a → run d (listed a k) l ≡ run d (whole (path.Alt a) k) l
to_whole d a k l h n = listed_whole d a k l h ∙ ap (λ p. run d (whole p k) l) (in_alternation a n)

-- one part alone, and one choice alone
pub one_listed : (d : ℕ) (a : List Path) (p : Path) (k : Around) (l : List Lexeme) → Next NoAtomAt l → run d (turned a (p ∷ []) k) l ≡ run d (listed (a ++ p ∷ []) k) l
one_listed d a p k l h = turned_listed d a (p ∷ []) k l h

pub one_whole : (d : ℕ) (p : Path) (k : Around) (l : List Lexeme) → Next NoChoiceAt l → run d (listed (p ∷ []) k) l ≡ run d (whole p k) l
one_whole d p k l h = listed_whole d (p ∷ []) k l h

-- a further choice
pub to_choice : (d : ℕ) (a : List Path) (k : Around) (i : ℕ) (ls : List Lexeme) → IsAhead Or i ls → run d (listed a k) (drop i ls) ≡ run d (atom a [] k) (drop (i + 1) ls)
to_choice d a k i ls (x, e, h, n) =
    ap (run d (listed a k)) e
    ∙ ap (λ y. either_way (step_listed y a k) (λ t. checked (broken_rule d y) x.at (run (depth_behind d y) t (drop (i + 1) ls))) (λ j. stopped (ended (listed a k)) (x ∷ drop (i + 1) ls) x.at j)) h

-- lists of two and more
pub two_long : (l : List Path) (p q : Path) → l ≡ p ∷ q ∷ [] → 2 ≤ length l
two_long l p q e = let n : length l ≡ 2 = ap length e in omega (arith, n)

pub more_long : (l m : List Path) (p : Path) → 2 ≤ length m → l ≡ m ++ p ∷ [] → 2 ≤ length l
more_long l m p h e = let n : length l ≡ length m + 1 = ap length e ∙ length-append m (p ∷ []) in omega (arith, n, h)
