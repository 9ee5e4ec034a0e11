-- Where a path that is written out ends.
use Rattle.std.proofs.Common.{◌≡◌, ℕ, false, List, [], ◌∷◌, ◌++◌, length, Some, Err, refl, subst, append-nil}
use Rattle.od_pattern.specs.declared.path.Path.{Path}
use Rattle.od_language.specs.declared.pattern_fault.PatternKind.TheVariants as kind
use Rattle.od_language.specs.declared.lexeme.Lexeme.{Lexeme}
use Rattle.od_language.specs.declared.lexeme.LexKind.{LexKind}
use Rattle.od_language.specs.declared.lexeme.LexKind.TheVariants.{Question, Star, Plus, Range, Along, Against, AnyAlong, AnyAgainst, SquareOpen, RoundOpen, Or}
use Rattle.od_language.specs.Alphabet.{plain, kinds}
use Rattle.od_language.specs.Depth.{BreaksRule}
use Rattle.od_language.specs.FirstFault.{Begins, Keeps, IsRead}
use Rattle.od_language.proofs.Machine.{begins_none}
use Rattle.od_language.proofs.Constraints.Closing.{rule_at}
use Rattle.od_syntax.specs.Paths.{Paths}
use Rattle.od_syntax.specs.PathMachine.{top, round, State, atom, label, inside, part, turned, listed, whole, step, step_part, step_turned, step_listed, ended}
use Rattle.od_syntax.proofs.Paths.Closing.{reader}
use Rattle.od_written.specs.Paths.{path_written, IsWritablePath, goes_on_path}
use Rattle.od_written.proofs.Paths.{back}
use Rattle.od_written.proofs.ReadBack.{read}

refuses_listed : (x : LexKind) (a : List Path) → goes_on_path x ≡ false → step_listed x a top ≡ Err kind.Expected
refuses_listed Or a h = absurd (cc)
refuses_listed x a h = refl

refuses_turned : (x : LexKind) (a s : List Path) → goes_on_path x ≡ false → step_turned x a s top ≡ Err kind.Expected
refuses_turned Along a s h = absurd (cc)
refuses_turned Against a s h = absurd (cc)
refuses_turned AnyAlong a s h = absurd (cc)
refuses_turned AnyAgainst a s h = absurd (cc)
refuses_turned SquareOpen a s h = absurd (cc)
refuses_turned RoundOpen a s h = absurd (cc)
refuses_turned Or a s h = absurd (cc)
refuses_turned x a s h = refl

refuses_part : (x : LexKind) (p : Path) (a s : List Path) → goes_on_path x ≡ false → step_part x p a s top ≡ Err kind.Expected
refuses_part Question p a s h = absurd (cc)
refuses_part Star p a s h = absurd (cc)
refuses_part Plus p a s h = absurd (cc)
refuses_part (Range least most) p a s h = absurd (cc)
refuses_part Along p a s h = absurd (cc)
refuses_part Against p a s h = absurd (cc)
refuses_part AnyAlong p a s h = absurd (cc)
refuses_part AnyAgainst p a s h = absurd (cc)
refuses_part SquareOpen p a s h = absurd (cc)
refuses_part RoundOpen p a s h = absurd (cc)
refuses_part Or p a s h = absurd (cc)
refuses_part x p a s h = refl

-- a state in which a path may end
refuses : (s : State) (p : Path) (x : LexKind) → ended s ≡ Some p → goes_on_path x ≡ false → step s x ≡ Err kind.Expected
refuses (atom a s k) p x e h = absurd (cc)
refuses (label b a s k) p x e h = absurd (cc)
refuses (inside c a s k) p x e h = absurd (cc)
refuses (part q a s top) p x e h = refuses_part x q a s h
refuses (part q a s (round b t k)) p x e h = absurd (cc)
refuses (turned a s top) p x e h = refuses_turned x a s h
refuses (turned a s (round b t k)) p x e h = absurd (cc)
refuses (listed a top) p x e h = refuses_listed x a h
refuses (listed a (round b t k)) p x e h = absurd (cc)
refuses (whole q top) p x e h = refl
refuses (whole q (round b t k)) p x e h = absurd (cc)

no_more : (w : List LexKind) (p : Path) (x : LexKind) → Paths w p [] → goes_on_path x ≡ false → Begins Paths (w ++ x ∷ []) → ⊥
no_more w p x u h =
    let t = (reader 0).word w p u in
    begins_none plain Paths (BreaksRule 0) (atom [] [] top) step (rule_at 0) ended (reader 0) w t.0 x kind.Expected t.1 (refuses t.0 p x t.2 h)

pub path_word : (p : Path) → IsWritablePath p → Paths (path_written p) p []
path_word p w = subst (λ (z : List LexKind). Paths z p []) (append-nil (path_written p)) ((back p w).whole [])

-- a path that is written out, and keeps the rules, is read
pub path_read : (opened : ℕ) (p : Path) (l : List Lexeme) (x : LexKind) (behind : List LexKind) → IsWritablePath p → kinds plain l ≡ path_written p ++ x ∷ behind → goes_on_path x ≡ false →
    Keeps (BreaksRule opened) (path_written p) → IsRead plain Paths (BreaksRule opened) l p (length (path_written p))
path_read opened p l x behind w e h keeps =
    let word = path_word p w in
    read plain Paths (BreaksRule opened) l (path_written p) x behind p word keeps (no_more (path_written p) p x word h) e
