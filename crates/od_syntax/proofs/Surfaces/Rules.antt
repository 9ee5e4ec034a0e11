-- The machine that takes any quantifier reads surfaces under the rules of whole texts.
use Rattle.std.proofs.Common.{◌≡◌, ℕ, Bool, true, false, List, [], Option, Some, None, Ok, Err, refl}
use Rattle.od_pattern.specs.declared.pattern.Surface.{Surface}
use Rattle.od_language.specs.declared.pattern_fault.PatternKind.{PatternKind}
use Rattle.od_language.specs.declared.pattern_fault.PatternKind.TheVariants as kind
use Rattle.od_language.specs.declared.lexeme.LexKind.{LexKind}
use Rattle.od_language.specs.declared.lexeme.LexKind.TheVariants.{Range, Question, Star, Plus}
use Rattle.od_language.specs.Alphabet.{plain}
use Rattle.od_language.specs.Machine.{Rule, IsReader}
use Rattle.od_language.proofs.Narrower as narrowing
use Rattle.od_syntax.specs.Surfaces.{Surfaces}
use Rattle.od_syntax.specs.Sizes.{may_repeat, may_always}
use Rattle.od_syntax.specs.Rules.{bad_range, capture_or_own, BreaksSurface}
use Rattle.od_syntax.specs.SurfaceMachine.{Around, top, State, atom, name, look, inside, looked, part, counted, turned, listed, whole, counted_if, step, ended, unless_may, repeat_rule_at, repeat_rule}
use Rattle.od_syntax.specs.SurfaceMachine as machine
use Rattle.od_syntax.proofs.Surfaces.Complete.{word_goes}
use Rattle.od_syntax.proofs.Surfaces.Closing.{begins_word}
use Rattle.od_syntax.proofs.Surfaces.Reader.{LexemeRules, reader}

-- where the body may be repeated so, both machines go alike
same_if_may : (b : Bool) (p : Surface) (n : ℕ) (m : Option ℕ) (a s : List Surface) (k : Around) → unless_may b ≡ None → counted_if b p n m a s k ≡ Ok (counted p n m a s k)
same_if_may true p n m a s k e = refl
same_if_may false p n m a s k e = absurd (cc)

kept_part : (x : LexKind) (p : Surface) (a s : List Surface) (k : Around) → repeat_rule_at may_repeat x p ≡ None → machine.step_part may_repeat x p a s k ≡ machine.step_part may_always x p a s k
kept_part Question p a s k e = same_if_may (may_repeat p (Some 1)) p 0 (Some 1) a s k e
kept_part Star p a s k e = same_if_may (may_repeat p None) p 0 None a s k e
kept_part Plus p a s k e = same_if_may (may_repeat p None) p 1 None a s k e
kept_part (Range n m) p a s k e = same_if_may (may_repeat p m) p n m a s k e
kept_part x p a s k e = refl

pub kept : (s : State) (x : LexKind) → repeat_rule may_repeat s x ≡ None → step may_repeat s x ≡ step may_always s x
kept (part p a s k) x e = kept_part x p a s k e
kept (atom a s k) x e = refl
kept (name a s k) x e = refl
kept (look w a s k) x e = refl
kept (inside w c a s k) x e = refl
kept (looked w c a s k) x e = refl
kept (counted p n m a s k) x e = refl
kept (turned a s k) x e = refl
kept (listed a k) x e = refl
kept (whole p k) x e = refl

abbrev pub Broken : State → LexKind → PatternKind → Type 0
Broken s x k = (k ≡ kind.NullableRepeat) × ((t : State) × (step may_always s x ≡ Ok t)) × ((j : PatternKind) × (step may_repeat s x ≡ Err j))

abbrev some_kind : PatternKind → Option PatternKind
some_kind k = Some k

refused_if : (b : Bool) (p : Surface) (n : ℕ) (m : Option ℕ) (a s : List Surface) (k : Around) (j : PatternKind) → unless_may b ≡ Some j → (j ≡ kind.NullableRepeat) × (counted_if b p n m a s k ≡ Err kind.NullableRepeat)
refused_if true p n m a s k j e = absurd (cc)
refused_if false p n m a s k j e = let h : some_kind kind.NullableRepeat ≡ some_kind j = e in (cc, refl)

broke_part : (x : LexKind) (p : Surface) (a s : List Surface) (k : Around) (j : PatternKind) → repeat_rule_at may_repeat x p ≡ Some j → Broken (part p a s k) x j
broke_part Question p a s k j e = absurd (cc)
broke_part Star p a s k j e = let r = refused_if (may_repeat p None) p 0 None a s k j e in (r.0, (counted p 0 None a s k, refl), (kind.NullableRepeat, r.1))
broke_part Plus p a s k j e = let r = refused_if (may_repeat p None) p 1 None a s k j e in (r.0, (counted p 1 None a s k, refl), (kind.NullableRepeat, r.1))
broke_part (Range n None) p a s k j e = let r = refused_if (may_repeat p None) p n None a s k j e in (r.0, (counted p n None a s k, refl), (kind.NullableRepeat, r.1))
broke_part (Range n (Some m)) p a s k j e = absurd (cc)
broke_part x p a s k j e = absurd (cc)

pub broke : (s : State) (x : LexKind) (j : PatternKind) → repeat_rule may_repeat s x ≡ Some j → Broken s x j
broke (part p a s k) x j e = broke_part x p a s k j e
broke (atom a s k) x j e = absurd (cc)
broke (name a s k) x j e = absurd (cc)
broke (look w a s k) x j e = absurd (cc)
broke (inside w c a s k) x j e = absurd (cc)
broke (looked w c a s k) x j e = absurd (cc)
broke (counted p n m a s k) x j e = absurd (cc)
broke (turned a s k) x j e = absurd (cc)
broke (listed a k) x j e = absurd (cc)
broke (whole p k) x j e = absurd (cc)

abbrev pub start : State
start = atom [] [] top

-- the rule behind a front
abbrev pub rule : Rule LexKind
rule = narrowing.rule_between plain (Surfaces may_always) (Surfaces may_repeat) start (step may_always) (step may_repeat) ended
    LexemeRules capture_or_own reader (word_goes may_repeat) (begins_word may_repeat) bad_range kind.NullableRepeat capture_or_own (repeat_rule may_repeat) kept broke

pub surface_reader : IsReader plain (Surfaces may_always) BreaksSurface start (step may_always) rule ended
surface_reader = narrowing.between_reader plain (Surfaces may_always) (Surfaces may_repeat) start (step may_always) (step may_repeat) ended
    LexemeRules capture_or_own reader (word_goes may_repeat) (begins_word may_repeat) bad_range kind.NullableRepeat capture_or_own (repeat_rule may_repeat) kept broke
