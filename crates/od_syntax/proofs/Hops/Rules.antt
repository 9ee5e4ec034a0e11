-- The machine that takes any quantifier reads hops under the rules of whole texts.
use Rattle.std.proofs.Common.{◌≡◌, false, if◌then◌else◌, [], Option, Some, None, Ok, Err, refl, ◌∙◌, ap}
use Rattle.od_pattern.specs.declared.rule.Hop.{Hop}
use Rattle.od_pattern.specs.declared.path.Path.{Path}
use Rattle.od_language.specs.declared.pattern_fault.PatternKind.{PatternKind}
use Rattle.od_language.specs.declared.pattern_fault.PatternKind.TheVariants as kind
use Rattle.od_language.specs.declared.lexeme.LexKind.{LexKind}
use Rattle.od_language.specs.declared.lexeme.LexKind.TheVariants.{Range, Question, Star, Plus}
use Rattle.od_language.specs.Machine.{IsReader}
use Rattle.od_language.proofs.Narrower as narrowing
use Rattle.od_syntax.specs.HopMachine.{State, first, between, behind, bars, to_steps, from_surface, step, ended, alone_if, joined_if, repeat_rule}
use Rattle.od_syntax.specs.Hops.{Hops, BreaksHop, rule_untold}
use Rattle.od_syntax.specs.HopVerdicts.{hop_start, hop_rule}
use Rattle.od_syntax.specs.Rules.{bad_range, capture_or_own}
use Rattle.od_syntax.specs.Sizes.{may_repeat, may_always}
use Rattle.od_syntax.specs.StepsMachine as path
use Rattle.od_syntax.specs.SurfaceMachine as surface
use Rattle.od_syntax.specs.Told.{Told, lexeme, steps_open, told_apart}
use Rattle.od_syntax.proofs.Hops.Closing.{begins_word}
use Rattle.od_syntax.proofs.Hops.Complete.{hop_goes}
use Rattle.od_syntax.proofs.Hops.Reader.{LexemeRules, reader}
use Rattle.od_syntax.proofs.Surfaces.Rules as surface_rules

kept : (s : State) (x : Told) → repeat_rule may_repeat s x ≡ None → step may_repeat s x ≡ step may_always s x
kept (first q) (lexeme y) e = ap (λ z. from_surface first z (lexeme y) (alone_if (surface.joins q))) (surface_rules.kept q y e)
kept (first q) steps_open e = refl
kept (between h q) x e = refl
kept (behind h p q) (lexeme y) e =
    ap (λ z. from_surface (behind h p) (if bars q y then Err kind.Expected else z) (lexeme y) (joined_if h p (surface.joins q))) (surface_rules.kept q y e)
kept (behind h p q) steps_open e = refl

-- a quantifier begins no steps and is no `|`
abbrev IsQuantified : surface.State → LexKind → Type 0
IsQuantified q y = (path.opened [] (lexeme y) ≡ Err kind.Expected) × (bars q y ≡ false)

quantified : (q : surface.State) (y : LexKind) (k : PatternKind) → surface.repeat_rule may_repeat q y ≡ Some k → IsQuantified q y
quantified (surface.part p a s k) Question j e = (refl, refl)
quantified (surface.part p a s k) Star j e = (refl, refl)
quantified (surface.part p a s k) Plus j e = (refl, refl)
quantified (surface.part p a s k) (Range n m) j e = (refl, refl)
quantified q y j e = absurd (cc)

abbrev Broken : State → Told → PatternKind → Type 0
Broken s x k = (k ≡ kind.NullableRepeat) × ((t : State) × (step may_always s x ≡ Ok t)) × ((j : PatternKind) × (step may_repeat s x ≡ Err j))

refused : (within : surface.State → State) (y : LexKind) (o : Option Hop) (j : PatternKind) → path.opened [] (lexeme y) ≡ Err kind.Expected →
    from_surface within (Err j) (lexeme y) o ≡ Err j
refused within y o j e = ap (λ z. to_steps z o j) e

broke_first : (q : surface.State) (y : LexKind) (k : PatternKind) → surface.repeat_rule may_repeat q y ≡ Some k → Broken (first q) (lexeme y) k
broke_first q y k e =
    let b = surface_rules.broke q y k e in
    let o = alone_if (surface.joins q) in (
      b.0,
      (first b.1.0, ap (λ z. from_surface first z (lexeme y) o) b.1.1),
      (b.2.0, ap (λ z. from_surface first z (lexeme y) o) b.2.1 ∙ refused first y o b.2.0 (quantified q y k e).0),
    )

broke_behind : (h : Hop) (p : Path) (q : surface.State) (y : LexKind) (k : PatternKind) → surface.repeat_rule may_repeat q y ≡ Some k → Broken (behind h p q) (lexeme y) k
broke_behind h p q y k e =
    let b = surface_rules.broke q y k e in
    let o = joined_if h p (surface.joins q) in
    let n = quantified q y k e in (
      b.0,
      (
        behind h p b.1.0,
        ap (λ z. from_surface (behind h p) (if z then Err kind.Expected else surface.step may_always q y) (lexeme y) o) n.1 ∙ ap (λ z. from_surface (behind h p) z (lexeme y) o) b.1.1,
      ),
      (
        b.2.0,
        ap (λ z. from_surface (behind h p) (if z then Err kind.Expected else surface.step may_repeat q y) (lexeme y) o) n.1 ∙ ap (λ z. from_surface (behind h p) z (lexeme y) o) b.2.1
            ∙ refused (behind h p) y o b.2.0 n.0,
      ),
    )

broke : (s : State) (x : Told) (k : PatternKind) → repeat_rule may_repeat s x ≡ Some k → Broken s x k
broke (first q) (lexeme y) k e = broke_first q y k e
broke (first q) steps_open k e = absurd (cc)
broke (between h q) x k e = absurd (cc)
broke (behind h p q) (lexeme y) k e = broke_behind h p q y k e
broke (behind h p q) steps_open k e = absurd (cc)

pub hop_reader : IsReader told_apart (Hops may_always) BreaksHop hop_start (step may_always) hop_rule ended
hop_reader = narrowing.between_reader told_apart (Hops may_always) (Hops may_repeat) hop_start (step may_always) (step may_repeat) ended
    LexemeRules (rule_untold capture_or_own) reader (hop_goes may_repeat) (begins_word may_repeat) (rule_untold bad_range) kind.NullableRepeat (rule_untold capture_or_own)
    (repeat_rule may_repeat) kept broke
