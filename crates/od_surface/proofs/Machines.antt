-- The machine of the parser's contracts is the one by which the verdict of a text is computed.
use Rattle.std.proofs.Common.{◌≡◌, ℕ, Bool, true, false, if◌then◌else◌, List, [], ◌∷◌, ◌++◌, Option, Some, None, Result, Ok, Err, refl, sym, ◌∙◌, ap, subst}
use Rattle.od_pattern.specs.declared.pattern.Surface.{Surface}
use Rattle.od_language.specs.declared.pattern_fault.PatternKind.{PatternKind}
use Rattle.od_language.specs.declared.pattern_fault.PatternKind.TheVariants as kind
use Rattle.od_language.specs.declared.lexeme.Lexeme.{Lexeme}
use Rattle.od_language.specs.declared.lexeme.LexKind.{LexKind}
use Rattle.od_language.specs.declared.lexeme.LexKind.TheVariants.{NameOpen, Range}
use Rattle.od_language.specs.Alphabet.{plain}
use Rattle.od_language.specs.Depth.{depth_behind, depth_after, broken_rule}
use Rattle.od_language.specs.Machine.{steps, Outcome, stopped, checked, either_way, run, first_broken}
use Rattle.od_language.proofs.Machine.{steps_one}
use Rattle.od_syntax.specs.Rules.{bad_range, capture_or_own, is_one_of, opened_names}
use Rattle.od_syntax.specs.Sizes.{may_repeat, may_always}
use Rattle.od_syntax.specs.SurfaceMachine.{State, atom, name, look, inside, looked, part, counted, turned, listed, whole, step, ended, repeat_rule}
use Rattle.od_syntax.specs.Verdicts.{surface_start, surface_rule}
use Rattle.od_syntax.proofs.Surfaces.Rules.{kept}
use Rattle.od_surface.specs.Again.{opens_again, named_behind, IsMarked, Marks}
use Rattle.od_surface.specs.Reading.{Left, single, left_by, left, own_rule, rule_at, end_of, whole_of, of_text}
use Rattle.od_surface.specs.Reading.{run as run_behind}

named_front : (m : List ℕ) (names : List (List ℕ)) (x : LexKind) → m ∷ named_behind names x ≡ named_behind (m ∷ names) x
named_front m names (NameOpen n) = refl
named_front m names x = refl

named_snoc : (f : List LexKind) (x : LexKind) → opened_names (f ++ x ∷ []) ≡ named_behind (opened_names f) x
named_snoc [] (NameOpen n) = refl
named_snoc [] x = refl
named_snoc (NameOpen m ∷ f) x = ap (λ z. m ∷ z) (named_snoc f x) ∙ named_front m (opened_names f) x
named_snoc (y ∷ f) x = named_snoc f x

pub depth_snoc : (d : ℕ) (f : List LexKind) (x : LexKind) → depth_after d (f ++ x ∷ []) ≡ depth_behind (depth_after d f) x
depth_snoc d [] x = refl
depth_snoc d (y ∷ f) x = depth_snoc (depth_behind d y) f x

end_is : (again : Option ℕ) (s : State) → end_of (of_text again) s ≡ 0
end_is again (inside w c a s k) = refl
end_is again (atom a s k) = refl
end_is again (name a s k) = refl
end_is again (look w a s k) = refl
end_is again (looked w c a s k) = refl
end_is again (part p a s k) = refl
end_is again (counted p n m a s k) = refl
end_is again (turned a s k) = refl
end_is again (listed a k) = refl
end_is again (whole p k) = refl

stopped_alike : (o j : Option Surface) (d : ℕ) (l : List Lexeme) (at : ℕ) (k : PatternKind) → whole_of (stopped (left_by d o j) l at k) ≡ stopped o l at k
stopped_alike None j d l at k = refl
stopped_alike (Some p) j d l at k = refl

-- ## Rules

same_range : (f : List LexKind) (x : LexKind) → bad_range [] x ≡ bad_range f x
same_range f (Range n m) = refl
same_range f x = refl

same_own : (again : Option ℕ) (f : List LexKind) (at : ℕ) (x : LexKind) → IsMarked again (opened_names f) at x → own_rule again (depth_after 0 f) at x ≡ capture_or_own f x
same_own again f at (NameOpen n) h = ap (λ b. if b then Some kind.SameCapture else broken_rule (depth_after 0 f) (NameOpen n)) h
same_own again f at x h = refl

unmarked_by : (b : Bool) (r : Option PatternKind) → (if b then Some kind.SameCapture else r) ≡ None → b ≡ false
unmarked_by true r e = absurd (cc)
unmarked_by false r e = refl

-- where the rule is kept, no name stands again
unmarked : (f : List LexKind) (x : LexKind) → capture_or_own f x ≡ None → opens_again (opened_names f) x ≡ false
unmarked f (NameOpen n) e = unmarked_by (is_one_of (opened_names f) n) (broken_rule (depth_after 0 f) (NameOpen n)) e
unmarked f x e = refl

abbrev pub go : List LexKind → State → List Lexeme → Outcome Lexeme Surface
go = run plain (step may_always) surface_rule ended

abbrev mine : Option ℕ → ℕ → State → List Lexeme → Outcome Lexeme Surface
mine again d s l = whole_of (run_behind (of_text again) d s l)

abbrev Alike : Option ℕ → List LexKind → State → List Lexeme → Type 0
Alike again f s l = steps (step may_repeat) surface_start f ≡ Ok s → Marks again (opened_names f) l → mine again (depth_after 0 f) s l ≡ go f s l

abbrev rule_in : Result State PatternKind → List LexKind → LexKind → Option PatternKind
rule_in (Ok s) f x = first_broken (bad_range f x) (first_broken (repeat_rule may_repeat s x) (capture_or_own f x))
rule_in (Err k) f x = first_broken (bad_range f x) (capture_or_own f x)

-- the rule behind a front that is taken
rule_of : (f : List LexKind) (s : State) (x : LexKind) → steps (step may_repeat) surface_start f ≡ Ok s → surface_rule f x ≡ first_broken (bad_range f x) (first_broken (repeat_rule may_repeat s x) (capture_or_own f x))
rule_of f s x h = ap (λ q. rule_in q f x) h

-- ## Steps

checked_alike : (r : Option PatternKind) (at : ℕ) (o : Outcome Lexeme Left) → whole_of (checked r at o) ≡ checked r at (whole_of o)
checked_alike None at o = refl
checked_alike (Some k) at o = refl

alike_rules : (again : Option ℕ) (f : List LexKind) (s t : State) (x : Lexeme) (l : List Lexeme) (b q r : Option PatternKind) → repeat_rule may_repeat s x.kind ≡ q → capture_or_own f x.kind ≡ r →
    steps (step may_repeat) surface_start f ≡ Ok s → step may_always s x.kind ≡ Ok t → Marks again (opened_names f) (x ∷ l) → Alike again (f ++ x.kind ∷ []) t l →
    checked (first_broken b (first_broken q r)) x.at (mine again (depth_behind (depth_after 0 f) x.kind) t l) ≡ checked (first_broken b (first_broken q r)) x.at (go (f ++ x.kind ∷ []) t l)
alike_rules again f s t x l (Some j) q r e g h i m rec = refl
alike_rules again f s t x l None (Some j) r e g h i m rec = refl
alike_rules again f s t x l None None (Some j) e g h i m rec = refl
alike_rules again f s t x l None None None e g h i m rec =
    ap (λ d. mine again d t l) (sym (depth_snoc 0 f x.kind))
    ∙ rec (steps_one (step may_repeat) f surface_start s x.kind (Ok t) h (kept s x.kind e ∙ i)) (subst (λ (z : List (List ℕ)). Marks again z l) (sym (named_snoc f x.kind)) (m.1 (unmarked f x.kind g)))

same_rule : (again : Option ℕ) (f : List LexKind) (s : State) (x : Lexeme) → steps (step may_repeat) surface_start f ≡ Ok s → IsMarked again (opened_names f) x.at x.kind →
    rule_at again (depth_after 0 f) s x.at x.kind ≡ first_broken (bad_range f x.kind) (first_broken (repeat_rule may_repeat s x.kind) (capture_or_own f x.kind))
same_rule again f s x h m =
    ap (λ b. first_broken b (first_broken (repeat_rule may_repeat s x.kind) (own_rule again (depth_after 0 f) x.at x.kind))) (same_range f x.kind)
    ∙ ap (λ r. first_broken (bad_range f x.kind) (first_broken (repeat_rule may_repeat s x.kind) r)) (same_own again f x.at x.kind m)

alike_step : (again : Option ℕ) (f : List LexKind) (s : State) (x : Lexeme) (l : List Lexeme) (q : Result State PatternKind) → step may_always s x.kind ≡ q →
    ((t : State) → Alike again (f ++ x.kind ∷ []) t l) → steps (step may_repeat) surface_start f ≡ Ok s → Marks again (opened_names f) (x ∷ l) →
    whole_of (either_way q (λ t. checked (rule_at again (depth_after 0 f) s x.at x.kind) x.at (run_behind (of_text again) (depth_behind (depth_after 0 f) x.kind) t l)) (λ j. stopped (left (depth_after 0 f) s) (x ∷ l) x.at j))
    ≡ either_way q (λ t. checked (surface_rule f x.kind) x.at (go (f ++ x.kind ∷ []) t l)) (λ j. stopped (ended s) (x ∷ l) x.at j)
alike_step again f s x l (Ok t) i rec h m =
    checked_alike (rule_at again (depth_after 0 f) s x.at x.kind) x.at (run_behind (of_text again) (depth_behind (depth_after 0 f) x.kind) t l)
    ∙ ap (λ r. checked r x.at (mine again (depth_behind (depth_after 0 f) x.kind) t l)) (same_rule again f s x h m.0)
    ∙ alike_rules again f s t x l (bad_range f x.kind) (repeat_rule may_repeat s x.kind) (capture_or_own f x.kind) refl refl h i m (rec t)
    ∙ ap (λ r. checked r x.at (go (f ++ x.kind ∷ []) t l)) (sym (rule_of f s x.kind h))
alike_step again f s x l (Err j) i rec h m = stopped_alike (ended s) (single s) (depth_after 0 f) (x ∷ l) x.at j

alike : (again : Option ℕ) (f : List LexKind) (s : State) (l : List Lexeme) → Alike again f s l
alike again f s [] h m =
    stopped_alike (ended s) (single s) (depth_after 0 f) [] (end_of (of_text again) s) kind.Expected
    ∙ ap (λ at. stopped (ended s) [] at kind.Expected) (end_is again s)
alike again f s (x ∷ l) h m = alike_step again f s x l (step may_always s x.kind) refl (λ t. alike again (f ++ x.kind ∷ []) t l) h m

-- the machines go alike from the beginning
pub same_run : (again : Option ℕ) (l : List Lexeme) → Marks again [] l → mine again 0 surface_start l ≡ go [] surface_start l
same_run again l m = alike again [] surface_start l refl m
