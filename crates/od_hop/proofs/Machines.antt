-- The machine of the parser's contracts is the one by which the verdict of a text is computed.
use Rattle.std.proofs.Common.{◌≡◌, ℕ, Bool, true, false, if◌then◌else◌, List, [], ◌∷◌, ◌++◌, Option, Some, None, Result, Ok, Err, refl, sym, ◌∙◌, ap, subst}
use Rattle.od_pattern.specs.declared.rule.Hop.{Hop}
use Rattle.od_language.specs.declared.pattern_fault.PatternKind.{PatternKind}
use Rattle.od_language.specs.declared.pattern_fault.PatternKind.TheVariants as kind
use Rattle.od_language.specs.declared.lexeme.Lexeme.{Lexeme}
use Rattle.od_language.specs.declared.lexeme.LexKind.{LexKind}
use Rattle.od_language.specs.declared.lexeme.LexKind.TheVariants.{NameOpen, Range}
use Rattle.od_language.specs.Alphabet.{plain, kinds}
use Rattle.od_language.specs.Depth.{depth_behind, depth_after, broken_rule}
use Rattle.od_language.specs.Machine.{steps, Outcome, stopped, checked, either_way, run, first_broken}
use Rattle.od_language.proofs.Machine.{steps_one}
use Rattle.od_path.specs.Steps.{told_behind}
use Rattle.od_path.proofs.Groups.{untold_told}
use Rattle.od_surface.specs.Again.{opens_again, named_behind, IsMarked, Marks}
use Rattle.od_surface.specs.Reading.{own_rule}
use Rattle.od_syntax.specs.HopMachine.{State, first, between, behind, bars, from_surface, alone_if, joined_if, step, ended, repeat_rule}
use Rattle.od_syntax.specs.HopVerdicts.{hop_start, hop_rule}
use Rattle.od_syntax.specs.Rules.{bad_range, capture_or_own, is_one_of, opened_names}
use Rattle.od_syntax.specs.Sizes.{may_repeat, may_always}
use Rattle.od_syntax.specs.SurfaceMachine.{joins}
use Rattle.od_syntax.specs.Told.{Told, lexeme, steps_open, ToldLexeme, told_apart, untold, all_untold, told_from, told, in_constraint}
use Rattle.od_syntax.proofs.Surfaces.Rules as surface_rules
use Rattle.od_hop.specs.Reading.{rule_at, hop_run}

-- the lexemes before, as they stand in the text
abbrev names : List Told → List (List ℕ)
names f = opened_names (all_untold f)

abbrev depth : List Told → ℕ
depth f = depth_after 0 (all_untold f)

named_front : (m : List ℕ) (ns : List (List ℕ)) (x : LexKind) → m ∷ named_behind ns x ≡ named_behind (m ∷ ns) x
named_front m ns (NameOpen n) = refl
named_front m ns x = refl

named_last : (x : LexKind) → opened_names (x ∷ []) ≡ named_behind [] x
named_last (NameOpen n) = refl
named_last x = refl

named_more : (y : LexKind) (f : List LexKind) (x : LexKind) (g : List LexKind) → opened_names g ≡ named_behind (opened_names f) x → opened_names (y ∷ g) ≡ named_behind (opened_names (y ∷ f)) x
named_more (NameOpen m) f x g e = ap (λ z. m ∷ z) e ∙ named_front m (opened_names f) x
named_more y f x g e = e

named_snoc : (f : List Told) (x : Told) → names (f ++ x ∷ []) ≡ named_behind (names f) (untold x)
named_snoc [] x = named_last (untold x)
named_snoc (y ∷ f) x = named_more (untold y) (all_untold f) (untold x) (all_untold (f ++ x ∷ [])) (named_snoc f x)

depth_from : (d : ℕ) (f : List Told) (x : Told) → depth_after d (all_untold (f ++ x ∷ [])) ≡ told_behind (depth_after d (all_untold f)) x
depth_from d [] x = refl
depth_from d (y ∷ f) x = depth_from (depth_behind d (untold y)) f x

-- ## Marks

-- the same of lexemes told apart
abbrev MarksTold : Option ℕ → List (List ℕ) → List ToldLexeme → Type 0
MarksTold again ns [] = Unit {0}
MarksTold again ns (x ∷ l) =
    IsMarked again ns x.at (untold x.told) × (opens_again ns (untold x.told) ≡ false → MarksTold again (named_behind ns (untold x.told)) l)

marks_told : (again : Option ℕ) (ns : List (List ℕ)) (b : Bool) (l : List Lexeme) → Marks again ns l → MarksTold again ns (told_from b l)
marks_told again ns b [] m = tt
marks_told again ns b (x ∷ l) m =
    subst (λ (z : LexKind). IsMarked again ns x.at z × (opens_again ns z ≡ false → MarksTold again (named_behind ns z) (told_from (in_constraint b x.kind) l))) (sym (untold_told b x.kind (kinds plain l)))
    (m.0, λ e. marks_told again (named_behind ns x.kind) (in_constraint b x.kind) l (m.1 e))

-- ## Rules

-- where no body is repeated that may not be, the machines go alike
kept : (s : State) (x : Told) → repeat_rule may_repeat s x ≡ None → step may_repeat s x ≡ step may_always s x
kept (first q) (lexeme y) e = ap (λ z. from_surface first z (lexeme y) (alone_if (joins q))) (surface_rules.kept q y e)
kept (first q) steps_open e = refl
kept (between h q) x e = refl
kept (behind h p q) (lexeme y) e =
    ap (λ z. from_surface (behind h p) (if bars q y then Err kind.Expected else z) (lexeme y) (joined_if h p (joins q))) (surface_rules.kept q y e)
kept (behind h p q) steps_open e = refl

same_range : (f : List LexKind) (x : LexKind) → bad_range [] x ≡ bad_range f x
same_range f (Range n m) = refl
same_range f x = refl

same_own : (again : Option ℕ) (f : List LexKind) (at : ℕ) (x : LexKind) → IsMarked again (opened_names f) at x → own_rule again (depth_after 0 f) at x ≡ capture_or_own f x
same_own again f at (NameOpen n) h = ap (λ b. if b then Some kind.SameCapture else broken_rule (depth_after 0 f) (NameOpen n)) h
same_own again f at x h = refl

unmarked_by : (b : Bool) (r : Option PatternKind) → (if b then Some kind.SameCapture else r) ≡ None → b ≡ false
unmarked_by true r e = absurd (cc)
unmarked_by false r e = refl

-- where the rule is kept, no name stands again
unmarked : (f : List LexKind) (x : LexKind) → capture_or_own f x ≡ None → opens_again (opened_names f) x ≡ false
unmarked f (NameOpen n) e = unmarked_by (is_one_of (opened_names f) n) (broken_rule (depth_after 0 f) (NameOpen n)) e
unmarked f x e = refl

abbrev pub go : List Told → State → List ToldLexeme → Outcome ToldLexeme Hop
go = run told_apart (step may_always) hop_rule ended

abbrev rule_in : Result State PatternKind → List Told → Told → Option PatternKind
rule_in (Ok s) f x = first_broken (bad_range (all_untold f) (untold x)) (first_broken (repeat_rule may_repeat s x) (capture_or_own (all_untold f) (untold x)))
rule_in (Err k) f x = first_broken (bad_range (all_untold f) (untold x)) (capture_or_own (all_untold f) (untold x))

-- the rule behind a front that is taken
rule_of : (f : List Told) (s : State) (x : Told) → steps (step may_repeat) hop_start f ≡ Ok s →
    hop_rule f x ≡ first_broken (bad_range (all_untold f) (untold x)) (first_broken (repeat_rule may_repeat s x) (capture_or_own (all_untold f) (untold x)))
rule_of f s x h = ap (λ q. rule_in q f x) h

same_rule : (again : Option ℕ) (f : List Told) (s : State) (x : ToldLexeme) → IsMarked again (names f) x.at (untold x.told) →
    rule_at again (depth f) s x.at x.told ≡ first_broken (bad_range (all_untold f) (untold x.told)) (first_broken (repeat_rule may_repeat s x.told) (capture_or_own (all_untold f) (untold x.told)))
same_rule again f s x m =
    ap (λ b. first_broken b (first_broken (repeat_rule may_repeat s x.told) (own_rule again (depth f) x.at (untold x.told)))) (same_range (all_untold f) (untold x.told))
    ∙ ap (λ r. first_broken (bad_range (all_untold f) (untold x.told)) (first_broken (repeat_rule may_repeat s x.told) r)) (same_own again (all_untold f) x.at (untold x.told) m)

-- ## Steps

abbrev Alike : Option ℕ → List Told → State → List ToldLexeme → Type 0
Alike again f s l = steps (step may_repeat) hop_start f ≡ Ok s → MarksTold again (names f) l → hop_run again (depth f) s l ≡ go f s l

alike_rules : (again : Option ℕ) (f : List Told) (s t : State) (x : ToldLexeme) (l : List ToldLexeme) (b q r : Option PatternKind) →
    repeat_rule may_repeat s x.told ≡ q → capture_or_own (all_untold f) (untold x.told) ≡ r →
    steps (step may_repeat) hop_start f ≡ Ok s → step may_always s x.told ≡ Ok t → MarksTold again (names f) (x ∷ l) → Alike again (f ++ x.told ∷ []) t l →
    checked (first_broken b (first_broken q r)) x.at (hop_run again (told_behind (depth f) x.told) t l) ≡ checked (first_broken b (first_broken q r)) x.at (go (f ++ x.told ∷ []) t l)
alike_rules again f s t x l (Some j) q r e g h i m rec = refl
alike_rules again f s t x l None (Some j) r e g h i m rec = refl
alike_rules again f s t x l None None (Some j) e g h i m rec = refl
alike_rules again f s t x l None None None e g h i m rec =
    ap (λ d. hop_run again d t l) (sym (depth_from 0 f x.told))
    ∙ rec (steps_one (step may_repeat) f hop_start s x.told (Ok t) h (kept s x.told e ∙ i))
    (subst (λ (z : List (List ℕ)). MarksTold again z l) (sym (named_snoc f x.told)) (m.1 (unmarked (all_untold f) (untold x.told) g)))

alike_step : (again : Option ℕ) (f : List Told) (s : State) (x : ToldLexeme) (l : List ToldLexeme) (q : Result State PatternKind) → step may_always s x.told ≡ q →
    ((t : State) → Alike again (f ++ x.told ∷ []) t l) → steps (step may_repeat) hop_start f ≡ Ok s → MarksTold again (names f) (x ∷ l) →
    either_way q (λ t. checked (rule_at again (depth f) s x.at x.told) x.at (hop_run again (told_behind (depth f) x.told) t l)) (λ j. stopped (ended s) (x ∷ l) x.at j)
    ≡ either_way q (λ t. checked (hop_rule f x.told) x.at (go (f ++ x.told ∷ []) t l)) (λ j. stopped (ended s) (x ∷ l) x.at j)
alike_step again f s x l (Ok t) i rec h m =
    ap (λ r. checked r x.at (hop_run again (told_behind (depth f) x.told) t l)) (same_rule again f s x m.0)
    ∙ alike_rules again f s t x l (bad_range (all_untold f) (untold x.told)) (repeat_rule may_repeat s x.told) (capture_or_own (all_untold f) (untold x.told)) refl refl h i m (rec t)
    ∙ ap (λ r. checked r x.at (go (f ++ x.told ∷ []) t l)) (sym (rule_of f s x.told h))
alike_step again f s x l (Err j) i rec h m = refl

alike : (again : Option ℕ) (f : List Told) (s : State) (l : List ToldLexeme) → Alike again f s l
alike again f s [] h m = refl
alike again f s (x ∷ l) h m = alike_step again f s x l (step may_always s x.told) refl (λ t. alike again (f ++ x.told ∷ []) t l) h m

-- the machines go alike from the beginning
pub same_run : (again : Option ℕ) (l : List Lexeme) → Marks again [] l → hop_run again 0 hop_start (told l) ≡ go [] hop_start (told l)
same_run again l m = alike again [] hop_start (told l) refl (marks_told again [] false l m)
