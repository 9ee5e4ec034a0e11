-- Each state can still be brought to the end; what does not fit a state begins no word.
use Rattle.std.proofs.Common.{◌≡◌, ℕ, Bool, List, [], ◌∷◌, ◌++◌, Option, Some, None, Result, Ok, Err, refl, sym, ◌∙◌, ap, inl, inr, subst}
use Rattle.od_pattern.specs.declared.path.Path.{Path}
use Rattle.od_language.specs.declared.pattern_fault.PatternKind.{PatternKind}
use Rattle.od_language.specs.declared.pattern_fault.PatternKind.TheVariants as kind
use Rattle.od_language.specs.declared.lexeme.LexKind.{LexKind}
use Rattle.od_language.specs.declared.lexeme.LexKind.TheVariants.{Word, Equal, Quoted, Regex, Range, RoundClose, Along, Against, AnyAlong, AnyAgainst, Question, Star, Plus, End}
use Rattle.od_language.specs.Alphabet.{plain}
use Rattle.od_language.specs.Depth.{broken_rule, depth_after}
use Rattle.od_language.specs.FirstFault.{Begins}
use Rattle.od_language.specs.Machine.{◌>>=◌, Rule, steps, IsReader, Refusal}
use Rattle.od_language.proofs.Machine.{steps_append}
use Rattle.od_syntax.specs.PathMachine as paths
use Rattle.od_syntax.specs.Hops.{Steps, BreaksSteps}
use Rattle.od_syntax.specs.Told.{Told, lexeme, steps_open, told_apart, as_told, untold, all_untold}
use Rattle.od_syntax.specs.StepsMachine.{State, begun, label, group, part, turned, group_start, opened, labelled, closing, grouped, counted, step, ended}
use Rattle.od_syntax.proofs.Paths.Closing as inner
use Rattle.od_syntax.proofs.Paths.Sound as inner_sound
use Rattle.od_syntax.proofs.Steps.Complete.{steps_go, inner_goes, close_goes}
use Rattle.od_syntax.proofs.Steps.Sound.{Holds, holds, word_of}

abbrev pub Ends : State → Type 0
Ends s = (r : List Told) × (t : State) × (p : Path) × (steps step s r ≡ Ok t) × (ended t ≡ Some p)

untold_back : (l : List LexKind) → all_untold (as_told l) ≡ l
untold_back [] = refl
untold_back (x ∷ l) = ap (λ z. x ∷ z) (untold_back l)

ends_group : (v : List LexKind) (q : paths.State) (s : List Path) → steps paths.step group_start v ≡ Ok q → Ends (group q s)
ends_group v q s h =
    let e = inner.ends v q (inner_sound.holds v q h) in
    let go : steps step (group q s) (as_told e.0) ≡ Ok (group e.1 s) = inner_goes (as_told e.0) q e.1 s (ap (steps paths.step q) (untold_back e.0) ∙ e.3) in (
      as_told e.0 ++ lexeme RoundClose ∷ [],
      part e.2 s,
      _,
      steps_append step (group q s) (as_told e.0) (lexeme RoundClose ∷ []) ∙ ap (λ z. z >>= λ u. steps step u (lexeme RoundClose ∷ [])) go
          ∙ ap (λ z. z >>= λ u. Ok u) (close_goes e.1 e.2 s e.4),
      refl,
    )

pub ends : (w : List Told) (s : State) → Holds w s [] → Ends s
ends w begun h = (lexeme AnyAlong ∷ [], part _ [], _, refl, refl)
ends w (label b s) h = (lexeme (Word []) ∷ [], part _ s, _, refl, refl)
ends w (group q s) (v, h, e) = ends_group (all_untold v) q s e
ends w (part p s) h = ([], part p s, _, refl, refl)
ends w (turned s) h = ([], turned s, _, refl, refl)

pub begins_word : (f : List Told) (s : State) → steps step begun f ≡ Ok s → Begins Steps f
begins_word f s h =
    let e = ends f s (holds f s h) in
    let t : steps step begun (f ++ e.0) ≡ Ok e.1 = steps_append step begun f e.0 ∙ ap (λ q. q >>= λ u. steps step u e.0) h ∙ e.3 in
    (e.0, e.2, word_of (f ++ e.0) e.1 e.2 (holds (f ++ e.0) e.1 t) e.4)

-- outside brackets nothing but `Expected` is said
abbrev Plainly : Result State PatternKind → Type 0
Plainly (Ok t) = Unit {0}
Plainly (Err j) = j ≡ kind.Expected

plain_opened : (x : Told) (s : List Path) → Plainly (opened s x)
plain_opened steps_open s = tt
plain_opened (lexeme Along) s = tt
plain_opened (lexeme Against) s = tt
plain_opened (lexeme AnyAlong) s = tt
plain_opened (lexeme AnyAgainst) s = tt
plain_opened x s = refl

plain_labelled : (x : Told) (b : Bool) (s : List Path) → Plainly (labelled x b s)
plain_labelled (lexeme (Word t)) b s = tt
plain_labelled (lexeme (Quoted t)) b s = tt
plain_labelled (lexeme (Regex t)) b s = tt
plain_labelled x b s = refl

plain_counted : (x : Told) (p : Path) (s : List Path) → Plainly (counted x p s)
plain_counted (lexeme Question) p s = tt
plain_counted (lexeme Star) p s = tt
plain_counted (lexeme Plus) p s = tt
plain_counted (lexeme (Range n m)) p s = tt
plain_counted x p s = plain_opened x (s ++ p ∷ [])

abbrev field_of : List ℕ → List Told
field_of other = lexeme (Word other) ∷ lexeme Equal ∷ []

plain_by : (s : State) (x : Told) (j : PatternKind) → step s x ≡ Err j → Plainly (step s x) →
    ((name other : List ℕ) → x ≡ lexeme (Word name) → (i : PatternKind) × (steps step s (field_of other) ≡ Err i)) → Refusal told_apart step s x j
plain_by s x j e h n = inl (subst Plainly e h, n)

label_word : (b : Bool) (s : List Path) (x : Told) (name : List ℕ) (j : PatternKind) → step (label b s) x ≡ Err j → x ≡ lexeme (Word name) → ⊥
label_word b s x name j e w = let t : step (label b s) (lexeme (Word name)) ≡ Err j = sym (ap (step (label b s)) w) ∙ e in absurd (cc)

abbrev err_or : {A : Type 0} → PatternKind → Result A PatternKind → PatternKind
err_or j (Ok t) = j
err_or j (Err i) = i

-- inside brackets a field goes as in a path
equal_none : (q : Result paths.State PatternKind) (o : Option Path) (s : List Path) (i : PatternKind) → (q >>= λ u. Ok u) ≡ Err i →
    (grouped q (lexeme Equal) o s >>= λ u. Ok u) ≡ Err i
equal_none (Ok t) o s i e = absurd (cc)
equal_none (Err k) o s i e = let h : k ≡ i = ap (λ z. err_or k z) e in ap (λ z. Err z) h

word_none : (q : Result paths.State PatternKind) (o : Option Path) (t : List ℕ) (s : List Path) (i : PatternKind) → (q >>= λ u. steps paths.step u (Equal ∷ [])) ≡ Err i →
    (grouped q (lexeme (Word t)) o s >>= λ u. steps step u (lexeme Equal ∷ [])) ≡ Err i
word_none (Ok q) o t s i e = equal_none (paths.step q Equal) (paths.ended q) s i e
word_none (Err k) o t s i e = let h : k ≡ i = ap (λ z. err_or k z) e in ap (λ z. Err z) h

equal_some : (q : Result paths.State PatternKind) (o : Option Path) (s : List Path) (r : paths.State) → (q >>= λ u. Ok u) ≡ Ok r →
    (t : State) × ((grouped q (lexeme Equal) o s >>= λ u. Ok u) ≡ Ok t)
equal_some (Ok t) o s r e = (group t s, refl)
equal_some (Err k) o s r e = absurd (cc)

word_some : (q : Result paths.State PatternKind) (o : Option Path) (n : List ℕ) (s : List Path) (r : paths.State) → (q >>= λ u. steps paths.step u (Equal ∷ [])) ≡ Ok r →
    (t : State) × ((grouped q (lexeme (Word n)) o s >>= λ u. steps step u (lexeme Equal ∷ [])) ≡ Ok t)
word_some (Ok q) o n s r e = equal_some (paths.step q Equal) (paths.ended q) s r e
word_some (Err k) o n s r e = absurd (cc)

untold_word : (x : Told) (name : List ℕ) → untold x ≡ Word name → x ≡ lexeme (Word name)
untold_word (lexeme y) name e = ap lexeme e
untold_word steps_open name e = absurd (cc)

abbrev steps_error : PatternKind → Result State PatternKind
steps_error k = Err k

same_error : (k j : PatternKind) → steps_error k ≡ steps_error j → k ≡ j
same_error k j e = ap (err_or k) e

abbrev path_error : PatternKind → Result paths.State PatternKind
path_error k = Err k

closing_err : (k : PatternKind) (x : Told) (o : Option Path) (s : List Path) (j : PatternKind) → closing x o k s ≡ Err j → path_error k ≡ Err j
closing_err k (lexeme RoundClose) (Some p) s j e = absurd (cc)
closing_err k (lexeme RoundClose) None s j e = ap path_error (same_error k j e)
closing_err k x o s j e = ap path_error (same_error k j e)

grouped_err : (z : Result paths.State PatternKind) (x : Told) (o : Option Path) (s : List Path) (j : PatternKind) → grouped z x o s ≡ Err j → z ≡ Err j
grouped_err (Ok t) x o s j e = absurd (cc)
grouped_err (Err k) x o s j e = closing_err k x o s j e

refusal_group : (q : paths.State) (s : List Path) (x : Told) (j : PatternKind) → Refusal plain paths.step q (untold x) j → Refusal told_apart step (group q s) x j
refusal_group q s x j (inl (is, n)) =
    inl (is, λ name other w. let i = n name other (ap untold w) in (i.0, word_none (paths.step q (Word other)) (paths.ended q) other s i.0 i.1))
refusal_group q s x j (inr (name, other, t, w, is, o)) =
    let v = word_some (paths.step q (Word other)) (paths.ended q) other s t o in inr (name, other, v.0, untold_word x name w, is, v.1)

pub refusal : (s : State) (x : Told) (j : PatternKind) → step s x ≡ Err j → Refusal told_apart step s x j
refusal begun x j e = plain_by begun x j e (plain_opened x []) (λ name other w. (kind.Expected, refl))
refusal (label b s) x j e = plain_by (label b s) x j e (plain_labelled x b s) (λ name other w. absurd (label_word b s x name j e w))
refusal (group q s) x j e = refusal_group q s x j (inner.refusal q (untold x) j (grouped_err (paths.step q (untold x)) x (paths.ended q) s j e))
refusal (part p s) x j e = plain_by (part p s) x j e (plain_counted x p s) (λ name other w. (kind.Expected, refl))
refusal (turned s) x j e = plain_by (turned s) x j e (plain_opened x s) (λ name other w. (kind.Expected, refl))

end_group : (z : Result paths.State PatternKind) (o : Option Path) (s : List Path) → z ≡ Err kind.Expected → grouped z (lexeme End) o s ≡ Err kind.Expected
end_group z o s e = ap (λ q. grouped q (lexeme End) o s) e

pub at_end : (s : State) → step s (lexeme End) ≡ Err kind.Expected
at_end begun = refl
at_end (label b s) = refl
at_end (group q s) = end_group (paths.step q End) (paths.ended q) s (inner.at_end q)
at_end (part p s) = refl
at_end (turned s) = refl

not_end : (s t : State) → step s (lexeme End) ≡ Ok t → ⊥
not_end s t e = let n : step s (lexeme End) ≡ Err kind.Expected = at_end s in absurd (cc)

-- the rules of steps, as a test
abbrev pub rule_at : ℕ → Rule Told
rule_at opened front x = broken_rule (depth_after opened (all_untold front)) (untold x)

pub reader : (opened : ℕ) → IsReader told_apart Steps (BreaksSteps opened) begun step (rule_at opened) ended
reader opened = record {
  word = steps_go;
  means = λ f s p h e. word_of f s p (holds f s h) e;
  begins = begins_word;
  breaks = λ f s x k h b. b;
  broken = λ f s x k h b. b;
  refusal = refusal;
  no_end = not_end;
}
