-- A surface inside a hop: the machine of hops goes as the machine of surfaces does, up to where the surface has to end.
use Rattle.std.proofs.Common.{◌≡◌, ℕ, ◌==◌, ◌&&◌, ◌||◌, Bool, true, false, if◌then◌else◌, List, [], ◌∷◌, ◌++◌, Option, Some, None, Result, Ok, Err, refl, sym, ◌∙◌, ap, subst, eq-eqb}
use Rattle.std.proofs.lemmas.Bool.{eqb-true}
use Rattle.od_pattern.specs.declared.pattern.Surface.{Surface}
use Rattle.od_pattern.specs.declared.rule.Hop.{Hop}
use Rattle.od_language.specs.declared.pattern_fault.PatternKind.{PatternKind}
use Rattle.od_language.specs.declared.pattern_fault.PatternKind.TheVariants as kind
use Rattle.od_language.specs.declared.lexeme.Lexeme.{Lexeme}
use Rattle.od_language.specs.declared.lexeme.LexKind.{LexKind}
use Rattle.od_language.specs.declared.lexeme.LexKind.TheVariants.{RoundOpen, Or, Along, Against, AnyAlong, AnyAgainst}
use Rattle.od_language.specs.Alphabet.{plain, kinds}
use Rattle.od_language.specs.Depth.{depth_behind}
use Rattle.od_language.specs.Machine.{◌>>=◌, Outcome, stopped, checked, either_way, first_broken}
use Rattle.od_path.specs.Steps.{told_behind, begins_steps, steps_come}
use Rattle.od_surface.specs.declared.lexemes.Places.{Places}
use Rattle.od_surface.specs.Reading.{Left, single, left_by, own_rule, end_of, run, place_or}
use Rattle.od_surface.specs.Reading.{rule_at as surface_rule_at}
use Rattle.od_syntax.specs.HopMachine.{State, bars, to_steps, from_surface, ended, repeat_rule}
use Rattle.od_syntax.specs.Rules.{bad_range}
use Rattle.od_syntax.specs.Sizes.{may_repeat, may_always}
use Rattle.od_syntax.specs.StepsMachine.{opened}
use Rattle.od_syntax.specs.StepsMachine as steps
use Rattle.od_syntax.specs.SurfaceMachine.{joins}
use Rattle.od_syntax.specs.SurfaceMachine as surface
use Rattle.od_syntax.specs.Told.{Told, lexeme, steps_open, ToldLexeme, untold, told_of, told_from, told, in_constraint, is_arrow, leads_to_steps}
use Rattle.od_path.proofs.Groups.{untold_told}
use Rattle.od_hop.specs.Ends.{is_bar, ends_here}
use Rattle.od_hop.specs.Reading.{rule_at, hop_run, bare_rule, behind_surface, Before, is_behind, into, whole_in, joins_in}
use Rattle.od_hop.proofs.Surfaces.{surface_opens, is_inside, IsReached, Fits, fits, Ending, ending, single_joins, arrow_refused, in_one, bar_refused, IsPlainBar, no_bar, arrow_repeats, end_zero, end_outside}

-- no surface ends inside the front, and one ends before the rest, if there is any
abbrev pub Cut : Bool → Bool → ℕ → List Lexeme → List Lexeme → Type 0
Cut narrow b d [] [] = Unit {0}
Cut narrow b d [] (y ∷ rest) = ends_here narrow b d (y ∷ rest) ≡ true
Cut narrow b d (x ∷ front) rest = (ends_here narrow b d (x ∷ (front ++ rest)) ≡ false) × Cut narrow (in_constraint b x.kind) (depth_behind d x.kind) front rest

-- ## Tests

never : false ≡ true → ⊥
never e = absurd (cc)

or_right : (a b : Bool) → (a || b) ≡ false → b ≡ false
or_right true b e = absurd (cc)
or_right false b e = e

or_left : (a b : Bool) → (a || b) ≡ true → b ≡ false → a ≡ true
or_left true b e h = refl
or_left false b e h = absurd (cc)

all_three : (n e i : Bool) → (n && (e && i)) ≡ true → (n ≡ true) × (e ≡ true) × (i ≡ true)
all_three true true true e = (refl, refl, refl)
all_three true true false e = absurd (cc)
all_three true false i e = absurd (cc)
all_three false b i e = absurd (cc)

if_same : {A : Type 0} (b : Bool) (x : A) → (if b then x else x) ≡ x
if_same true x = refl
if_same false x = refl

bar_is : (x : LexKind) → is_bar x ≡ true → x ≡ Or
bar_is Or e = refl
bar_is x e = absurd (cc)

-- ## Lexemes of a surface

bracket_is : (b : Bool) → begins_steps (if b then steps_open else lexeme RoundOpen) ≡ false → (if b then steps_open else lexeme RoundOpen) ≡ lexeme RoundOpen
bracket_is true e = absurd (cc)
bracket_is false e = refl

lexeme_is : (x : LexKind) (l : List LexKind) → begins_steps (told_of false x l) ≡ false → told_of false x l ≡ lexeme x
lexeme_is RoundOpen l e = bracket_is (leads_to_steps l) e
lexeme_is x l e = refl

-- a lexeme that ends no surface is the surface's
as_lexeme : (narrow b : Bool) (d : ℕ) (x : Lexeme) (l : List Lexeme) → ends_here narrow b d (x ∷ l) ≡ false → told_of b x.kind (kinds plain l) ≡ lexeme x.kind
as_lexeme narrow true d x l e = refl
as_lexeme narrow false d x l e = lexeme_is x.kind (kinds plain l) (or_right (narrow && (d == 0 && is_bar x.kind)) (steps_come (x ∷ l)) e)

outside : (narrow b : Bool) (d : ℕ) (l : List Lexeme) → ends_here narrow b d l ≡ true → b ≡ false
outside narrow true d l e = absurd (cc)
outside narrow false d l e = refl

plain_by : (q : surface.State) (x : LexKind) (s : Bool) → (is_inside q ≡ false → ((surface_opens q == 0 && is_bar x) || s) ≡ false) → IsPlainBar q x
plain_by q Or s e = λ h d. let taken = ap (λ (z : Bool). (z && true) || s) (eq-eqb (surface_opens q) 0 d) in absurd (never (sym (e h) ∙ taken))
plain_by q x s e = tt

plain_bar : (q : surface.State) (x : Lexeme) (l : List Lexeme) → ends_here true (is_inside q) (surface_opens q) (x ∷ l) ≡ false → IsPlainBar q x.kind
plain_bar q x l e = plain_by q x.kind (steps_come (x ∷ l)) (λ h. sym (ap (λ (z : Bool). ends_here true z (surface_opens q) (x ∷ l)) h) ∙ e)

-- ## One lexeme

-- what the surface makes of a lexeme
abbrev inner : Before → surface.State → LexKind → Result surface.State PatternKind
inner None q x = surface.step may_always q x
inner (Some m) q x = in_one q x

abbrev inner_told : Before → surface.State → Told → Result surface.State PatternKind
inner_told m q (lexeme x) = inner m q x
inner_told m q steps_open = Err kind.Expected

inner_is : (m : Before) (q : surface.State) (x : Lexeme) (l : List Lexeme) → ends_here (is_behind m) (is_inside q) (surface_opens q) (x ∷ l) ≡ false →
    inner m q x.kind ≡ surface.step may_always q x.kind
inner_is None q x l e = refl
inner_is (Some m) q x l e = ap (λ (b : Bool). if b then Err kind.Expected else surface.step may_always q x.kind) (no_bar q x.kind (plain_bar q x l e))

to_none : (r : Result steps.State PatternKind) (k : PatternKind) → to_steps r None k ≡ Err k
to_none (Ok t) k = refl
to_none (Err j) k = refl

joins_none : (m : Before) → joins_in m None ≡ None
joins_none None = refl
joins_none (Some m) = refl

whole_none : (m : Before) → whole_in m None None ≡ None
whole_none None = refl
whole_none (Some m) = refl

ended_in : (m : Before) (q : surface.State) → ended (into m q) ≡ whole_in m (surface.ended q) (joins q)
ended_in None q = refl
ended_in (Some m) q = refl

same_rule : (again : Option ℕ) (m : Before) (q : surface.State) (d at : ℕ) (x : LexKind) → rule_at again d (into m q) at (lexeme x) ≡ surface_rule_at again d q at x
same_rule again None q d at x = refl
same_rule again (Some m) q d at x = refl

repeats : (m : Before) (q : surface.State) (x : LexKind) → is_arrow x ≡ true → repeat_rule may_repeat (into m q) (lexeme x) ≡ None
repeats None q x e = arrow_repeats x e q
repeats (Some m) q x e = arrow_repeats x e q

repeats_open : (m : Before) (q : surface.State) → repeat_rule may_repeat (into m q) steps_open ≡ None
repeats_open None q = refl
repeats_open (Some m) q = refl

not_opened : (x : LexKind) → is_arrow x ≡ false → opened [] (lexeme x) ≡ Err kind.Expected
not_opened Along e = absurd (cc)
not_opened Against e = absurd (cc)
not_opened AnyAlong e = absurd (cc)
not_opened AnyAgainst e = absurd (cc)
not_opened x e = refl

not_begun : (x : LexKind) → is_arrow x ≡ false → begins_steps (lexeme x) ≡ false
not_begun Along e = absurd (cc)
not_begun Against e = absurd (cc)
not_begun AnyAlong e = absurd (cc)
not_begun AnyAgainst e = absurd (cc)
not_begun x e = refl

-- a `|` outside brackets, or an arrow, is not taken
refusal_by : (m : Before) (q : surface.State) (x : LexKind) (b : Bool) → is_arrow x ≡ b → IsReached q → is_inside q ≡ false →
    (begins_steps (lexeme x) ≡ false → (is_behind m && (surface_opens q == 0 && is_bar x)) ≡ true) → inner m q x ≡ Err kind.Expected
refusal_by None q x true a r h e = arrow_refused x a q h
refusal_by (Some m) q x true a r h e =
    ap (λ (z : Result surface.State PatternKind). if bars q x then Err kind.Expected else z) (arrow_refused x a q h) ∙ if_same (bars q x) (Err kind.Expected)
refusal_by None q x false a r h e = absurd (never (e (not_begun x a)))
refusal_by (Some m) q x false a r h e =
    let t = all_three true (surface_opens q == 0) (is_bar x) (e (not_begun x a)) in
    ap (in_one q) (bar_is x t.2) ∙ bar_refused q r h (eqb-true (surface_opens q) 0 t.1)

refusal : (m : Before) (q : surface.State) (x : LexKind) (t : Told) → untold t ≡ x → IsReached q → is_inside q ≡ false →
    (begins_steps t ≡ false → (is_behind m && (surface_opens q == 0 && is_bar x)) ≡ true) → inner_told m q t ≡ Err kind.Expected
refusal m q x steps_open u r h e = refl
refusal m q x (lexeme y) u r h e = refusal_by m q y (is_arrow y) refl r h (subst (λ (z : LexKind). begins_steps (lexeme y) ≡ false → (is_behind m && (surface_opens q == 0 && is_bar z)) ≡ true) (sym u) e)

opened_up_by : (again : Option ℕ) (m : Before) (d : ℕ) (q : surface.State) (at : ℕ) (t : Told) (l : List ToldLexeme) →
    hop_run again d (into m q) ((record { at = at; told = t }) ∷ l)
    ≡ either_way (from_surface (into m) (inner_told m q t) t (joins_in m (joins q))) (λ u. checked (rule_at again d (into m q) at t) at (hop_run again (told_behind d t) u l))
    (λ k. stopped (whole_in m (surface.ended q) (joins q)) ((record { at = at; told = t }) ∷ l) at k)
opened_up_by again None d q at (lexeme x) l = refl
opened_up_by again None d q at steps_open l = refl
opened_up_by again (Some m) d q at (lexeme x) l = refl
opened_up_by again (Some m) d q at steps_open l = refl

module _ (again : Option ℕ) (m : Before) where
  abbrev at_told : ℕ → Told → List ToldLexeme → List ToldLexeme
  at_told at t l = (record { at = at; told = t }) ∷ l

  opened_up : (d : ℕ) (q : surface.State) (at : ℕ) (t : Told) (l : List ToldLexeme) →
      hop_run again d (into m q) (at_told at t l)
      ≡ either_way (from_surface (into m) (inner_told m q t) t (joins_in m (joins q))) (λ u. checked (rule_at again d (into m q) at t) at (hop_run again (told_behind d t) u l))
      (λ k. stopped (whole_in m (surface.ended q) (joins q)) (at_told at t l) at k)
  opened_up d q at t l = opened_up_by again m d q at t l

  refused_by : (d : ℕ) (q : surface.State) (o : Option Hop) (at : ℕ) (x : LexKind) (l : List ToldLexeme) (b : Bool) → is_arrow x ≡ b →
      either_way (to_steps (opened [] (lexeme x)) (joins_in m (joins q)) kind.Expected) (λ u. checked (rule_at again d (into m q) at (lexeme x)) at (hop_run again (told_behind d (lexeme x)) u l))
      (λ k. stopped o (at_told at (lexeme x) l) at k)
      ≡ behind_surface again d o (joins_in m (joins q)) (at_told at (lexeme x) l)
  refused_by d q o at x l true e =
      ap (λ z. either_way (to_steps (opened [] (lexeme x)) (joins_in m (joins q)) kind.Expected)
      (λ u. checked (first_broken (bad_range [] x) (first_broken z (own_rule again d at x))) at (hop_run again (told_behind d (lexeme x)) u l))
      (λ k. stopped o (at_told at (lexeme x) l) at k)) (repeats m q x e)
  refused_by d q o at x l false e =
      ap (λ z. either_way (to_steps z (joins_in m (joins q)) kind.Expected) (λ u. checked (rule_at again d (into m q) at (lexeme x)) at (hop_run again (told_behind d (lexeme x)) u l))
      (λ k. stopped o (at_told at (lexeme x) l) at k)) (not_opened x e)
      ∙ sym (ap (λ z. either_way (to_steps z (joins_in m (joins q)) kind.Expected) (λ u. checked (bare_rule again d at (lexeme x)) at (hop_run again (told_behind d (lexeme x)) u l))
      (λ k. stopped o (at_told at (lexeme x) l) at k)) (not_opened x e))

  -- where the surface does not take it
  refused : (d : ℕ) (q : surface.State) (o : Option Hop) (at : ℕ) (t : Told) (l : List ToldLexeme) →
      either_way (to_steps (opened [] t) (joins_in m (joins q)) kind.Expected) (λ u. checked (rule_at again d (into m q) at t) at (hop_run again (told_behind d t) u l))
      (λ k. stopped o (at_told at t l) at k)
      ≡ behind_surface again d o (joins_in m (joins q)) (at_told at t l)
  refused d q o at steps_open l =
      ap (λ z. either_way (to_steps (opened [] steps_open) (joins_in m (joins q)) kind.Expected)
      (λ u. checked (first_broken (bad_range [] RoundOpen) (first_broken z (own_rule again d at RoundOpen))) at (hop_run again (told_behind d steps_open) u l))
      (λ k. stopped o (at_told at steps_open l) at k)) (repeats_open m q)
  refused d q o at (lexeme x) l = refused_by d q o at x l (is_arrow x) refl

  abbrev fault_at : ℕ → PatternKind → Outcome ToldLexeme Hop
  fault_at at k = Err (at, k)

  -- on in the hop, behind what was read of the surface
  abbrev pub on : List Lexeme → Left × List Lexeme → Outcome ToldLexeme Hop
  on rest y = behind_surface again y.0.depth (whole_in m (Some y.0.whole) y.0.single) (joins_in m y.0.single) (told (y.1 ++ rest))

  module _ (places : Places) (same : places.again ≡ again) where
    -- what is said of the lexemes of the front
    abbrev Host : List Lexeme → List Lexeme → surface.State → Type 0
    Host front rest q = hop_run again (surface_opens q) (into m q) (told_from (is_inside q) (front ++ rest)) ≡ (run places (surface_opens q) q front >>= on rest)

    taken : (front rest : List Lexeme) (t : surface.State) (d : ℕ) (b : Bool) (at : ℕ) (r : Option PatternKind) → d ≡ surface_opens t → b ≡ is_inside t → Host front rest t →
        checked r at (hop_run again d (into m t) (told_from b (front ++ rest))) ≡ (checked r at (run places d t front) >>= on rest)
    taken front rest t d b at None e h g =
        ap (λ z. hop_run again z (into m t) (told_from b (front ++ rest))) e ∙ ap (λ z. hop_run again (surface_opens t) (into m t) (told_from z (front ++ rest))) h ∙ g
        ∙ ap (λ z. run places z t front >>= on rest) (sym e)
    taken front rest t d b at (Some k) e h g = refl

    -- a lexeme of the front
    through : (front rest : List Lexeme) (x : Lexeme) (q : surface.State) (r : Result surface.State PatternKind) (o : Option Surface) → IsReached q →
        Fits (is_inside q) (surface_opens q) x.kind r → Ending q o r → ends_here (is_behind m) (is_inside q) (surface_opens q) (x ∷ (front ++ rest)) ≡ false →
        ((t : surface.State) → IsReached t → is_inside t ≡ in_constraint (is_inside q) x.kind → surface_opens t ≡ depth_behind (surface_opens q) x.kind → Host front rest t) →
        either_way (from_surface (into m) r (lexeme x.kind) (joins_in m (joins q)))
        (λ u. checked (rule_at again (surface_opens q) (into m q) x.at (lexeme x.kind)) x.at
        (hop_run again (told_behind (surface_opens q) (lexeme x.kind)) u (told_from (in_constraint (is_inside q) x.kind) (front ++ rest))))
        (λ k. stopped (whole_in m o (joins q)) (at_told x.at (lexeme x.kind) (told_from (in_constraint (is_inside q) x.kind) (front ++ rest))) x.at k)
        ≡ (either_way r (λ t. checked (surface_rule_at places.again (surface_opens q) q x.at x.kind) x.at (run places (depth_behind (surface_opens q) x.kind) t front))
        (λ k. stopped (left_by (surface_opens q) o (single q)) (x ∷ front) x.at k) >>= on rest)
    through front rest x q (Ok t) o i f n c g =
        ap (λ z. checked z x.at (hop_run again (depth_behind (surface_opens q) x.kind) (into m t) (told_from (in_constraint (is_inside q) x.kind) (front ++ rest))))
        (same_rule again m q (surface_opens q) x.at x.kind ∙ ap (λ z. surface_rule_at z (surface_opens q) q x.at x.kind) (sym same))
        ∙ taken front rest t (depth_behind (surface_opens q) x.kind) (in_constraint (is_inside q) x.kind) x.at (surface_rule_at places.again (surface_opens q) q x.at x.kind) f.0 f.1
        (g t f.2 (sym f.1) (sym f.0))
    through front rest x q (Err k) None i f n c g =
        let l = at_told x.at (lexeme x.kind) (told_from (in_constraint (is_inside q) x.kind) (front ++ rest)) in
        let go = λ (u : State). checked (rule_at again (surface_opens q) (into m q) x.at (lexeme x.kind)) x.at
        (hop_run again (told_behind (surface_opens q) (lexeme x.kind)) u (told_from (in_constraint (is_inside q) x.kind) (front ++ rest))) in
        ap (λ z. either_way (to_steps (opened [] (lexeme x.kind)) (joins_in m z) k) go (λ j. stopped (whole_in m None z) l x.at j)) n
        ∙ ap (λ z. either_way (to_steps (opened [] (lexeme x.kind)) z k) go (λ j. stopped (whole_in m None None) l x.at j)) (joins_none m)
        ∙ ap (λ z. either_way z go (λ j. stopped (whole_in m None None) l x.at j)) (to_none (opened [] (lexeme x.kind)) k)
        ∙ ap (λ z. stopped z l x.at k) (whole_none m)
    through front rest x q (Err k) (Some p) i f n c g =
        let there = λ (b : Bool) (t : Told). at_told x.at t (told_from (in_constraint b x.kind) (front ++ rest)) in
        let on_with = λ (z : Option Surface) (l : List ToldLexeme). behind_surface again (surface_opens q) (whole_in m (Some p) z) (joins_in m z) l in
        let go = λ (u : State). checked (rule_at again (surface_opens q) (into m q) x.at (lexeme x.kind)) x.at
        (hop_run again (told_behind (surface_opens q) (lexeme x.kind)) u (told_from (in_constraint (is_inside q) x.kind) (front ++ rest))) in
        let is = as_lexeme (is_behind m) false (surface_opens q) x (front ++ rest) (sym (ap (λ (z : Bool). ends_here (is_behind m) z (surface_opens q) (x ∷ (front ++ rest))) n.0) ∙ c) in
        ap (λ z. either_way (to_steps (opened [] (lexeme x.kind)) (joins_in m (joins q)) z) go (λ j. stopped (whole_in m (Some p) (joins q)) (there (is_inside q) (lexeme x.kind)) x.at j)) n.1
        ∙ refused (surface_opens q) q (whole_in m (Some p) (joins q)) x.at (lexeme x.kind) (told_from (in_constraint (is_inside q) x.kind) (front ++ rest))
        ∙ ap (λ z. on_with (joins q) (there z (lexeme x.kind))) n.0 ∙ ap (λ z. on_with (joins q) (there false z)) (sym is) ∙ ap (λ z. on_with z (told (x ∷ (front ++ rest)))) (sym (single_joins q i))

    -- the end of all lexemes
    at_end : (q : surface.State) (o : Option Surface) (r : Result surface.State PatternKind) → IsReached q → Ending q o r → places.behind ≡ 0 →
        stopped (whole_in m o (joins q)) [] 0 kind.Expected ≡ (stopped (left_by (surface_opens q) o (single q)) [] (end_of places q) kind.Expected >>= on [])
    at_end q None r i n e =
        ap (λ z. stopped (whole_in m None z) [] 0 kind.Expected) n ∙ ap (λ (z : Option Hop). stopped z [] 0 kind.Expected) (whole_none m) ∙ ap (λ z. fault_at z kind.Expected) (sym (end_zero places q e))
    at_end q (Some p) r i n e = ap (λ z. stopped (whole_in m (Some p) z) [] 0 kind.Expected) (sym (single_joins q i))

    -- where the surface has to end
    at_rest : (q : surface.State) (o : Option Surface) (r : Result surface.State PatternKind) (y : Lexeme) (rest : List Lexeme) → IsReached q → is_inside q ≡ false → Ending q o r → places.behind ≡ y.at →
        behind_surface again (surface_opens q) (whole_in m o (joins q)) (joins_in m (joins q)) (told (y ∷ rest))
        ≡ (stopped (left_by (surface_opens q) o (single q)) [] (end_of places q) kind.Expected >>= on (y ∷ rest))
    at_rest q None r y rest i h n e =
        let t = told_of false y.kind (kinds plain rest) in
        let l = told_from (in_constraint false y.kind) rest in
        let go = λ (u : State). checked (bare_rule again (surface_opens q) y.at t) y.at (hop_run again (told_behind (surface_opens q) t) u l) in
        ap (λ z. behind_surface again (surface_opens q) (whole_in m None z) (joins_in m z) (told (y ∷ rest))) n
        ∙ ap (λ z. behind_surface again (surface_opens q) z (joins_in m None) (told (y ∷ rest))) (whole_none m)
        ∙ ap (λ z. behind_surface again (surface_opens q) None z (told (y ∷ rest))) (joins_none m)
        ∙ ap (λ z. either_way z go (λ k. stopped None (at_told y.at t l) y.at k)) (to_none (opened [] t) kind.Expected)
        ∙ ap (λ z. fault_at z kind.Expected) (sym (end_outside places q h ∙ e))
    at_rest q (Some p) r y rest i h n e = ap (λ z. behind_surface again (surface_opens q) (whole_in m (Some p) z) (joins_in m z) (told (y ∷ rest))) (sym (single_joins q i))

    begins_or : (q : surface.State) (y : Lexeme) (rest : List Lexeme) → ends_here (is_behind m) false (surface_opens q) (y ∷ rest) ≡ true →
        begins_steps (told_of false y.kind (kinds plain rest)) ≡ false → (is_behind m && (surface_opens q == 0 && is_bar y.kind)) ≡ true
    begins_or q y rest e h = or_left (is_behind m && (surface_opens q == 0 && is_bar y.kind)) (steps_come (y ∷ rest)) e h

    stops_there : (q : surface.State) (y : Lexeme) (rest : List Lexeme) → IsReached q → is_inside q ≡ false → ends_here (is_behind m) false (surface_opens q) (y ∷ rest) ≡ true → places.behind ≡ y.at →
        hop_run again (surface_opens q) (into m q) (told (y ∷ rest)) ≡ (stopped (left_by (surface_opens q) (surface.ended q) (single q)) [] (end_of places q) kind.Expected >>= on (y ∷ rest))
    stops_there q y rest i h c e =
        let t = told_of false y.kind (kinds plain rest) in
        let l = told_from (in_constraint false y.kind) rest in
        let d = surface_opens q in
        opened_up d q y.at t l
        ∙ ap (λ z. either_way (from_surface (into m) z t (joins_in m (joins q))) (λ u. checked (rule_at again d (into m q) y.at t) y.at (hop_run again (told_behind d t) u l))
        (λ k. stopped (whole_in m (surface.ended q) (joins q)) (at_told y.at t l) y.at k)) (refusal m q y.kind t (untold_told false y.kind (kinds plain rest)) i h (begins_or q y rest c))
        ∙ refused d q (whole_in m (surface.ended q) (joins q)) y.at t l
        ∙ at_rest q (surface.ended q) (surface.step may_always q Or) y rest i h (ending q Or) e

    -- the machine of hops inside a surface
    pub host : (front rest : List Lexeme) (q : surface.State) → IsReached q → Cut (is_behind m) (is_inside q) (surface_opens q) front rest → places.behind ≡ place_or 0 rest → Host front rest q
    host [] [] q i c e = ap (λ (z : Option Hop). stopped z [] 0 kind.Expected) (ended_in m q) ∙ at_end q (surface.ended q) (surface.step may_always q Or) i (ending q Or) e
    host [] (y ∷ rest) q i c e =
        let h = outside (is_behind m) (is_inside q) (surface_opens q) (y ∷ rest) c in
        ap (λ (z : Bool). hop_run again (surface_opens q) (into m q) (told_from z (y ∷ rest))) h
        ∙ stops_there q y rest i h (sym (ap (λ (z : Bool). ends_here (is_behind m) z (surface_opens q) (y ∷ rest)) h) ∙ c) e
    host (x ∷ front) rest q i c e =
        let d = surface_opens q in
        let l = told_from (in_constraint (is_inside q) x.kind) (front ++ rest) in
        ap (λ (z : Told). hop_run again d (into m q) (at_told x.at z l)) (as_lexeme (is_behind m) (is_inside q) d x (front ++ rest) c.0)
        ∙ opened_up d q x.at (lexeme x.kind) l
        ∙ ap (λ z. either_way (from_surface (into m) z (lexeme x.kind) (joins_in m (joins q))) (λ u. checked (rule_at again d (into m q) x.at (lexeme x.kind)) x.at (hop_run again (told_behind d (lexeme x.kind)) u l))
        (λ k. stopped (whole_in m (surface.ended q) (joins q)) (at_told x.at (lexeme x.kind) l) x.at k)) (inner_is m q x (front ++ rest) c.0)
        ∙ through front rest x q (surface.step may_always q x.kind) (surface.ended q) i (fits q x.kind) (ending q x.kind) c.0
        (λ t reached inside opened. host front rest t reached
        (subst (λ (z : Bool). Cut (is_behind m) z (surface_opens t) front rest) (sym inside)
        (subst (λ (z : ℕ). Cut (is_behind m) (in_constraint (is_inside q) x.kind) z front rest) (sym opened) c.1)) e)
