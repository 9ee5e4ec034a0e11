-- The stack of rows.
use Rattle.std.proofs.Common.{◌≡◌, ℕ, suc, zero, Bool, true, false, List, [], ◌∷◌, ◌++◌, refl, sym, ◌∙◌, ap, map, length, drop, slice_get, Some, subst}
use Rattle.std.specs.Prelude.{not, ◌<◌, OnOk, IfOk, IsSomeAnd, Option, None, Result, Ok, Err}
use Rattle.std.proofs.lemmas.Option.{slice_get_within}
use Rattle.std.specs.Global.{Vec}
use Rattle.od_asked.specs.Holds.{has_text}
use Rattle.od_document.specs.declared.sentence.Sentence.{Sentence}
use Rattle.od_index.specs.Terms.{Term}
use Rattle.od_pattern.specs.declared.pattern.Field.{Field}
use Rattle.od_pattern.specs.declared.pattern.Value.{Value}
use Rattle.od_constraint.specs.declared.hits.Hits.{Hits}
use Rattle.od_constraint.specs.declared.steps.Step.{Step}
use Rattle.od_constraint.specs.declared.steps.Step.TheVariants as step
use Rattle.od_constraint.specs.Hits.{AreHits, HasHits, asked_field}
use Rattle.od_constraint.specs.Rows.{zipped, with_top, joined, joined_top, onto, rows_of, stacked, token_row}
use Rattle.od_constraint.specs.Steps.{Part, any, test, not_, and_, or_, IsStep, IsStepOf, AreSteps, AreStepsOf}

-- one more row
pub stacked_more : (rows : List (Vec Bool)) (top : Vec Bool) → stacked (rows ++ top ∷ []) ≡ top.items ∷ stacked rows
stacked_more [] top = refl
stacked_more (r ∷ rows) top = ap (λ (rs : List (List Bool)). rs ++ r.items ∷ []) (stacked_more rows top)

-- the steps behind the last one
pub steps_end : (table : List Term) (hits : List Hits) (steps : List Step) (ps : List Part) → AreStepsOf table hits steps ps [] → drop (length steps) ps ≡ []
steps_end table hits [] ps h = h
steps_end table hits (s ∷ steps) [] h = absurd h
steps_end table hits (s ∷ steps) (p ∷ ps) h = steps_end table hits steps ps h.1

-- the part of a step
step_there : (table : List Term) (hits : List Hits) (steps : List Step) (ps : List Part) (k : ℕ) (st : Step) → AreStepsOf table hits steps ps [] → slice_get steps k ≡ Some st → (p : Part) × IsStepOf table hits st p × (drop k ps ≡ p ∷ drop (suc k) ps)
step_there table hits [] ps k st h e = absurd (cc)
step_there table hits (s ∷ steps) [] k st h e = absurd h
step_there table hits (s ∷ steps) (p ∷ ps) zero st h e = let same : s ≡ st = cc in (p, subst (λ (t : Step). IsStepOf table hits t p) same h.0, refl)
step_there table hits (s ∷ steps) (p ∷ ps) (suc k) st h e = step_there table hits steps ps k st h.1 e

-- one step further from the end
pub walked : (s : Sentence) (table : List Term) (hits : List Hits) (steps : List Step) (ps : List Part) (st : Step) (place k : ℕ) (old new : List (Vec Bool)) → AreStepsOf table hits steps ps [] → slice_get steps k ≡ Some st → place ≡ suc k
    → ((p : Part) → IsStepOf table hits st p → stacked new ≡ onto s p (stacked old)) → stacked old ≡ rows_of s (drop place ps) → stacked new ≡ rows_of s (drop k ps)
walked s table hits steps ps st place k old new h e n put was =
    let at = step_there table hits steps ps k st h e in
    put at.0 at.1 ∙ ap (onto s at.0) (was ∙ ap (λ (m : ℕ). rows_of s (drop m ps)) n) ∙ ap (rows_of s) (sym at.2)

-- where a call was all right, what follows from its clause
pub on_ok : {X E : Type 0} (r : Result X E) (P Q : Type 0) → (P → Q) → OnOk r P → OnOk r Q
on_ok (Ok x) P Q f h = f h
on_ok (Err e) P Q f h = tt

-- the topmost row was turned
pub turned_top : (old popped : List (Vec Bool)) (top : Vec Bool) (new : List (List Bool)) (row : List Bool) → old ≡ popped ++ top ∷ [] → row ≡ map not top.items → new ≡ row ∷ stacked popped → new ≡ with_top (map not) (stacked old)
turned_top old popped top new row e t n =
    n ∙ ap (λ (r : List Bool). r ∷ stacked popped) t ∙ sym (ap (λ (rows : List (Vec Bool)). with_top (map not) (stacked rows)) e ∙ ap (with_top (map not)) (stacked_more popped top))

-- the two topmost rows were joined
pub joined_two : (f : Bool → Bool → Bool) (old popped under_it : List (Vec Bool)) (top under : Vec Bool) (new : List (List Bool)) (row : List Bool) → old ≡ popped ++ top ∷ [] → popped ≡ under_it ++ under ∷ [] → row ≡ zipped f top.items under.items → new ≡ row ∷ stacked under_it
    → new ≡ joined_top f (stacked old)
joined_two f old popped under_it top under new row e d t n =
    n ∙ ap (λ (r : List Bool). r ∷ stacked under_it) t
    ∙ sym (ap (λ (rows : List (Vec Bool)). joined_top f (stacked rows)) e ∙ ap (joined_top f) (stacked_more popped top ∙ ap (λ (rows : List (Vec Bool)). top.items ∷ stacked rows) d ∙ ap (λ (rows : List (List Bool)). top.items ∷ rows) (stacked_more under_it under)))

-- each of the steps is one of some part
pub step_of_part : (table : List Term) (hits : List Hits) (steps : List Step) (k : ℕ) (st : Step) → AreSteps table hits steps → slice_get steps k ≡ Some st → IsStep table hits st
step_of_part table hits steps k st (ps, h) e = let at = step_there table hits steps ps k st h e in (at.0, at.1)

-- the only row
pub only_row : (rows popped : List (Vec Bool)) (top : Vec Bool) (r : List Bool) → rows ≡ popped ++ top ∷ [] → stacked rows ≡ r ∷ [] → top.items ≡ r
only_row rows popped top r e h = let same : top.items ∷ stacked popped ≡ r ∷ [] = sym (stacked_more popped top) ∙ sym (ap stacked e) ∙ h in cc

pub if_ok : {X E : Type 0} (r : Result X E) (P Q : X → Type 0) → ((x : X) → P x → Q x) → IfOk r P → IfOk r Q
if_ok (Ok x) P Q f h = f x h
if_ok (Err e) P Q f h = tt
