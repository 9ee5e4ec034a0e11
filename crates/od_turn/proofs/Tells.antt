-- What the steps of one call tell together.
use Rattle.std.proofs.Common.{◌≡◌, ◌≢◌, ℕ, ◌%◌, ◌^◌, List, [], ◌∷◌, Option, Some, sym, ap, ◌∙◌, eq-eqb, ne_eqb, ◌≤◌, length, length-append, arith}
use Rattle.std.proofs.lemmas.Bool.Decides.{when_true, when_false}
use mathlib.Core.Option.{none}
use Rattle.atomic_table.specs.Table.{Me, step, rest}
use Rattle.atomic_table.specs.Seated.{TableId}
use Rattle.od_mark.specs.declared.mark.Mark.{Mark}
use Rattle.od_turn.specs.declared.pass.Pass.{Pass}
use Rattle.od_mark.specs.declared.origin.Origin.{Origin}
use Rattle.od_turn.specs.declared.view.SeatView.{SeatView}
use Rattle.od_turn.specs.declared.view.Stage.TheVariants.{Idle, Waiting, InTurn}
use Rattle.od_turn.specs.declared.view.PassView.{PassView}
use Rattle.od_turn.specs.Steps.{at_stage, looks, Comes, raises, raised_view, has_seen}
use Rattle.od_turn.specs.Passes.{first_pass, pass_view, held_marks, ticket_in, IsTurn, IsFree, IsPassOf, AddsAtMostOne}

pub came : {V : Type 0} (marks : V → List Mark) (origin : V → Origin) (m m' : Me (Option V) SeatView) (n ticket t : ℕ)
    → looks marks origin (step 1 1 0 0 none) m n m' → m.0.stage ≡ Waiting t → ticket ≡ t % 2 ^ 64 → n ≡ ticket → Comes marks origin t m m'
came {V} marks origin m m' n ticket t look is drawn hit = when_true (Comes marks origin t m m') (m' ≡ m) (eq-eqb n (t % 2 ^ 64) (hit ∙ drawn)) (look t is)

pub stayed : {V : Type 0} (marks : V → List Mark) (origin : V → Origin) (m m' : Me (Option V) SeatView) (n ticket t : ℕ)
    → looks marks origin (step 1 1 0 0 none) m n m' → m.0.stage ≡ Waiting t → ticket ≡ t % 2 ^ 64 → n ≢ ticket → m' ≡ m
stayed {V} marks origin m m' n ticket t look is drawn miss = when_false (Comes marks origin t m m') (m' ≡ m) (ne_eqb n (t % 2 ^ 64) (λ e. miss (e ∙ sym drawn))) (look t is)

pub head_is : {A : Type 0} (l : List (ℕ × A)) (p : ℕ × A) (ys : List (ℕ × A)) → l ≡ p ∷ ys → l ≡ p ∷ rest l
head_is l p ys e = e ∙ ap (λ k. p ∷ k) (sym (ap rest e))

-- the seat with the value put in
pub put_in : {V : Type 0} (m m' : Me (Option V) SeatView) (x : V) → IsTurn m → m' ≡ (m.0, (0, Some x) ∷ rest m.1)
    → m' ≡ (at_stage (first_pass m.0.passes ∷ []) (InTurn (ticket_in m.0.stage) (held_marks m)), (0, Some x) ∷ [])
put_in {V} m m' x shape e = e ∙ ap (λ (n : Me (Option V) SeatView). (n.0, (0, Some x) ∷ rest n.1)) shape

-- the seat after the raise
pub raised_to : {V : Type 0} (marks : V → List Mark) (m m' : Me (Option V) SeatView) (k : PassView) (t : ℕ) (held : List Mark) (x : V) → m ≡ (at_stage (k ∷ []) (InTurn t held), (0, Some x) ∷ [])
    → raises marks (step 1 2 0 0 none) m 0 m' → m' ≡ (at_stage (has_seen (marks x) k ∷ []) (InTurn t (marks x)), (0, Some x) ∷ [])
raised_to {V} marks m m' k t held x e told = told x (ap (λ (n : Me (Option V) SeatView). n.1) e) ∙ ap (λ (n : Me (Option V) SeatView). (raised_view (marks x) n.0, n.1)) e

-- the badge once the next ticket is served
pub badge_of : {V : Type 0} (m m' : Me (Option V) SeatView) (views : List SeatView) (k : PassView) (t : ℕ) (held : List Mark) (x : V) → m ≡ (at_stage (k ∷ []) (InTurn t held), (0, Some x) ∷ [])
    → m' ≡ (at_stage m.0.passes Idle, []) → views ≡ m'.0 ∷ [] → views ≡ at_stage (k ∷ []) Idle ∷ []
badge_of {V} m m' views k t held x e f h = h ∙ (ap (λ (n : Me (Option V) SeatView). n.0 ∷ []) f ∙ ap (λ (n : Me (Option V) SeatView). at_stage n.0.passes Idle ∷ []) e)

pub free_from : (views : List SeatView) (k : PassView) → views ≡ at_stage (k ∷ []) Idle ∷ [] → IsFree views
free_from views k e = e ∙ ap (λ (vs : List SeatView). at_stage (pass_view vs ∷ []) Idle ∷ []) (sym e)

pub adds_length : (n : ℕ) (before after : List Mark) → AddsAtMostOne n before after → length before ≤ length after
adds_length n before after a = let l = ap length a.1 ∙ length-append before a.0 in omega arith

-- a pass whose badge has one view, in no turn
pub pass_stands : (id : TableId) (o : Origin) (p : Pass) (k : PassView) → p.badge.table_id ≡ id → p.badge.views ≡ at_stage (k ∷ []) Idle ∷ [] → k.number ≡ p.number → k.origin ≡ o → p.known ≡ length k.seen → IsPassOf id o p
pass_stands id o p k own e number from known = (
  own,
  free_from p.badge.views k e,
  ap (λ (vs : List SeatView). (pass_view vs).number) e ∙ number,
  ap (λ (vs : List SeatView). (pass_view vs).origin) e ∙ from,
  known ∙ ap (λ (vs : List SeatView). length (pass_view vs).seen) (sym e),
)
