-- What clauses say of passes, and of the seat of a turn.
use Rattle.std.specs.Prelude.{ℕ, suc, ◌≡◌, ◌⊎◌, List, [], ◌∷◌, ◌++◌, length, map, Option, None}
use Rattle.atomic_table.specs.Table.{Me}
use Rattle.atomic_table.specs.Seated.{TableId}
use Rattle.od_text.specs.Lists.{Each}
use Rattle.od_mark.specs.declared.mark.Mark.{Mark}
use Rattle.od_mark.specs.declared.origin.Origin.{Origin}
use Rattle.od_turn.specs.declared.view.PassView.{PassView}
use Rattle.od_turn.specs.declared.view.SeatView.{SeatView}
use Rattle.od_turn.specs.declared.view.Stage.{Stage}
use Rattle.od_turn.specs.declared.view.Stage.TheVariants.{Idle, Waiting, InTurn}
use Rattle.od_turn.specs.declared.pass.Pass.{Pass}
use Rattle.od_turn.specs.Rule.{Continues, NamesOther}
use Rattle.od_turn.specs.Steps.{at_stage}

-- the origin without rows, heads, bytes and faults
abbrev pub blank_origin : Origin
blank_origin = record {
  rows = record { docs = []; sessions = []; rounds = [] };
  heads = [];
  sent = None;
  keeper_faults = 0;
  sink_faults = 0;
}

-- stands where there is no pass
abbrev pub no_pass : PassView
no_pass = record { number = 0; origin = blank_origin; seen = [] }

abbrev pub first_pass : List PassView → PassView
first_pass [] = no_pass
first_pass (p ∷ ps) = p

-- the first pass of a badge
abbrev pub pass_view : List SeatView → PassView
pass_view [] = no_pass
pass_view (v ∷ vs) = first_pass v.passes

-- the badge has one pass, which is in no turn
abbrev pub IsFree : List SeatView → Type 0
IsFree views = views ≡ at_stage (pass_view views ∷ []) Idle ∷ []

abbrev pub held_in : Stage → List Mark
held_in Idle = []
held_in (Waiting t) = []
held_in (InTurn t held) = held

abbrev pub ticket_in : Stage → ℕ
ticket_in Idle = 0
ticket_in (Waiting t) = t
ticket_in (InTurn t held) = t

-- the marks that were there when the turn began
abbrev pub held_marks : {S : Type 0} → Me S SeatView → List Mark
held_marks m = held_in m.0.stage

-- the seat of a turn: it has one pass and is in turn, and the slot is out with it, empty
abbrev pub IsTurn : {V : Type 0} → Me (Option V) SeatView → Type 0
IsTurn m =
    m ≡ (at_stage (first_pass m.0.passes ∷ []) (InTurn (ticket_in m.0.stage) (held_marks m)), (0, None) ∷ [])

-- a seat with these passes, in no turn
abbrev pub idle_seat : {S : Type 0} → List PassView → Me S SeatView
idle_seat ps = (at_stage ps Idle, [])

-- at most one mark, which names this caller
abbrev pub AtMostOneOf : ℕ → List Mark → Type 0
AtMostOneOf n [] = Unit {0}
AtMostOneOf n (mark ∷ []) = mark.caller ≡ n
AtMostOneOf n (mark ∷ (next ∷ rest)) = ⊥

-- the marks are those of before, and at most one more, which names this caller
abbrev pub AddsAtMostOne : ℕ → List Mark → List Mark → Type 0
AddsAtMostOne n before after = (more : List Mark) × (after ≡ before ++ more) × AtMostOneOf n more

-- the marks that a pass has seen
abbrev pub seen_of : Pass → List Mark
seen_of p = (pass_view p.badge.views).seen

-- the number that the table has for a pass
abbrev pub number_of : Pass → ℕ
number_of p = (pass_view p.badge.views).number

-- the origin that the table has for a pass
abbrev pub origin_of : Pass → Origin
origin_of p = (pass_view p.badge.views).origin

-- the pass is one that was made with this lock, of this origin, and it is in no turn
abbrev pub IsPassOf : TableId → Origin → Pass → Type 0
IsPassOf id o p =
    (p.badge.table_id ≡ id) × IsFree p.badge.views × (number_of p ≡ p.number) × (origin_of p ≡ o)
    × (p.known ≡ length (seen_of p))

-- the marks go on from those that the pass has seen, with marks of others
abbrev pub BeginsIn : List Mark → Pass → Type 0
BeginsIn marks p = Continues (NamesOther p.number) (seen_of p) marks

-- a pass as it is made: it has the number n, and has seen the marks base
abbrev pub IsNew : Origin → List Mark → TableId → ℕ → Pass → Type 0
IsNew o base id n p = IsPassOf id o p × (p.number ≡ n) × (seen_of p ≡ base)

-- passes as they are made, numbered from n
abbrev pub AreNew : Origin → List Mark → TableId → ℕ → List Pass → Type 0
AreNew o base id n [] = Unit {0}
AreNew o base id n (p ∷ ps) = IsNew o base id n p × AreNew o base id (suc n) ps

-- what passes stand for
abbrev pub pass_views : List Pass → List PassView
pass_views ps = map (λ p. pass_view p.badge.views) ps

-- the passes are of this table, and in no turn
abbrev pub AreFree : TableId → List Pass → Type 0
AreFree id ps = Each (λ p. (p.badge.table_id ≡ id) × IsFree p.badge.views) ps

-- one of the passes has this number
abbrev pub HasNumber : ℕ → List Pass → Type 0
HasNumber n [] = ⊥
HasNumber n (p ∷ ps) = (p.number ≡ n) ⊎ HasNumber n ps

-- the mark names one of the passes
abbrev pub NamesOne : List Pass → Mark → Type 0
NamesOne ps mark = HasNumber mark.caller ps

-- the marks go on, and each further one names one of the passes
abbrev pub AddedBy : List Pass → List Mark → List Mark → Type 0
AddedBy ps before after = Continues (NamesOne ps) before after
