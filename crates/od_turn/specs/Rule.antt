-- The rule of the table: what holds of its words, its slot and the seats between any two steps.
use Rattle.std.specs.Prelude.{ℕ, zero, suc, ◌≡◌, ◌≢◌, ◌==◌, ◌+◌, ◌%◌, ◌^◌, ◌<◌, ◌≤◌, Bool, true, false, nat_lt, List, [], ◌∷◌, ◌++◌, length, Option, Some}
use mathlib.Core.Option.{Option as Place, some, none}
use lib.ListN.{get_elem?}
use Rattle.atomic_table.specs.Table.{State}
use Rattle.od_text.specs.Lists.{Each}
use Rattle.od_mark.specs.declared.mark.Mark.{Mark}
use Rattle.od_mark.specs.declared.origin.Origin.{Origin}
use Rattle.od_turn.specs.declared.view.PassView.{PassView}
use Rattle.od_turn.specs.declared.view.SeatView.{SeatView}
use Rattle.od_turn.specs.declared.view.Stage.{Stage}
use Rattle.od_turn.specs.declared.view.Stage.TheVariants.{Idle, Waiting, InTurn}

-- f of each element, added up
abbrev pub total : {A : Type 0} → (A → ℕ) → List A → ℕ
total f [] = 0
total f (x ∷ xs) = f x + total f xs

-- 1 where it holds, else 0
abbrev pub indicator : Bool → ℕ
indicator true = 1
indicator false = 0

-- 1 where m is below n
abbrev pub below : ℕ → ℕ → ℕ
below m n = indicator (nat_lt m n)

-- 1 where the stage has the ticket t
abbrev pub stage_has_ticket : ℕ → Stage → ℕ
stage_has_ticket t Idle = 0
stage_has_ticket t (Waiting u) = indicator (u == t)
stage_has_ticket t (InTurn u held) = indicator (u == t)

-- 1 where the stage has a ticket
abbrev pub stage_tickets : Stage → ℕ
stage_tickets Idle = 0
stage_tickets (Waiting u) = 1
stage_tickets (InTurn u held) = 1

abbrev pub has_ticket : ℕ → SeatView → ℕ
has_ticket t v = stage_has_ticket t v.stage

abbrev pub ticket_count : SeatView → ℕ
ticket_count v = stage_tickets v.stage

abbrev pub pass_count : SeatView → ℕ
pass_count v = length v.passes

-- 1 where the pass has this number
abbrev pub is_numbered : ℕ → PassView → ℕ
is_numbered n p = indicator (p.number == n)

-- how many passes of this number the seat has
abbrev pub numbered : ℕ → SeatView → ℕ
numbered n v = total (is_numbered n) v.passes

-- the marks go on from those that were seen, with marks of P alone
abbrev pub Continues : (Mark → Type 0) → List Mark → List Mark → Type 0
Continues P seen marks = (rest : List Mark) × (marks ≡ seen ++ rest) × Each P rest

-- the mark names another caller
abbrev pub NamesOther : ℕ → Mark → Type 0
NamesOther n mark = mark.caller ≢ n

-- passes are numbered from 1
abbrev pub IsPassNumber : ℕ → ℕ → Type 0
IsPassNumber callers n = (1 ≤ n) × (n ≤ callers)

-- the mark names a pass
abbrev pub NamesPass : ℕ → Mark → Type 0
NamesPass callers mark = IsPassNumber callers mark.caller

-- a pass: its number is one of them, and all marks past those that it has seen name others
abbrev pub PassFits : ℕ → Origin → List Mark → PassView → Type 0
PassFits callers o log p =
    IsPassNumber callers p.number × (p.origin ≡ o) × Continues (NamesOther p.number) p.seen log

-- who waits has a pass, and who is in turn has the ticket that is served and knows all marks
abbrev pub StageFits : Bool → ℕ → List Mark → List PassView → Stage → Type 0
StageFits busy serving log ps Idle = Unit {0}
StageFits busy serving log ps (Waiting t) = 0 < length ps
StageFits busy serving log ps (InTurn t held) = (0 < length ps) × (busy ≡ true) × (t ≡ serving) × (held ≡ log)

abbrev pub SeatFits : ℕ → Origin → Bool → ℕ → List Mark → SeatView → Type 0
SeatFits callers o busy serving log v =
    Each (PassFits callers o log) v.passes × StageFits busy serving log v.passes v.stage

abbrev pub IsInTurn : Stage → Type 0
IsInTurn Idle = ⊥
IsInTurn (Waiting t) = ⊥
IsInTurn (InTurn t held) = Unit {0}

-- base: the marks at the beginning; o: where their history goes on from
module _ {V : Type 0} (marks : V → List Mark) (origin : V → Origin) (callers : ℕ) (o : Origin) (base : List Mark) where
  -- while somebody is in turn the slot is out, else the value that stands for all marks is in it
  abbrev pub SlotFits : Bool → List Mark → List (Place (Option V)) → Type 0
  SlotFits true log homes = homes ≡ none ∷ []
  SlotFits false log homes = (x : V) × (homes ≡ some (Some x) ∷ []) × (marks x ≡ log) × (origin x ≡ o)

  -- next: the tickets that were drawn; serving: the one that is served; log: all marks; busy: somebody is in turn
  pub record IsOrderly (s : State (Option V) SeatView) : Type 0 where
    pub next : ℕ
    pub serving : ℕ
    pub log : List Mark
    pub busy : Bool
    pub few : callers < 2 ^ 32
    pub words : s.words ≡ next % 2 ^ 64 ∷ serving % 2 ^ 64 ∷ length log ∷ []
    -- the tickets that are out are the numbers from serving to next, each at one seat
    pub out : serving + total ticket_count s.views ≡ next
    pub each : (t : ℕ) → total (has_ticket t) s.views + below t serving ≡ below t next
    pub slot : SlotFits busy log s.homes
    pub turn : busy ≡ true
        → (j : ℕ) × (v : SeatView) × (get_elem? s.views j ≡ some v) × IsInTurn v.stage
    pub seats : (j : ℕ) (v : SeatView) → get_elem? s.views j ≡ some v
        → SeatFits callers o busy serving log v
    -- these are all passes, and each number from 1 to callers is that of one
    pub all : total pass_count s.views ≡ callers
    pub apart : (n : ℕ) → total (numbered n) s.views + below n 1 ≡ below n (callers + 1)
    pub added : Continues (NamesPass callers) base log

-- a pass at the beginning
abbrev pub new_pass : Origin → List Mark → ℕ → PassView
new_pass o base n = record { number = n; origin = o; seen = base }

-- k passes at the beginning, numbered from n
abbrev pub new_passes : Origin → List Mark → ℕ → ℕ → List PassView
new_passes o base n zero = []
new_passes o base n (suc k) = new_pass o base n ∷ new_passes o base (suc n) k

-- the first seat has all passes
abbrev pub first_view : Origin → List Mark → ℕ → SeatView
first_view o base callers = record { passes = new_passes o base 1 callers; stage = Idle }

-- what holds at the end of the last value's origin and marks, and of all passes
pub record IsLast (callers : ℕ) (o : Origin) (base : List Mark) (ps : List PassView) (from : Origin) (log : List Mark) : Type 0 where
  pub origin : from ≡ o
  pub seen : Each (PassFits callers o log) ps
  pub numbers : (n : ℕ) → IsPassNumber callers n → 1 ≤ total (is_numbered n) ps
  pub added : Continues (NamesPass callers) base log
