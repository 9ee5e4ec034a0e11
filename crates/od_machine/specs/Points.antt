-- Where ways can meet in a program, and how far it is from one such instruction to the next.
use Rattle.std.specs.Prelude.{◌≡◌, ℕ, zero, suc, ◌+◌, ◌-◌, Bool, true, false, List, [], ◌∷◌, length, map, Option, Some, None, is_some, slice_get, slice_index_or}
use Rattle.od_machine.specs.declared.instruction.Instruction.{Instruction}
use Rattle.od_machine.specs.declared.instruction.Instruction.TheVariants.{Jump, Split, Skip, Turn, Again}

-- where the instruction leads from the place pc of the code, but for a single way to the next one
abbrev pub target_of : Instruction → ℕ → Option ℕ
target_of (Jump name) pc = Some (pc + 1)
target_of (Split n) pc = Some (pc + 1 + n)
target_of (Skip n) pc = Some (pc + 1 + n)
target_of (Turn lazy n) pc = Some (pc + 1 + n)
target_of (Again lazy n) pc = Some (pc - n)
target_of _ pc = None

-- some instruction leads there
abbrev pub IsTarget : List Instruction → ℕ → Type 0
IsTarget code to =
    (pc : ℕ) × (x : Instruction) × (slice_get code pc ≡ Some x) × (target_of x pc ≡ Some to)

-- where the instructions lead ways can meet, or no instruction stands
abbrev pub MeetAtTargets : List Instruction → List Bool → Type 0
MeetAtTargets code meets =
    (pc to : ℕ) (x : Instruction) → slice_get code pc ≡ Some x → target_of x pc ≡ Some to
    → slice_index_or meets to true ≡ true

-- the meeting points among the instructions, numbered from k on
abbrev pub numbered_from : ℕ → List Bool → List (Option ℕ)
numbered_from k [] = []
numbered_from k (true ∷ meets) = Some k ∷ numbered_from (k + 1) meets
numbered_from k (false ∷ meets) = None ∷ numbered_from k meets

-- the meeting points have the numbers from 0 on, in order
abbrev pub AreNumbered : List (Option ℕ) → Type 0
AreNumbered slots = slots ≡ numbered_from 0 (map is_some slots)

-- how many instructions stand from this one on before the next meeting point: none at one
abbrev pub stretch : List (Option ℕ) → ℕ → ℕ
stretch [] pc = 0
stretch (slot ∷ slots) (suc pc) = stretch slots pc
stretch (None ∷ slots) zero = suc (stretch slots zero)
stretch (Some n ∷ slots) zero = 0

-- for each meeting point, how many instructions stand from it on before the next one
abbrev pub runs : List (Option ℕ) → List ℕ
runs [] = []
runs (None ∷ slots) = runs slots
runs (Some n ∷ slots) = suc (stretch slots zero) ∷ runs slots

-- the meeting points are some of the code's instructions, and ways meet nowhere else
pub record AreMeetingPoints (code : List Instruction) (slots : List (Option ℕ)) : Type 0 where
  pub size : length slots ≡ length code
  pub targets :
      (pc to : ℕ) (x : Instruction) → slice_get code pc ≡ Some x → target_of x pc ≡ Some to
      → stretch slots to ≡ 0
