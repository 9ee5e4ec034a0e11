-- Notes of the places at which mentions stand, by a hash.
use Rattle.std.specs.Prelude.{◌≡◌, ℕ, List, [], ◌∷◌, ◌++◌, Option, Some, None, Vec, if◌then◌else◌, nat_eq, take, length, ◌-◌}
use Rattle.std.specs.HashMap.{get}
use Rattle.std.specs.declared.alloc.Global.{Global}
use Rattle.od_extraction.specs.declared.mention.Mention.{Mention}
use Rattle.od_mentions.specs.declared.notes.Notes.{Notes}
use Rattle.od_mentions.specs.Places.{places_by}

-- the places of a row, where there is one
abbrev pub in_row : Option (Vec ℕ Global) → List ℕ
in_row None = []
in_row (Some row) = row.items

-- the places that are noted under a hash
abbrev pub noted : Notes → ℕ → List ℕ
noted notes hash = in_row (get nat_eq notes.places hash)

-- one place more under a hash, and else the same places
abbrev pub NotesOne : Notes → Notes → ℕ → ℕ → Type 0
NotesOne before after hash place =
    (h : ℕ) → noted after h
    ≡ (if nat_eq hash h then noted before h ++ place ∷ [] else noted before h)

-- the last place under a hash is gone, and else the same places are there
abbrev pub LosesOne : Notes → Notes → ℕ → Type 0
LosesOne before after hash =
    (h : ℕ) → noted after h
    ≡ (if nat_eq hash h then take (length (noted before h) - 1) (noted before h)
    else noted before h)

-- the same places under each hash
abbrev pub NotesSame : Notes → Notes → Type 0
NotesSame before after = (h : ℕ) → noted after h ≡ noted before h

-- under each hash the places of the mentions that have it
abbrev pub AreNotes : (Mention → ℕ) → Notes → List Mention → Type 0
AreNotes hash notes ms = (h : ℕ) → noted notes h ≡ places_by (λ m. nat_eq (hash m) h) 0 ms
