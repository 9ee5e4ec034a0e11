-- The heads of lines, as the program reads them.
use Rattle.std.specs.Prelude.{◌≡◌, ℕ, Bool, false, List, [], ◌∷◌, drop, Option, Some, None, if◌then◌else◌}
use Rattle.std.specs.Borrow.{Bor}
use Rattle.std.specs.Char.{is_whitespace}
use Rattle.od_language.specs.Identifier.{is_identifier}
use Rattle.od_syntax.specs.Events.{pieces, many_of, head_with, head_behind}
use Rattle.od_syntax.specs.Events as events
use Rattle.od_event_text.specs.declared.head.Head.{Head}

-- whether white space comes
abbrev pub begins_white : List ℕ → Bool
begins_white [] = false
begins_white (c ∷ cs) = is_whitespace c

-- the first of some pieces, and the place behind it, where there is one
abbrev pub IsPiece : List ℕ → List (List ℕ) → Option (Bor (List ℕ) × ℕ) → Type 0
IsPiece cs ps None = ps ≡ []
IsPiece cs ps (Some x) = ps ≡ x.0.now ∷ pieces (drop x.1 cs)

-- the piece behind a `:`, and the place behind it; where there is none, no label stands there
abbrev pub IsLabelled : List ℕ → List (List ℕ) → Option (Bor (List ℕ) × ℕ) → Type 0
IsLabelled cs ps None = (name : List ℕ) → head_behind name ps ≡ head_with name None (many_of ps)
IsLabelled cs ps (Some x) = (name : List ℕ) → head_behind name ps ≡
    (if is_identifier x.0.now then head_with name (Some x.0.now) (many_of (pieces (drop x.1 cs)))
    else None)

-- a head as the definitions have it
abbrev pub shown : Head → events.Head
shown h = record { name = h.name; label = h.label; many = h.many }
