-- Where a surface of a hop ends at the latest: before steps, and behind steps before a `|` too.
use Rattle.std.specs.Prelude.{ℕ, suc, ◌==◌, ◌&&◌, ◌||◌, Bool, true, false, if◌then◌else◌, List, [], ◌∷◌}
use Rattle.od_language.specs.declared.lexeme.Lexeme.{Lexeme}
use Rattle.od_language.specs.declared.lexeme.LexKind.{LexKind}
use Rattle.od_language.specs.declared.lexeme.LexKind.TheVariants.{Or}
use Rattle.od_language.specs.Depth.{depth_behind}
use Rattle.od_syntax.specs.Told.{in_constraint}
use Rattle.od_path.specs.Steps.{steps_come}

-- a `|` comes
abbrev pub is_bar : LexKind → Bool
is_bar Or = true
is_bar x = false

abbrev pub bar_comes : List Lexeme → Bool
bar_comes [] = false
bar_comes (x ∷ l) = is_bar x.kind

-- A surface ends here, where a constraint is open or not and so many brackets are: `narrow` where
-- it stands behind steps.
abbrev pub ends_here : Bool → Bool → ℕ → List Lexeme → Bool
ends_here narrow true d l = false
ends_here narrow false d l = (narrow && (d == 0 && bar_comes l)) || steps_come l

-- how many lexemes stand before that
abbrev pub before_end : Bool → Bool → ℕ → List Lexeme → ℕ
before_end narrow within d [] = 0
before_end narrow within d (x ∷ l) =
    if ends_here narrow within d (x ∷ l) then 0 else
    suc (before_end narrow (in_constraint within x.kind) (depth_behind d x.kind) l)
