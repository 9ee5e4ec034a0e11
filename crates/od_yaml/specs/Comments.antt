-- Where comments begin.
use Rattle.std.specs.Prelude.{ℕ, ◌+◌, ◌&&◌, List, [], ◌∷◌, if◌then◌else◌}
use Rattle.std.specs.Borrow.{Bor}
use Rattle.od_rule_text.specs.Texts.{begins_with}
use Rattle.od_rule_text.specs.Blanks.{is_blank}

-- what a borrowed text shows
abbrev pub shown : Bor (List ℕ) → List ℕ
shown text = text.now

-- how many bytes stand before the first blank that `#` follows
abbrev pub comment_place : List ℕ → ℕ
comment_place [] = 0
comment_place (c ∷ text) = if is_blank c && begins_with 35 text then 0 else 1 + comment_place text
