-- Blanks, and the lines of a rule file that say nothing.
use Rattle.std.specs.Prelude.{ℕ, ◌==◌, ◌||◌, Bool, true, List, [], ◌∷◌, drop, if◌then◌else◌}
use Rattle.std.specs.List.{list_all, prefix_len}

-- a blank is a space or a tab
abbrev pub is_blank : ℕ → Bool
is_blank c = c == 32 || c == 9

-- a list without the elements at its end that pass a test
abbrev pub without_last : {X : Type 0} → (X → Bool) → List X → List X
without_last test [] = []
without_last test (x ∷ xs) = if list_all test (x ∷ xs) then [] else x ∷ without_last test xs

-- a text without the blanks before it
abbrev pub past_blanks : List ℕ → List ℕ
past_blanks text = drop (prefix_len is_blank text) text

-- a text without the blanks on both sides
abbrev pub without_outer_blanks : List ℕ → List ℕ
without_outer_blanks text = without_last is_blank (past_blanks text)

-- the indentation of a line: the number of spaces that it begins with
abbrev pub indentation : List ℕ → ℕ
indentation line = prefix_len (λ c. c == 32) line

-- a line of blanks alone, or of nothing
abbrev pub is_blank_line : List ℕ → Bool
is_blank_line line = list_all is_blank line

-- nothing, or a comment from `#` on
abbrev pub is_nothing_or_comment : List ℕ → Bool
is_nothing_or_comment [] = true
is_nothing_or_comment (c ∷ text) = c == 35

-- outside literals a line of blanks alone, and one whose first character past blanks is `#`, say nothing
abbrev pub says_nothing : List ℕ → Bool
says_nothing line = is_nothing_or_comment (past_blanks line)
