-- Texts with variables, worked out.
use Rattle.std.specs.Prelude.{◌≡◌, ℕ, refl, List, [], ◌∷◌, ◌++◌, Ok, Err, codes}
use Rattle.od_rule_text.specs.declared.rule_file.KeyText.{KeyText}
use Rattle.od_rule_text.specs.Expansion.{expanded, unknown, cycle}

abbrev var : List ℕ → List ℕ → KeyText
var key value = record { key = key; value = value }

-- v is `x`, w names v twice, a and b name each other, c names itself behind v, and d names one that is not there
abbrev vars : List KeyText
vars = var (codes "v") (codes "x") ∷ var (codes "w") (codes "${v}-${v}") ∷ var (codes "a") (codes "${b}") ∷ var (codes "b") (codes "${a}")
    ∷ var (codes "c") (codes "${v}${c}") ∷ var (codes "d") (codes "${none}") ∷ []

within_another : expanded vars (codes "(${w}|${v})") ≡ Ok (codes "(x-x|x)")
unfolding expanded
within_another = refl

-- a name that is no identifier, an open brace and a dollar alone stay
no_identifier : expanded vars (codes "${1}${}${v${v-w}$v$") ≡ Ok (codes "${1}${}${v${v-w}$v$")
unfolding expanded
no_identifier = refl

-- what an expansion and the text around it make is no occurrence
not_again : expanded (var (codes "v") (codes "${") ∷ var (codes "w") (codes "y") ∷ []) (codes "${v}w}") ≡ Ok (codes "${w}")
unfolding expanded
not_again = refl

dollar_before : expanded vars (codes "$${v}") ≡ Ok (codes "$x")
unfolding expanded
dollar_before = refl

-- 64 letters are a name, 65 are none
abbrev letters : List ℕ
letters = codes "abcdefghijklmnopqrstuvwxyzabcdefghijklmnopqrstuvwxyzabcdefghijkl"

long_name : expanded vars (codes "${" ++ letters ++ codes "}") ≡ Err unknown
unfolding expanded
long_name = refl

longer_name : expanded vars (codes "${" ++ letters ++ codes "m}") ≡ Ok (codes "${" ++ letters ++ codes "m}")
unfolding expanded
longer_name = refl

-- the variable that is reached again is told
two_in_a_cycle : expanded vars (codes "${a}") ≡ Err (cycle (codes "a"))
unfolding expanded
two_in_a_cycle = refl

from_the_other : expanded vars (codes "${b}") ≡ Err (cycle (codes "b"))
unfolding expanded
from_the_other = refl

itself : expanded vars (codes "${v}${c}") ≡ Err (cycle (codes "c"))
unfolding expanded
itself = refl

-- what comes first in the expansion is told
unknown_first : expanded vars (codes "${d}${a}") ≡ Err unknown
unfolding expanded
unknown_first = refl

cycle_first : expanded vars (codes "${a}${d}") ≡ Err (cycle (codes "a"))
unfolding expanded
cycle_first = refl
