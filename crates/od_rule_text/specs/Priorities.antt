-- Priorities: `n`, `n-m` and `n+`, where n and m are rounds from 1 to 100 and n is not above m.
use Rattle.std.specs.Prelude.{ℕ, ◌&&◌, List, [], ◌∷◌, if◌then◌else◌, nat_le, Option, None, Some}
use Rattle.std.specs.List.{list_all}
use Rattle.std.specs.Char.{is_ascii_digit}
use Rattle.od_text.specs.Cuts.{split_once}
use Rattle.od_pattern.specs.declared.rule.Priority.{Priority}
use Rattle.od_language.specs.Spelling.{number}
use Rattle.od_rule_text.specs.declared.limits.TheConstants.{LAST_ROUND}

-- a number, where it is a round that a priority may name
abbrev pub as_round : Option ℕ → Option ℕ
as_round None = None
as_round (Some n) = if nat_le 1 n && nat_le n LAST_ROUND then Some n else None

-- the round that digits name, the first of which is no 0
abbrev pub round_of : List ℕ → Option ℕ
round_of text = if list_all is_ascii_digit text then as_round (number text) else None

-- in one round
abbrev pub only_in : Option ℕ → Option Priority
only_in None = None
only_in (Some n) = Some (record { first = n; last = Some n })

-- in one round and all later ones
abbrev pub always_from : Option ℕ → Option Priority
always_from None = None
always_from (Some n) = Some (record { first = n; last = None })

-- from one round to another
abbrev pub from_to : Option ℕ → Option ℕ → Option Priority
from_to None last = None
from_to (Some n) None = None
from_to (Some n) (Some m) = if nat_le n m then Some (record { first = n; last = Some m }) else None

-- what stands before the first `+` and behind it, where there is one
abbrev pub cut_at_plus : List ℕ → Option (List ℕ × List ℕ) → Option Priority
cut_at_plus text None = only_in (round_of text)
cut_at_plus text (Some (before, [])) = always_from (round_of before)
cut_at_plus text (Some (before, c ∷ behind)) = None

-- what stands before the first `-` and behind it, where there is one
abbrev pub cut_at_dash : List ℕ → Option (List ℕ × List ℕ) → Option Priority
cut_at_dash text None = cut_at_plus text (split_once 43 text)
cut_at_dash text (Some p) = from_to (round_of p.0) (round_of p.1)

-- the priority that a text is
unfoldable pub priority_of : List ℕ → Option Priority
priority_of text = cut_at_dash text (split_once 45 text)

-- the priority of a rule, which is `1+` where none is written
abbrev pub rule_priority : Option (List ℕ) → Option Priority
rule_priority None = Some (record { first = 1; last = None })
rule_priority (Some text) = priority_of text
