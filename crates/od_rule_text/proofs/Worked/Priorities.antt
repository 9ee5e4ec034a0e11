-- Priorities, worked out.
use Rattle.std.specs.Prelude.{◌≡◌, refl, [], Some, None, codes}
use Rattle.od_rule_text.specs.Priorities.{priority_of, rule_priority}

one_round : priority_of (codes "3") ≡ Some (record { first = 3; last = Some 3 })
unfolding priority_of
one_round = refl

range : priority_of (codes "1-100") ≡ Some (record { first = 1; last = Some 100 })
unfolding priority_of
range = refl

range_of_one : priority_of (codes "7-7") ≡ Some (record { first = 7; last = Some 7 })
unfolding priority_of
range_of_one = refl

endless : priority_of (codes "2+") ≡ Some (record { first = 2; last = None })
unfolding priority_of
endless = refl

unwritten : rule_priority None ≡ priority_of (codes "1+")
unfolding priority_of
unwritten = refl

-- the end before the beginning, round 0, a round after 100, a leading zero, and other texts
reversed : priority_of (codes "3-2") ≡ None
unfolding priority_of
reversed = refl

round_0 : priority_of (codes "0") ≡ None
unfolding priority_of
round_0 = refl

round_101 : priority_of (codes "101+") ≡ None
unfolding priority_of
round_101 = refl

leading_zero : priority_of (codes "01") ≡ None
unfolding priority_of
leading_zero = refl

last_beyond : priority_of (codes "1-010") ≡ None
unfolding priority_of
last_beyond = refl

nothing : priority_of [] ≡ None
unfolding priority_of
nothing = refl

no_last : priority_of (codes "1-") ≡ None
unfolding priority_of
no_last = refl

no_first : priority_of (codes "+") ≡ None
unfolding priority_of
no_first = refl

range_and_endless : priority_of (codes "1-3+") ≡ None
unfolding priority_of
range_and_endless = refl

more_behind_plus : priority_of (codes "1+3") ≡ None
unfolding priority_of
more_behind_plus = refl

blank : priority_of (codes "1 - 3") ≡ None
unfolding priority_of
blank = refl
