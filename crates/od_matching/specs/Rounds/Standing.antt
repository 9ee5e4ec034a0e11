-- Where the rounds of a session stand, as one state.
use Rattle.std.specs.Prelude.{ℕ, ◌+◌, List, [], ◌∷◌, ◌++◌, length, drop, Bool, ◌&&◌, ◌==◌, if◌then◌else◌, nat_le, nat_lt}
use Rattle.od_pattern.specs.declared.grammar.Grammar.{Grammar}
use Rattle.od_extraction.specs.declared.mention.Mention.{Mention}
use Rattle.od_extraction.specs.declared.mention.RoundResult.{RoundResult}
use Rattle.od_extraction.specs.declared.mention.RoundResult.TheVariants.{Found, TooMany}
use Rattle.od_extraction.specs.declared.phase.Phase.{Phase}
use Rattle.od_extraction.specs.declared.phase.Phase.TheVariants.{Going, Finished, AtLimit}
use Rattle.od_extraction.specs.Joined.{joined}
use Rattle.od_extraction.specs.Mentions.{is_among, distinct}
use Rattle.od_extraction.specs.Weight.{weight, most_weight}
use Rattle.od_matching.specs.Rounds.Phases.{ends_empty}
use Rattle.od_matching.specs.Rounds.Round.{round_over}
use Rattle.od_matching.specs.Rounds.Sites.{Site}

-- the number of rounds, whether the last added nothing, and the mentions of all without repeats
pub record Standing : Type 0 where
  pub rounds : ℕ
  pub quiet : Bool
  pub known : List Mention

-- after rounds that added these lists
abbrev pub standing : List (List Mention) → Standing
standing lists = record {
  rounds = length lists;
  quiet = ends_empty lists;
  known = distinct (joined lists);
}

-- after one round more, which added these mentions
abbrev pub with_round : Standing → List Mention → Standing
with_round s new = record { rounds = s.rounds + 1; quiet = length new == 0; known = s.known ++ new }

-- the next round
abbrev pub next_round : List Site → Grammar → Standing → RoundResult
next_round ss g s = round_over ss g (s.rounds + 1) s.known

-- whether the rounds go on: the greatest first round of any rule, and the limit
abbrev pub phase_at : ℕ → ℕ → Standing → Phase
phase_at first limit s =
    if s.quiet && nat_le first s.rounds then Finished
    else (if s.rounds == limit then AtLimit else Going)

-- one mention more in a state: those before the mark were there at the round's start, and the round
-- found the others
abbrev pub met_in : ℕ → List Mention → Mention → RoundResult
met_in mark state m =
    let more = state ++ m ∷ [] in
    if is_among state m then Found (drop mark state)
    else (if nat_lt most_weight (weight more) then TooMany (weight more) else Found (drop mark more))
