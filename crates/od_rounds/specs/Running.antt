-- A session that runs over a view of segments.
use Rattle.std.specs.Prelude.{◌≡◌, ℕ, ◌≤◌, ◌<◌, ◌^◌, List, length, map}
use Rattle.od_pattern.specs.declared.rule.Rule.{Rule}
use Rattle.od_columns.specs.Resolved.{AskingAll}
use Rattle.od_extraction.specs.declared.mention.Mention.{Mention}
use Rattle.od_extraction.specs.Mentions.{distinct}
use Rattle.od_extraction.specs.Weight.{weight}
use Rattle.od_index.specs.Segments.{Stored}
use Rattle.od_index.specs.Views.{Seen}
use Rattle.od_matching.specs.Rounds.Phases.{greatest_first}
use Rattle.od_matching.specs.Rounds.Standing.{Standing}
use Rattle.od_plan.specs.declared.wanted.Wanted.{Wanted}
use Rattle.od_rounds.specs.Planned.{ArePlans}
use Rattle.od_rounds.specs.Resolved.{resolved_over}
use Rattle.od_rounds.specs.Weighed.{most_kept}

-- its rules, what it sees, how many rounds it may have, and where its rounds stand
pub record Running : Type 0 where
  pub rules : List Rule
  pub seen : Seen
  pub limit : ℕ
  pub at : Standing

-- what a session keeps for its rules, its segments and its mentions
pub record IsKept (rules : List Rule) (segments : List Stored) (asking : List (List AskingAll)) (plans : List (List Wanted)) (begins : ℕ) (ms : List Mention) : Type 0 where
  pub few : length rules < 2 ^ 32
  pub asked : asking ≡ map (resolved_over segments) rules
  pub planned : ArePlans segments rules plans
  pub greatest : begins ≡ greatest_first rules
  pub light : weight ms ≤ most_kept
  pub unlike : distinct ms ≡ ms
