-- A round that is ready to run, and what its rules give and open.
use Rattle.std.specs.Prelude.{◌≡◌, ℕ, ◌<◌, ◌^◌, List, length, map}
use Rattle.od_index.specs.Views.{sites_seen}
use Rattle.od_matching.specs.Rounds.Round.{Item}
use Rattle.od_need.specs.Candidates.{needed}
use Rattle.od_need.specs.Openings.{kept_where_run, opened_where_run}
use Rattle.od_pattern.specs.declared.rule.Rule.{Rule}
use Rattle.od_rounds.specs.Planned.{ArePlans}
use Rattle.od_rounds.specs.Resolved.{resolved_over}
use Rattle.od_rounds.specs.declared.rules.Round.{Round}

-- each rule is resolved over what is seen, and has its plan there
pub record IsReady (r : Round) : Type 0 where
  pub few : length r.file.rules.now < 2 ^ 32
  pub resolved : r.file.resolved.now ≡ map (resolved_over r.view.now.segments) r.file.rules.now
  pub plans : ArePlans r.view.now.segments r.file.rules.now r.file.plans.now

-- what a numbered rule gives in a round, over the sentences at which its need occurs
abbrev pub items_of_rule : Round → ℕ × Rule → List Item
items_of_rule r rule = kept_where_run (needed r.known.now) r.number (sites_seen r.view.now) r.known.now rule

-- and how many sentences it opens there
abbrev pub opened_by_rule : Round → ℕ × Rule → ℕ
opened_by_rule r rule = opened_where_run (needed r.known.now) r.number (sites_seen r.view.now) rule
