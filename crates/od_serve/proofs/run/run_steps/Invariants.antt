use Rattle.std.proofs.Common.{◌≡◌, ◌+◌, ◌-◌, ◌≤◌, length, false}
use Rattle.od_session.specs.declared.object.TheConstants.{SESSION_ROUNDS}
use Rattle.od_session.specs.Parts.{round_count}
use Rattle.od_model.specs.History.Legal.{mine}
use Rattle.od_desk.specs.Further.{StepsOn, Alone}
use Rattle.od_serve.proofs.run.run_steps.Given as goal

-- all steps so far go on; each added a round to the session
abbrev pub invariant-steps : goal.invariant-steps
invariant-steps g l = record {
  whole : l.desk.cut ≡ false;
  origin : l.desk.origin ≡ l.fn.desk.origin;
  call : l.call + l.steps ≡ length (mine l.caller l.desk.history) + 1;
  going : StepsOn l.name l.caller l.fn.desk.history l.desk.history;
  alone : Alone l.caller l.fn.desk.history l.desk.history;
  few : l.steps ≤ SESSION_ROUNDS;
  count : l.steps ≤ round_count l.name l.desk.object;
}

abbrev pub decreases-steps : goal.decreases-steps
decreases-steps g l = SESSION_ROUNDS + 1 - l.steps
