use Rattle.od_expansion.proofs.Wholes.{fault_told, text_told, too_long}
use Rattle.od_expansion.proofs.expander.Expander.expand.Goals as goal
use Rattle.od_expansion.proofs.expander.Expander.expand.Goals.{in-Ok+in-Some, in-Ok+in-None, in-Err}

pub returns-clause-value : goal.returns-clause-value
returns-clause-value c = rw (← c.self.view_is)
    (elim c.match-expand_text.branch [
      | in-Ok+in-Some w ↦ rw w.result-is (text_told c.self.inside.vars c.args.text.now w.in-Ok.expansion w.in-Some.text (rw c.get.ensures at w.in-Ok.ensures.value) (rw w.in-Some.is at w.into_text.ensures)).0
      | in-Ok+in-None w ↦ rw w.result-is tt
      | in-Err w ↦ rw w.result-is tt
    ])

pub returns-clause-fault : goal.returns-clause-fault
returns-clause-fault c = rw (← c.self.view_is)
    (elim c.match-expand_text.branch [
      | in-Ok+in-Some w ↦ rw w.result-is tt
      | in-Ok+in-None w ↦ rw w.result-is (too_long c.self.inside.vars c.args.text.now w.in-Ok.expansion (rw c.get.ensures at w.in-Ok.ensures.value) (rw w.in-None.is at w.into_text.ensures))
      | in-Err w ↦ rw w.result-is (fault_told c.self.inside.vars c.self.inside.names c.self.inside.states.items c.args.text.now w.in-Err.stop w.fault_of.result c.self.invariant (rw c.get.ensures at w.in-Err.ensures.fails) w.fault_of.ensures)
    ])
