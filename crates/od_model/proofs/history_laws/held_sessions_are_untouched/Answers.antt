use Rattle.od_model.proofs.Histories.Frames.{held-session-stays, next-round-stays, held-answer-stays}
use Rattle.od_model.proofs.history_laws.held_sessions_are_untouched.Goals as goal

pub returns-clause-session : goal.returns-clause-session
returns-clause-session c = held-session-stays

pub returns-clause-round : goal.returns-clause-round
returns-clause-round c = next-round-stays

pub returns-clause-answers : goal.returns-clause-answers
returns-clause-answers c = held-answer-stays
