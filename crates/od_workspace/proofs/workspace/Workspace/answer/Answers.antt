use Rattle.std.proofs.lemmas.Result.{IfOk-weaker}
use Rattle.od_workspace.proofs.workspace.Workspace.answer.Goals as goal

pub returns-in-AddDoc-clause-answer : goal.returns-in-AddDoc-clause-answer
returns-in-AddDoc-clause-answer g c = rw c.in-AddDoc.is (IfOk-weaker c.answer_doc.result _ _ (λ answer h. h c.args.heads.now c.args.caller) c.answer_doc.ensures)

pub returns-in-Step-clause-answer : goal.returns-in-Step-clause-answer
returns-in-Step-clause-answer g c = rw c.in-Step.is (IfOk-weaker c.answer_step.result _ _ (λ answer h. h c.args.heads.now) c.answer_step.ensures)

pub returns-in-Print-clause-answer : goal.returns-in-Print-clause-answer
returns-in-Print-clause-answer g c = rw c.in-Print.is (c.answer_print.ensures c.args.heads.now)

pub returns-in-Release-clause-answer : goal.returns-in-Release-clause-answer
returns-in-Release-clause-answer g c = rw c.in-Release.is (c.answer_release.ensures c.args.heads.now)

pub returns-in-Settle-clause-answer : goal.returns-in-Settle-clause-answer
returns-in-Settle-clause-answer g c = rw c.in-Settle.is (IfOk-weaker c.answer_settle.result _ _ (λ answer h. h c.args.heads.now c.args.caller) c.answer_settle.ensures)
