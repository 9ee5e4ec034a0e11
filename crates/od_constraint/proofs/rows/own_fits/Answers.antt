use Rattle.std.proofs.Common.{◌∙◌, Some, None}
use Rattle.od_constraint.proofs.OwnLemmas.{own_answer}
use Rattle.od_constraint.proofs.rows.own_fits.Goals as goal

pub returns-in-Some : goal.returns-in-Some
returns-in-Some c = λ value h.
    c.has.ensures ∙ own_answer c.args.sentence.now.sentence c.args.sentence.now.table c.args.field value c.args.hits.now c.args.token (Some c.in-Some.number) c.requires.own h c.in-Some.ensures

pub returns-in-None : goal.returns-in-None
returns-in-None c = λ value h.
    own_answer c.args.sentence.now.sentence c.args.sentence.now.table c.args.field value c.args.hits.now c.args.token None c.requires.own h c.in-None.ensures
