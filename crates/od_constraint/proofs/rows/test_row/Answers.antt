use Rattle.std.proofs.Common.{◌∙◌, sym, subst, true, false}
use Rattle.std.specs.Prelude.{IfOk}
use Rattle.od_pattern.specs.declared.pattern.Field.{Field}
use Rattle.od_constraint.specs.Rows.{IsRowOf}
use Rattle.od_constraint.proofs.MarkLemmas.{marks_are}
use Rattle.od_constraint.proofs.OwnLemmas.{is_own}
use Rattle.od_constraint.proofs.StackLemmas.{if_ok}
use Rattle.od_constraint.proofs.rows.test_row.Goals as goal

pub own_row-requires : goal.own_row-requires
own_row-requires c = is_own c.args.field c.in_default.not-Incoming c.in_default.not-Outgoing

pub returns-in-Incoming : goal.returns-in-Incoming
returns-in-Incoming c =
    let s = c.args.sentence.now in
    subst (λ (f : Field). IfOk c.end_row.result (λ texts. IsRowOf s f c.args.hits.now texts.items)) (sym c.in-Incoming.is)
    (if_ok c.end_row.result _ _ (λ ends h value hits. h value hits ∙ marks_are false s.sentence value) c.end_row.ensures)

pub returns-in-Outgoing : goal.returns-in-Outgoing
returns-in-Outgoing c =
    let s = c.args.sentence.now in
    subst (λ (f : Field). IfOk c.end_row-in-Outgoing.result (λ texts. IsRowOf s f c.args.hits.now texts.items)) (sym c.in-Outgoing.is)
    (if_ok c.end_row-in-Outgoing.result _ _ (λ ends h value hits. h value hits ∙ marks_are true s.sentence value) c.end_row-in-Outgoing.ensures)
