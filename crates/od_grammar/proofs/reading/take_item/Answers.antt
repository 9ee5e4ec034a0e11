use Rattle.od_grammar.proofs.Items.{name_new, rule_told}
use Rattle.od_grammar.proofs.reading.take_item.Goals as goal

pub push-requires : goal.push-requires
push-requires c = name_new c.args.expander.now c.args.number c.args.names.now c.args.item.now c.in-Ok.rule c.in-Ok.ensures.ok

pub returns-in-Err-clause-err : goal.returns-in-Err-clause-err
returns-in-Err-clause-err c = rule_told c.args.expander.now c.args.number c.args.names.now c.args.item.now c.in-Err.fault c.in-Err.ensures.err
