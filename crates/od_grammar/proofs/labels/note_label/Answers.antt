use Rattle.std.proofs.Common.{sym}
use Rattle.od_grammar.proofs.KnownLabels.{label_there}
use Rattle.od_grammar.proofs.Among.{among_at}
use Rattle.od_grammar.proofs.labels.note_label.Goals as goal

pub returns-in-Some : goal.returns-in-Some
returns-in-Some c =
    label_there c.args.labels.now c.args.label.now (among_at c.args.labels.now c.args.label.now c.in-Some.field-0 (sym c.in-Some.ensures))
