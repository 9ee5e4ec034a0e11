use Rattle.std.proofs.Common.{sym, Some, None}
use Rattle.std.proofs.lemmas.Bool.{eqb-false}
use Rattle.od_text.proofs.Cuts.{cuts_once}
use Rattle.od_yaml.proofs.Lines.{ended_line, only_line}
use Rattle.od_yaml.proofs.line.next_line.Goals as goal

pub returns-in-Some : goal.returns-in-Some
returns-in-Some c =
    let parts = cuts_once 10 c.args.text.now (Some (c.in-Some.line, c.in-Some.rest)) c.in-Some.ensures in
    ended_line c.args.text.now c.strip_return.result.now c.in-Some.line.now c.in-Some.rest.now parts.0 parts.1 c.strip_return.ensures

pub returns-in-None : goal.returns-in-None
returns-in-None c = only_line c.args.text.now c.text_from.result.now (cuts_once 10 c.args.text.now None c.in-None.ensures) (eqb-false _ _ (sym c.if-is_empty.ensures)) c.text_from.ensures
