use Rattle.std.specs.Str.{chars}
use Rattle.od_pattern.specs.declared.rule.Body.TheVariants.{Basic}
use Rattle.od_syntax.specs.HopVerdicts.{hop_of}
use Rattle.od_syntax.specs.Texts.{IsHopText, IsHopTextFault}
use Rattle.od_syntax.proofs.Hops.Verdicts.{hop_texts_are_computed}
use Rattle.od_item.proofs.Patterns.{value_as, fault_as}
use Rattle.od_item.proofs.body.basic_body.Goals as goal

pub returns-in-Ok : goal.returns-in-Ok
returns-in-Ok c =
    let cs = chars c.args.text.now in
    value_as Basic (IsHopText cs) (IsHopTextFault cs) (hop_of cs) (hop_texts_are_computed cs) c.in-Ok.hop c.in-Ok.ensures.value

pub returns-in-Err : goal.returns-in-Err
returns-in-Err c =
    let cs = chars c.args.text.now in
    fault_as Basic (IsHopText cs) (IsHopTextFault cs) (hop_of cs) (hop_texts_are_computed cs) c.in-Err.fault c.in-Err.ensures.fault
