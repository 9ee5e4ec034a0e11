use Rattle.std.proofs.Common.{◌∙◌, ap}
use Rattle.std.specs.Prelude.{is_some}
use Rattle.regex_hir.specs.Find.{find_str}
use Rattle.od_io.proofs.Compiled.{all_bytes}
use Rattle.od_io.proofs.regex_maker.run_one.Goals as goal

pub returns-clause-truth : goal.returns-clause-truth
returns-clause-truth c =
    let text = c.args.text.now in
    c.is_match.ensures.found
    ∙ ap (λ re. is_some (find_str re text 0)) c.requires
    ∙ c.args.runner.now.reads text (all_bytes text (λ k. (c.type_inv.text k).fits))
