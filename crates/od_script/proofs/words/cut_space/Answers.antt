use Rattle.std.proofs.Common.{rules, ◌≡◌}
use Rattle.std.specs.Option.{option_map}
use Rattle.od_text.specs.Cuts.{split_once, both}
use Rattle.od_text.proofs.Cuts.{cuts_once}
use Rattle.od_script.proofs.words.cut_space.Goals as goal

pub returns-clause-parts : goal.returns-clause-parts
returns-clause-parts c =
    let once : split_once 32 c.args.text.now ≡ option_map both c.split_once.result = search rules in
    cuts_once 32 c.args.text.now c.split_once.result once
