use Rattle.std.proofs.Common.{◌≡◌, ◌+◌, ◌<◌, false, sym, ◌∙◌, arith}
use Rattle.od_extraction.specs.Mentions.{is_among}
use Rattle.od_extraction.specs.Weight.{weight, most_weight}
use Rattle.od_rounds.proofs.Meets.{meets-heavy}
use Rattle.od_rounds.proofs.meet.meet.Goals as goal

-- all weigh too much with it, or did before
pub returns-then-weight-gt-SESSION_WEIGHT-clause-met :
    goal.returns-then-weight-gt-SESSION_WEIGHT-clause-met
returns-then-weight-gt-SESSION_WEIGHT-clause-met c =
    let new : is_among c.args.known.now c.args.mention ≡ false = sym c.holds.ensures ∙ c.if-holds.false in
    let heavy : most_weight < weight c.args.known.now + weight c.add.new.self = omega (arith, c.if-weight-gt-SESSION_WEIGHT.true, c.weight.ensures, c.weight-2.ensures) in
    rw (c.weight.ensures, c.weight-2.ensures) (meets-heavy c.args.known.now c.args.found.now c.add.new.self c.args.mention new c.in_ok-add.ensures.ok c.requires.light heavy)
