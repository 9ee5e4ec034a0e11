-- What the rule finds is what it gives at the sentence.
use Rattle.std.proofs.Common.{◌∙◌, sym, subst}
use Rattle.od_extraction.specs.declared.mention.RoundResult.{RoundResult}
use Rattle.od_index.specs.Sites.{Site}
use Rattle.od_matching.specs.Rounds.Round.{in_sentence}
use Rattle.od_rule.specs.Left.{left_in}
use Rattle.od_rounds.specs.Gives.{Met}
use Rattle.od_rounds.proofs.Steps.{matches-given}
use Rattle.od_rounds.proofs.visit.search.Goals as goal

pub returns-in-Ok-clause-met : goal.returns-in-Ok-clause-met
returns-in-Ok-clause-met c =
    let opened = c.args.opened.now in
    let rule = c.args.numbered.now in
    let site : Site = record { document = opened.document; number = opened.sentence; words = opened.words.now.sentence } in
    subst (λ (r : RoundResult). Met c.meet_all.result r c.meet_all.new.found)
    (sym (matches-given rule.known.now c.args.found.now rule.number rule.rule.now site (left_in c.in-Ok.matches)
    (c.in-Ok.ensures.found opened.document opened.sentence (in_sentence opened.document opened.sentence rule.known.now) (c.get.ensures ∙ c.in_ok-labels.ensures))))
    c.meet_all.ensures.met
