-- The rule was resolved over the table of the sentence's segment.
use Rattle.od_rounds.proofs.Tables.{resolved-there, asked-there}
use Rattle.od_rounds.proofs.visit.visit.Goals as goal

pub resolved_at-resolved-requires : goal.resolved_at-resolved-requires
resolved_at-resolved-requires g c =
    let rule = c.args.numbered.now in
    resolved-there rule.rule.now rule.view.now.segments rule.resolved.now c.args.at.segment c.args.at.index c.requires.resolved c.requires.there

pub search-requires-clause-asked : goal.search-requires-clause-asked
search-requires-clause-asked g c =
    let rule = c.args.numbered.now in
    (asked-there rule.rule.now rule.view.now.segments rule.resolved.now c.args.at.segment c.resolved_at-resolved.result.now c.open-opened.result.words.now.table
    c.requires.resolved c.resolved_at-resolved.ensures c.open-opened.ensures.table).0

pub search-requires-clause-table : goal.search-requires-clause-table
search-requires-clause-table g c =
    let rule = c.args.numbered.now in
    (asked-there rule.rule.now rule.view.now.segments rule.resolved.now c.args.at.segment c.resolved_at-resolved.result.now c.open-opened.result.words.now.table
    c.requires.resolved c.resolved_at-resolved.ensures c.open-opened.ensures.table).1
