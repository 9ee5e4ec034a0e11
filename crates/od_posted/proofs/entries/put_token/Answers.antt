use Rattle.std.proofs.Common.{◌++◌, ap, ◌∙◌}
use Rattle.std.specs.Prelude.{slice_get}
use Rattle.od_index.specs.Postings.{Posting}
use Rattle.od_posted.specs.Chains.{labels_at, own_marks}
use Rattle.od_posted.specs.Entries.{marks_of, marks_at, marks_here}
use Rattle.od_posted.specs.declared.chains.End.{End}
use Rattle.od_posted.specs.declared.chains.End.TheVariants.{Dependent, Governor}
use Rattle.od_posted.proofs.Marked.{here-is, token-put}
use Rattle.od_posted.proofs.entries.put_token.Goals as goal

pub returns : goal.returns
returns c =
    let s = c.args.at.now.sentence in
    let table = c.args.at.now.table in
    let at : Posting = (c.args.at.now.number, c.args.token) in
    let ended = marks_of table c.put_labels.new.entries.items in
    token-put (marks_of table c.args.entries.now.items) (marks_of table c.put_all_own.new.entries.items) ended (marks_of table c.put_labels-2.new.entries.items)
    (own_marks at (slice_get s.tokens c.args.token)) (marks_at at (labels_at Dependent c.args.token s.edges)) (marks_at at (labels_at Governor c.args.token s.edges))
    (marks_here c.args.at.now.number s c.args.token (slice_get s.tokens c.args.token))
    c.in_ok-put_all_own.ensures
    (c.in_ok-put_labels.ensures ∙ ap (λ (end : End). marks_of table c.put_all_own.new.entries.items ++ marks_at at (labels_at end c.args.token s.edges)) c.requires.ended.1)
    (c.in_ok-put_labels-2.ensures ∙ ap (λ (end : End). ended ++ marks_at at (labels_at end c.args.token s.edges)) c.requires.begun.1)
    (here-is c.args.at.now.number s c.args.token c.requires.token)
