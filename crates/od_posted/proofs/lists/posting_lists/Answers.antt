use Rattle.std.proofs.Common.{◌<◌, ℕ, List, length, map, sym, ap₂, ◌∙◌, subst}
use Rattle.std.specs.List.{range_with_len}
use Rattle.od_text.specs.Lists.{Each}
use Rattle.od_group.specs.Groups.{group_of}
use Rattle.od_index.specs.Postings.{Posting}
use Rattle.od_index.specs.Sentences.{Indexed}
use Rattle.od_posted.proofs.Grouped.{groups-are-postings}
use Rattle.od_posted.proofs.Marked.{numbers-within}
use Rattle.od_posted.proofs.lists.posting_lists.Goals as goal

pub grouped-requires : goal.grouped-requires
grouped-requires c =
    let table = c.args.table.now in
    let within = numbers-within table (map (λ (x : Indexed). x.sentence) c.args.sentences.now) c.in_ok-entries.entries.items c.in_ok-entries.ensures in
    subst (λ (n : ℕ). Each (λ (e : ℕ × Posting). e.0 < n) c.deref.result.now) (sym c.len.ensures.len)
    (subst (λ (es : List (ℕ × Posting)). Each (λ (e : ℕ × Posting). e.0 < length table) es) (sym c.deref.ensures.value) within)

pub returns : goal.returns
returns c =
    c.in_ok-lists.ensures
    ∙ ap₂ (λ (es : List (ℕ × Posting)) (n : ℕ). map (group_of es) (range_with_len 0 n)) c.deref.ensures.value c.len.ensures.len
    ∙ groups-are-postings c.args.table.now (map (λ (x : Indexed). x.sentence) c.args.sentences.now) c.in_ok-entries.entries.items c.len.ensures.ascends c.in_ok-entries.ensures
