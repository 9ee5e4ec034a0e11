use Rattle.std.proofs.Common.{◌+◌, ◌<◌, length, take, flat_map, subst, arith}
use Rattle.std.specs.List.{enumerate_from}
use Rattle.std.specs.Prelude.{slice_get}
use Rattle.od_document.specs.declared.sentence.Sentence.{Sentence}
use Rattle.od_posted.specs.Entries.{marks_of, marks_here, token_marks}
use Rattle.od_posted.proofs.Marked.{more-put, tokens-next}
use Rattle.od_posted.proofs.entries.put_sentence.Goals as goal

pub loop-token-preserved : goal.loop-token-preserved
loop-token-preserved c =
    let s = c.args.at.now.sentence in
    let n = c.args.at.now.number in
    let table = c.args.at.now.table in
    let k = c.loop-token.token in
    let lt : k < length s.tokens = subst (λ (w : Sentence). k < length w.tokens) c.sentence-3.ensures.sentence (omega (arith, c.loop-token-test.true, c.len-token-end.ensures)) in
    more-put (marks_of table c.args.entries.now.items) (marks_of table c.loop-token.entries.items) (marks_of table c.put_token.new.entries.items)
    (flat_map (token_marks n s) (enumerate_from 0 (take k s.tokens))) (marks_here n s k (slice_get s.tokens k)) (flat_map (token_marks n s) (enumerate_from 0 (take (k + 1) s.tokens)))
    c.loop-token.invariant c.in_ok-put_token.ensures (tokens-next n s k lt)
