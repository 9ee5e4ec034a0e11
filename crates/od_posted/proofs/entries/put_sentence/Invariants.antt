-- The entries of the tokens so far.
use Rattle.std.proofs.Common.{◌≡◌, ◌++◌, take, flat_map}
use Rattle.std.specs.List.{enumerate_from}
use Rattle.od_posted.specs.Entries.{marks_of, token_marks}
use Rattle.od_posted.proofs.entries.put_sentence.Given as goal

abbrev pub invariant-loop-token : goal.invariant-loop-token
invariant-loop-token l =
    marks_of l.at.table l.entries.items
    ≡ marks_of l.at.table l.fn.entries.items ++ flat_map (token_marks l.at.number l.at.sentence) (enumerate_from 0 (take l.token l.at.sentence.tokens))
