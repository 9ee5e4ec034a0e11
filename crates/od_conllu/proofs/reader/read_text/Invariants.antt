use Rattle.std.proofs.Common.{◌≡◌, ◌+◌, length, drop}
use Rattle.std.specs.Str.Lines.{lines}
use Rattle.od_document.specs.Lines.{numbered, blocks_of}
use Rattle.od_conllu.proofs.Reached.{Reaches}
use Rattle.od_conllu.proofs.reader.read_text.Given as goal

-- the lines behind those that were read are left
abbrev pub invariant-loop-line : goal.invariant-loop-line
invariant-loop-line l =
    Reaches (blocks_of l.text) (numbered l.number (drop (length l.yielded) (lines l.text))) l.sentences.items l.draft × (l.number ≡ 1 + length l.yielded)
