use Rattle.std.proofs.Common.{◌≡◌, vec_len}
use Rattle.od_machine.specs.Marks.{AreNamed}
use Rattle.od_machine.proofs.marks.clear_words.Given as goal

abbrev pub invariant-used : goal.invariant-used
invariant-used l = AreNamed l.words.items l.used.items × (vec_len l.words ≡ vec_len l.fn.words)

abbrev pub decreases-used : goal.decreases-used
decreases-used l = vec_len l.used
