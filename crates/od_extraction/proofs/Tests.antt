-- An answer about sameness is the test.
use Rattle.std.proofs.Common.{◌≡◌, Bool, true, refl}
use Rattle.std.specs.Prelude.{◌↔◌, IsTrue}
use Rattle.std.proofs.lemmas.Bool.Decides.{same_from_decides}
use Rattle.od_extraction.specs.declared.mention.Mention.{Mention}
use Rattle.od_extraction.specs.Mentions.{same_mention}
use Rattle.od_extraction.proofs.Sameness.{mention-Decides}

-- an answer that is true exactly where two mentions are equal is the test of sameness
pub same_mention-from_iff : (b : Bool) (m n : Mention) → (IsTrue b ↔ (m ≡ n)) → b ≡ same_mention m n
same_mention-from_iff b m n h = same_from_decides b (same_mention m n) (h.0, h.1) (mention-Decides m n)

-- each mention is the same as itself
pub same_mention-itself : (m : Mention) → same_mention m m ≡ true
same_mention-itself m = (mention-Decides m m).1 refl
