use Rattle.std.proofs.Common.{◌≡◌, List, Result, Ok, Err, ap, subst, ◌∙◌, arith}
use Rattle.std.specs.Prelude.{ℕ, IfOk}
use Rattle.od_extraction.specs.declared.mention.Mention.{Mention}
use Rattle.od_stored.specs.declared.fault.CodecFault.{CodecFault}
use Rattle.od_stored.specs.Answers.{Gives}
use Rattle.od_stored.specs.Laws.{AreBytes}
use Rattle.od_stored.specs.Mentions.{IsList, list_bytes}
use Rattle.od_stored.specs.ReadMentions.{list_read}
use Rattle.od_stored.proofs.MentionLaws.{list_again, list_takes}
use Rattle.od_codec.proofs.reading.decode.Goals as goal

is_found : (bytes : List ℕ) (r : Result (List Mention) CodecFault) → AreBytes bytes → Gives (λ x. x) r (list_read bytes) → IfOk r (λ list. (bytes ≡ list_bytes list) × IsList list)
is_found bytes (Ok list) fits e = list_takes bytes list fits e
is_found bytes (Err f) fits e = tt

pub returns-clause-found : goal.returns-clause-found
returns-clause-found c = is_found c.args.bytes.now c.read.result (λ i. omega (arith, c.type_inv.bytes i)) c.read.ensures

pub returns-clause-only : goal.returns-clause-only
returns-clause-only c = λ list is e. subst (λ (r : Result (List Mention) CodecFault). Gives (λ x. x) c.read.result r) (ap list_read e ∙ list_again list is) c.read.ensures
