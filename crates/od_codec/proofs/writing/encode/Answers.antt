use Rattle.std.proofs.Common.{◌≡◌, ℕ, List, ap, ◌∙◌, append_assoc, rules}
use Rattle.od_stored.specs.Mentions.{list_bytes}
use Rattle.od_stored.specs.ReadMentions.{list_read}
use Rattle.od_stored.proofs.MentionLaws.{list_again}
use Rattle.od_codec.proofs.writing.encode.Goals as goal

pub returns-clause-back : goal.returns-clause-back
unfolding list_bytes
returns-clause-back c =
    let e : ◌≡◌ {A = List ℕ} c.from_vec.result (list_bytes c.args.mentions.now) = search (rules, append_assoc) in
    ap list_read e ∙ list_again c.args.mentions.now (record { count = c.requires.count; mentions = c.in_ok-put_mentions.ensures.are })
