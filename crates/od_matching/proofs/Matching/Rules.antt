-- What simple rules find.
use Rattle.std.proofs.Common.{◌≡◌, ℕ, List, [], ap}
use Rattle.std.specs.Prelude.{map}
use Rattle.od_matching.specs.Matching.Scan.{scan_of}
use Rattle.od_extraction.specs.Mentions.{distinct}
use Rattle.od_matching.specs.Matching.Rules.{labelled, mention_at, mentions, body_outcome, rule_mentions}
use Rattle.od_document.specs.declared.sentence.Sentence.{Sentence}
use Rattle.od_extraction.specs.declared.mention.Mention.{Mention}
use Rattle.od_pattern.specs.declared.pattern.Surface.{Surface}
use Rattle.od_pattern.specs.declared.rule.Rule.{Rule}
use Rattle.od_pattern.specs.declared.rule.Body.TheVariants.{Basic}

-- a rule of one part finds the scan of that part, without repeats
pub of_one_part : (r : Rule) (p : Surface) (d k : ℕ) (s : Sentence) (state : List Mention) → r.body ≡ Basic (record { first = p; rest = [] })
    → rule_mentions r d k s state ≡ mentions (distinct (map (mention_at r d k) (scan_of p s (map labelled state))))
unfolding rule_mentions
of_one_part r p d k s state e = ap (body_outcome r d k s (map labelled state)) e
