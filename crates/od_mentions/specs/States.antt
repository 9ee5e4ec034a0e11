-- What a state of mentions keeps.
use Rattle.std.specs.Prelude.{◌≡◌, ℕ, ◌^◌, ◌<◌, List}
use Rattle.od_extraction.specs.declared.mention.Mention.{Mention}
use Rattle.od_extraction.specs.Mentions.{distinct}
use Rattle.od_extraction.specs.Weight.{weight}
use Rattle.od_mentions.specs.declared.index.Index.{Index}
use Rattle.od_mentions.specs.Indexes.{IsIndexOf}

-- mentions without repeats, notes of where they stand, and what they weigh together
pub record IsKept (ms : List Mention) (index : Index) (total : ℕ) : Type 0 where
  pub indexed : IsIndexOf index ms
  pub unlike : distinct ms ≡ ms
  pub weighs : total ≡ weight ms
  pub light : total < 2 ^ 64
