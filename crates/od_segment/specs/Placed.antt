-- What a segment's sentences stand for.
use Rattle.std.specs.Prelude.{◌≡◌, ℕ, ◌<◌, ◌^◌, List, length, map}
use Rattle.std.specs.List.{enumerate_from}
use Rattle.od_text.specs.Lists.{Each}
use Rattle.od_document.specs.declared.sentence.Sentence.{Sentence}
use Rattle.od_index.specs.Postings.{Posting, posting_lists}
use Rattle.od_index.specs.Sentences.{HasTerms}
use Rattle.od_index.specs.Sites.{Site, sentences_in}
use Rattle.od_index.specs.Terms.{Term, sentence_terms}
use Rattle.od_segment.specs.declared.segment.Placed.{Placed}

-- a sentence, where it stands
abbrev pub site_of : Placed → Site
site_of p = record { document = p.document; number = p.number; words = p.words.sentence }

-- the sentences of the first document, where they stand
abbrev pub numbered : List Sentence → List Site
numbered ss = map (λ s. record { document = 0; number = s.0; words = s.1 }) (enumerate_from 0 ss)

-- all are numbers of one table
abbrev pub AreOver : List Term → List Placed → Type 0
AreOver table ps = Each (λ (p : Placed). p.words.table ≡ table) ps

-- all stand in the first documents
abbrev pub AreWithin : ℕ → List Placed → Type 0
AreWithin documents ps = Each (λ (p : Placed). p.document < documents) ps

-- the table has every term of each sentence
abbrev pub AreServed : List Term → List Site → Type 0
AreServed table ss = Each (λ (site : Site). HasTerms table (sentence_terms site.words)) ss

-- the sentences of some documents, as numbers of a table, and the posting lists of its terms
pub record IsSegment
    (documents : ℕ) (ps : List Placed) (table : List Term) (lists : List (List Posting)) : Type 0 where
  pub over : AreOver table ps
  pub within : AreWithin documents ps
  pub few : length ps < 2 ^ 32
  pub served : AreServed table (map site_of ps)
  pub posted : lists ≡ posting_lists table (sentences_in (map site_of ps))
