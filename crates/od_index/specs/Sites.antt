-- Sentences, and where they stand.
use Rattle.std.specs.Prelude.{ℕ, ◌+◌, List, map, flat_map}
use Rattle.std.specs.List.{enumerate_from}
use Rattle.od_document.specs.declared.doc.Doc.{Doc}
use Rattle.od_document.specs.declared.sentence.Sentence.{Sentence}

-- a sentence, and where it stands: documents, and sentences of each, are numbered from 0
pub record Site : Type 0 where
  pub document : ℕ
  pub number : ℕ
  pub words : Sentence

-- the sentences of a numbered document
abbrev pub sites_of : ℕ × Doc → List Site
sites_of d = map (λ s. record { document = d.0; number = s.0; words = s.1 }) (enumerate_from 0 d.1.sentences)

-- every sentence of documents that stand behind n others, in their order
abbrev pub sites_from : ℕ → List Doc → List Site
sites_from n docs = flat_map sites_of (enumerate_from n docs)

-- every sentence, in the order of the documents
abbrev pub sites : List Doc → List Site
sites docs = sites_from 0 docs

-- the same sentence, with n documents more before it
abbrev pub later : ℕ → Site → Site
later n site = record { document = n + site.document; number = site.number; words = site.words }

-- the sentences alone
abbrev pub sentences_in : List Site → List Sentence
sentences_in ss = map (λ site. site.words) ss
