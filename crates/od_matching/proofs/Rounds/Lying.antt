-- The mentions of rounds lie in sentences of the documents.
use Rattle.std.proofs.Common.{◌≡◌, ℕ, zero, suc, ◌+◌, List, [], ◌∷◌, ◌++◌, length, fold, slice_get, Option, Some, None, Bool, true, false, if◌then◌else◌, refl, sym, ap, ◌∙◌, subst}
use Rattle.std.specs.List.{enumerate_from}
use Rattle.std.specs.Prelude.{nat_lt}
use Rattle.od_document.specs.declared.doc.Doc.{Doc}
use Rattle.od_pattern.specs.declared.rule.Rule.{Rule}
use Rattle.od_pattern.specs.declared.grammar.Grammar.{Grammar}
use Rattle.od_extraction.specs.declared.mention.Mention.{Mention}
use Rattle.od_extraction.specs.declared.mention.RoundResult.{RoundResult}
use Rattle.od_extraction.specs.declared.mention.RoundResult.TheVariants.{Found, Crowded, TooMany}
use Rattle.od_text.specs.Lists.{Each}
use Rattle.od_extraction.specs.Mentions.{is_among, distinct}
use Rattle.od_matching.specs.Matching.Rules.{RuleOutcome, mentions, crowded, rule_mentions}
use Rattle.od_extraction.specs.Spans.{LiesIn}
use Rattle.od_extraction.specs.Weight.{weight, most_weight}
use Rattle.od_matching.specs.Rounds.Sites.{Site, sites_of, sites, rules_in}
use Rattle.od_matching.specs.Rounds.Round.{Item, one, crowd, in_sentence, items_of, items_at, items_by, items, weighed, walked, round_over, round, with_found, one_more, rounds}
use Rattle.od_extraction.specs.Joined.{joined}
use Rattle.od_text.proofs.Lists.{Each-append, Each-weaker, Each-map, Each-flat_map, enumerate-at}
use Rattle.od_matching.proofs.Matching.Lying.{LiesAt, rule-lies}
use Rattle.od_matching.proofs.Rounds.Joined.{joined-snoc}

-- a sentence of one of the documents, where it stands
record IsSite (docs : List Doc) (site : Site) : Type 0 where
  doc : Doc
  doc_is : slice_get docs site.document ≡ Some doc
  words_are : slice_get doc.sentences site.number ≡ Some site.words

sites-stand : (docs : List Doc) → Each (IsSite docs) (sites docs)
sites-stand docs =
    let of_one : (d : ℕ × Doc) → slice_get docs d.0 ≡ Some d.1 → Each (IsSite docs) (sites_of d) = λ d e.
    Each-map (IsSite docs) (λ s. record { document = d.0; number = s.0; words = s.1 }) (enumerate_from 0 d.1.sentences)
    (Each-weaker (λ s. slice_get d.1.sentences s.0 ≡ Some s.1) (λ s. IsSite docs (record { document = d.0; number = s.0; words = s.1 }))
    (λ s w. record { doc = d.1; doc_is = e; words_are = w }) (enumerate_from 0 d.1.sentences) (enumerate-at d.1.sentences)) in
    Each-flat_map (IsSite docs) sites_of (enumerate_from 0 docs) (Each-weaker (λ d. slice_get docs d.0 ≡ Some d.1) (λ d. Each (IsSite docs) (sites_of d)) of_one (enumerate_from 0 docs) (enumerate-at docs))

module _ (docs : List Doc) where
  -- a mention that a round meets lies in the documents
  abbrev ItemLies : Item → Type 0
  ItemLies (one m) = LiesIn docs m
  ItemLies (crowd c) = Unit {0}

  stands : (site : Site) → IsSite docs site → (m : Mention) → LiesAt site.document site.number (length site.words.tokens) m → LiesIn docs m
  stands site is m h = record {
    doc = is.doc;
    doc_is = ap (slice_get docs) h.document_is ∙ is.doc_is;
    sentence = site.words;
    sentence_is = ap (slice_get is.doc.sentences) h.sentence_is ∙ is.words_are;
    lies = h.lies;
  }

  found-at : (rule : ℕ) (site : Site) → IsSite docs site → (found : RuleOutcome) → ((ms : List Mention) → found ≡ mentions ms → Each (LiesAt site.document site.number (length site.words.tokens)) ms) → Each ItemLies (items_of rule site found)
  found-at rule site is (mentions ms) h =
      Each-map ItemLies one ms (Each-weaker (LiesAt site.document site.number (length site.words.tokens)) (LiesIn docs) (stands site is) ms (h ms refl))
  found-at rule site is (crowded count) h = (tt, tt)

  -- all that a round meets
  items-lie : (g : Grammar) (r : ℕ) (old : List Mention) → Each ItemLies (items docs g r old)
  items-lie g r old = Each-flat_map ItemLies (λ rule. items_by docs old rule) (rules_in r g) (by-rules (rules_in r g))
    where
      at : (rule : ℕ × Rule) (site : Site) → IsSite docs site → Each ItemLies (items_at old rule site)
      at rule site is =
          found-at rule.0 site is (rule_mentions rule.1 site.document site.number site.words (in_sentence site.document site.number old))
          (λ ms e. rule-lies rule.1 site.document site.number site.words (in_sentence site.document site.number old) ms e)

      by-rules : (rules : List (ℕ × Rule)) → Each (λ rule. Each ItemLies (items_by docs old rule)) rules
      by-rules [] = tt
      by-rules (rule ∷ rules) = (
        Each-flat_map ItemLies (λ site. items_at old rule site) (sites docs) (Each-weaker (IsSite docs) (λ site. Each ItemLies (items_at old rule site)) (at rule) (sites docs) (sites-stand docs)),
        by-rules rules,
      )

  -- what a walk has found
  abbrev pub ResultLies : RoundResult → Type 0
  ResultLies (Found new) = Each (LiesIn docs) new
  ResultLies (Crowded rule document sentence count) = Unit {0}
  ResultLies (TooMany total) = Unit {0}

  module _ (old : List Mention) where
    lies-weighed : (new : List Mention) (m : Mention) (total : ℕ) (b : Bool) → Each (LiesIn docs) new → LiesIn docs m → ResultLies (if b then TooMany total else Found (new ++ m ∷ []))
    lies-weighed new m total true h k = tt
    lies-weighed new m total false h k = Each-append (LiesIn docs) new (m ∷ []) h (k, tt)

    lies-one : (new : List Mention) (m : Mention) (b : Bool) → Each (LiesIn docs) new → LiesIn docs m → ResultLies (if b then Found new else weighed old new m)
    lies-one new m true h k = h
    lies-one new m false h k = lies-weighed new m (weight (old ++ (new ++ m ∷ []))) (nat_lt most_weight (weight (old ++ (new ++ m ∷ [])))) h k

    lies-walked : (r : RoundResult) (x : Item) → ResultLies r → ItemLies x → ResultLies (walked old r x)
    lies-walked (Found new) (one m) h k = lies-one new m (is_among (old ++ new) m) h k
    lies-walked (Found new) (crowd c) h k = tt
    lies-walked (Crowded rule document sentence count) x h k = tt
    lies-walked (TooMany total) x h k = tt

    lies-all : (r : RoundResult) (xs : List Item) → ResultLies r → Each ItemLies xs → ResultLies (fold (walked old) r xs)
    lies-all r [] h k = h
    lies-all r (x ∷ xs) h k = lies-all (walked old r x) xs (lies-walked r x h k.0) k.1

  pub round-lies : (g : Grammar) (r : ℕ) (old : List Mention) → ResultLies (round docs g r old)
  unfolding round_over
  round-lies g r old = lies-all (distinct old) (Found []) (items docs g r (distinct old)) tt (items-lie g r (distinct old))

  -- the lists of rounds, where none was refused
  abbrev ListsLie : Option (List (List Mention)) → Type 0
  ListsLie None = Unit {0}
  ListsLie (Some lists) = Each (LiesIn docs) (joined lists)

  lists-more : (lists : List (List Mention)) (r : RoundResult) → Each (LiesIn docs) (joined lists) → ResultLies r → ListsLie (with_found lists r)
  lists-more lists (Found new) h k = subst (Each (LiesIn docs)) (sym (joined-snoc lists new)) (Each-append (LiesIn docs) (joined lists) new h k)
  lists-more lists (Crowded rule document sentence count) h k = tt
  lists-more lists (TooMany total) h k = tt

  lists-next : (g : Grammar) (lists : Option (List (List Mention))) → ListsLie lists → ListsLie (one_more docs g lists)
  lists-next g None h = tt
  lists-next g (Some lists) h = lists-more lists (round docs g (length lists + 1) (joined lists)) h (round-lies g (length lists + 1) (joined lists))

  lists-lie : (g : Grammar) (r : ℕ) → ListsLie (rounds docs g r)
  unfolding rounds
  lists-lie g zero = tt
  lists-lie g (suc r) = lists-next g (rounds docs g r) (lists-lie g r)

-- the mentions of rounds over some documents lie in these
pub rounds-lie : (docs : List Doc) (g : Grammar) (r : ℕ) (lists : List (List Mention)) → rounds docs g r ≡ Some lists → Each (LiesIn docs) (joined lists)
rounds-lie docs g r lists e = subst (ListsLie docs) e (lists-lie docs g r)
