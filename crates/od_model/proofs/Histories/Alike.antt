-- Prints of sessions that were opened alike: after as many rounds they show the same, and after more the print goes on.
use Rattle.std.proofs.Common.{◌≡◌, ◌≢◌, ◌⊎◌, inl, inr, ℕ, zero, suc, ◌+◌, ◌≤◌, List, [], ◌∷◌, ◌++◌, length, take, drop, slice_get, flat_map, Option, Some, None, refl, sym, ap, ◌∙◌, subst, append-nil, append_assoc, length-append, arith}
use Rattle.std.proofs.lemmas.List.{take-append-drop}
use Rattle.std.proofs.lemmas.List.Concat.{flat_map-append}
use Rattle.od_document.specs.declared.doc.Doc.{Doc}
use Rattle.od_pattern.specs.declared.grammar.Head.{Head}
use Rattle.od_pattern.specs.declared.grammar.Grammar.{Grammar}
use Rattle.od_extraction.specs.declared.mention.Mention.{Mention}
use Rattle.od_extraction.specs.declared.mention.RoundResult.{RoundResult}
use Rattle.od_extraction.specs.declared.mention.RoundResult.TheVariants.{Found, Crowded, TooMany}
use Rattle.od_extraction.specs.declared.phase.Phase.TheVariants.{Finished}
use Rattle.od_extraction.specs.Joined.{joined}
use Rattle.od_extraction.specs.Spans.{LiesIn}
use Rattle.od_session.specs.Grammars.{grammar_of}
use Rattle.od_matching.specs.Rounds.Round.{round, rounds, one_more, with_found}
use Rattle.od_matching.specs.Rounds.Phases.{phase, greatest_first}
use Rattle.od_command.specs.declared.history.Entry.{Entry}
use Rattle.od_line.specs.Mentions.{mention_line, line_in}
use Rattle.od_session.specs.declared.object.OneThread.{OneThread}
use Rattle.od_text.specs.Lists.{Each, EachPoint}
use Rattle.od_text.proofs.Lists.{EachPoint-at}
use Rattle.od_model.specs.History.Legal.{state_after}
use Rattle.od_model.specs.History.Prints.{Opening, IsOpened}
use Rattle.od_model.specs.History.Alike.{Shown, AreAlike, ShowSame, GoesOnFrom}
use Rattle.od_model.proofs.Histories.Frames.{docs-grow, docs-grow-after}
use Rattle.od_model.proofs.Histories.Sound.{rounds-suc}

-- ## The rounds of fewer are the first ones of more

-- the lists of the first rounds, and as many more
record IsFront (docs : List Doc) (g : Grammar) (n k : ℕ) (lists : List (List Mention)) : Type 0 where
  front : List (List Mention)
  more : List (List Mention)
  lists_are : lists ≡ front ++ more
  rounds_are : rounds docs g n ≡ Some front
  as_many : length more ≡ k

found-more : (docs : List Doc) (g : Grammar) (n k : ℕ) (mid lists : List (List Mention)) (r : RoundResult) → with_found mid r ≡ Some lists → IsFront docs g n k mid → IsFront docs g n (suc k) lists
found-more docs g n k mid lists (Found new) e h =
    let is : mid ++ new ∷ [] ≡ lists = cc in
    record {
      front = h.front;
      more = h.more ++ new ∷ [];
      lists_are = sym is ∙ ap (λ l. l ++ new ∷ []) h.lists_are ∙ append_assoc h.front h.more (new ∷ []);
      rounds_are = h.rounds_are;
      as_many = omega (arith, h.as_many, length-append h.more (new ∷ []));
    }
found-more docs g n k mid lists (Crowded rule document sentence count) e h = absurd (cc)
found-more docs g n k mid lists (TooMany total) e h = absurd (cc)

one-round-more : (docs : List Doc) (g : Grammar) (n k : ℕ) (before : Option (List (List Mention))) (lists : List (List Mention)) → one_more docs g before ≡ Some lists
    → ((mid : List (List Mention)) → before ≡ Some mid → IsFront docs g n k mid) → IsFront docs g n (suc k) lists
one-round-more docs g n k None lists e h = absurd (cc)
one-round-more docs g n k (Some mid) lists e h = found-more docs g n k mid lists (round docs g (length mid + 1) (joined mid)) e (h mid refl)

rounds-front : (docs : List Doc) (g : Grammar) (n k m : ℕ) (lists : List (List Mention)) → m ≡ k + n → rounds docs g m ≡ Some lists → IsFront docs g n k lists
rounds-front docs g n zero m lists is e =
    let same : m ≡ n = omega (arith, is) in
    record { front = lists; more = []; lists_are = sym (append-nil lists); rounds_are = subst (λ i. rounds docs g i ≡ Some lists) same e; as_many = refl }
rounds-front docs g n (suc k) zero lists is e = absurd (omega (arith, is))
rounds-front docs g n (suc k) (suc m) lists is e =
    one-round-more docs g n k (rounds docs g m) lists (sym (rounds-suc docs g m) ∙ e) (λ mid at. rounds-front docs g n k m mid (omega (arith, is)) at)

-- ## Two numbers of rounds

how-many-more : (n m : ℕ) → ((k : ℕ) × (m ≡ k + n)) ⊎ ((k : ℕ) × (n ≡ k + m))
how-many-more zero m = inl (m, omega arith)
how-many-more (suc n) zero = inr (suc n, omega arith)
how-many-more (suc n) (suc m) = more (how-many-more n m)
  where
    more : ((k : ℕ) × (m ≡ k + n)) ⊎ ((k : ℕ) × (n ≡ k + m)) → ((k : ℕ) × (suc m ≡ k + suc n)) ⊎ ((k : ℕ) × (suc n ≡ k + suc m))
    more (inl (k, e)) = inl (k, omega (arith, e))
    more (inr (k, e)) = inr (k, omega (arith, e))

same-some : {X : Type 0} (x y : X) → Some x ≡ Some y → x ≡ y
same-some x y e = cc

-- the lists of a session that has not been finished before its last round
abbrev FirstFinished : ℕ → ℕ → List (List Mention) → Type 0
FirstFinished first limit lists = EachPoint (λ before list. phase first limit before ≢ Finished) lists

none-more : (first limit : ℕ) (lists more : List (List Mention)) → phase first limit lists ≡ Finished → FirstFinished first limit (lists ++ more) → more ≡ []
none-more first limit lists [] done h = refl
none-more first limit lists (x ∷ more) done h = absurd (EachPoint-at (λ before list. phase first limit before ≢ Finished) lists x more h done)

-- when both are finished, the one with more rounds has as many
ends-alike : (docs : List Doc) (g : Grammar) (first limit n k m : ℕ) (one other : List (List Mention)) → m ≡ k + n → rounds docs g n ≡ Some one → rounds docs g m ≡ Some other
    → phase first limit one ≡ Finished → FirstFinished first limit other → n ≡ m
ends-alike docs g first limit n k m one other is e f done h =
    let front = rounds-front docs g n k m other is f in
    let same : front.front ≡ one = same-some front.front one (sym front.rounds_are ∙ e) in
    let other-is : other ≡ one ++ front.more = front.lists_are ∙ ap (λ l. l ++ front.more) same in
    let none : front.more ≡ [] = none-more first limit one front.more done (subst (FirstFinished first limit) other-is h) in
    let count : k ≡ 0 = sym front.as_many ∙ ap length none in
    omega (arith, is, count)

-- ## Lines through the documents of the opening

got-before : (docs more : List Doc) (i : ℕ) (doc : Doc) → slice_get docs i ≡ Some doc → slice_get (docs ++ more) i ≡ Some doc
got-before [] more i doc e = absurd (cc)
got-before (x ∷ docs) more zero doc e = e
got-before (x ∷ docs) more (suc i) doc e = got-before docs more i doc e

-- the line of a mention that lies in these documents, whatever documents stand behind them
line-before : (name : List ℕ) (docs more : List Doc) (m : Mention) → LiesIn docs m → mention_line name (docs ++ more) m ≡ mention_line name docs m
unfolding mention_line
line-before name docs more m h = ap (λ found. line_in name found m) (got-before docs more m.document h.doc h.doc_is ∙ sym h.doc_is)

lines-before : (name : List ℕ) (docs more : List Doc) (ms : List Mention) → Each (LiesIn docs) ms → flat_map (mention_line name (docs ++ more)) ms ≡ flat_map (mention_line name docs) ms
lines-before name docs more [] h = refl
lines-before name docs more (m ∷ ms) h = rw (line-before name docs more m h.0, lines-before name docs more ms h.1) refl

-- a session's opening has the first of the documents that are committed later
opening-before : (start : OneThread) (heads : List Head) (seen : List Entry) (name : List ℕ) (opening : Opening) → IsOpened start heads seen name opening → (more : List Doc) × ((state_after start heads seen).docs ≡ opening.docs ++ more)
opening-before start heads seen name opening (inl h) =
    let (more, grows) = docs-grow-after start heads h.before (h.entry ∷ h.since) in
    (more, ap (λ l. (state_after start heads l).docs) h.seen_is ∙ grows ∙ ap (λ (o : Opening). o.docs ++ more) (sym h.opening_is))
opening-before start heads seen name opening (inr h) =
    let (more, grows) = docs-grow start heads seen in
    let count = h.session.documents in (
      drop count start.docs ++ more,
      grows ∙ ap (λ l. l ++ more) (sym (take-append-drop count start.docs)) ∙ append_assoc (take count start.docs) (drop count start.docs) more
          ∙ ap (λ (o : Opening). o.docs ++ (drop count start.docs ++ more)) (sym h.opening_is),
    )

-- the lines of a print are those through its opening's documents
lines-through : (p : Shown) → p.lines ≡ flat_map (mention_line p.name p.shows.opening.docs) (joined p.shows.lists)
lines-through p =
    let docs = p.shows.opening.docs in
    let ms = joined p.shows.lists in
    let (more, is) = opening-before p.start p.heads p.seen p.name p.shows.opening p.shows.opened in
    p.shows.lines_are ∙ ap (λ l. flat_map (mention_line p.name l) ms) is ∙ lines-before p.name docs more ms p.shows.mentions_lie

-- ## Two prints

module _ (one other : Shown) (alike : AreAlike one other) where
  same-grammar : one.shows.grammar ≡ other.shows.grammar
  same-grammar = same-some one.shows.grammar other.shows.grammar (sym one.shows.reads ∙ ap (λ (o : Opening). grammar_of o.kind o.text) alike ∙ other.shows.reads)

  -- the rounds of one are rounds over the other's documents
  same-rounds : rounds other.shows.opening.docs other.shows.grammar one.number ≡ Some one.shows.lists
  same-rounds = sym (ap (λ g. rounds other.shows.opening.docs g one.number) same-grammar) ∙ sym (ap (λ (o : Opening). rounds o.docs one.shows.grammar one.number) alike) ∙ one.shows.rounds_are

  -- the lists of one are the first ones of the other
  lists-go-on : (k : ℕ) → other.number ≡ k + one.number → (more : List (List Mention)) × (other.shows.lists ≡ one.shows.lists ++ more)
  lists-go-on k is =
      let front = rounds-front other.shows.opening.docs other.shows.grammar one.number k other.number other.shows.lists is other.shows.rounds_are in
      let same : front.front ≡ one.shows.lists = same-some front.front one.shows.lists (sym front.rounds_are ∙ same-rounds) in
      (front.more, front.lists_are ∙ ap (λ l. l ++ front.more) same)

  lines-of-lists : one.name ≡ other.name → (lists : List (List Mention)) → flat_map (mention_line one.name one.shows.opening.docs) (joined lists) ≡ flat_map (mention_line other.name other.shows.opening.docs) (joined lists)
  lines-of-lists named lists = ap (λ n. flat_map (mention_line n one.shows.opening.docs) (joined lists)) named ∙ ap (λ (o : Opening). flat_map (mention_line other.name o.docs) (joined lists)) alike

  -- after as many rounds they show the same
  pub equal-rounds : one.number ≡ other.number → ShowSame one other
  equal-rounds as-many =
      let lists : one.shows.lists ≡ other.shows.lists = same-some one.shows.lists other.shows.lists (sym same-rounds ∙ ap (rounds other.shows.opening.docs other.shows.grammar) as-many ∙ other.shows.rounds_are) in
      record {
        number = as-many;
        lists = lists;
        mentions = one.shows.mentions_are ∙ ap (λ l. length (joined l)) lists ∙ sym other.shows.mentions_are;
        lines = λ named. lines-through one ∙ lines-of-lists named one.shows.lists ∙ ap (λ l. flat_map (mention_line other.name other.shows.opening.docs) (joined l)) lists ∙ sym (lines-through other);
      }

  -- after more rounds the other goes on from the one
  goes-on : (k : ℕ) → other.number ≡ k + one.number → GoesOnFrom one other
  goes-on k is =
      let (more, lists) = lists-go-on k is in
      let line = mention_line other.name other.shows.opening.docs in
      record {
        more = more;
        lists_are = lists;
        rest = flat_map line (joined more);
        lines_are = λ named. lines-through other ∙ ap (λ l. flat_map line (joined l)) lists ∙ ap (flat_map line) (flat_map-append (λ (l : List Mention). l) one.shows.lists more)
            ∙ flat_map-append line (joined one.shows.lists) (joined more) ∙ ap (λ l. l ++ flat_map line (joined more)) (sym (lines-of-lists named one.shows.lists) ∙ sym (lines-through one));
      }

  -- when the one is finished, the other has no more rounds
  no-more : (k : ℕ) → other.number ≡ k + one.number → one.state ≡ Finished → one.number ≡ other.number
  no-more k is done =
      let first = greatest_first other.shows.grammar.rules in
      let limit = other.shows.opening.limit in
      let finished : phase first limit one.shows.lists ≡ Finished = sym (ap (λ g. phase (greatest_first g.rules) limit one.shows.lists) same-grammar)
      ∙ sym (ap (λ (o : Opening). phase (greatest_first one.shows.grammar.rules) o.limit one.shows.lists) alike) ∙ sym one.shows.state_is ∙ done in
      ends-alike other.shows.opening.docs other.shows.grammar first limit one.number k other.number one.shows.lists other.shows.lists is same-rounds other.shows.rounds_are finished other.shows.first_finished

-- after more rounds the print goes on from the earlier one
pub later-goes-on : (one other : Shown) → AreAlike one other → one.number ≤ other.number → GoesOnFrom one other
later-goes-on one other alike few = by-order (how-many-more one.number other.number)
  where
    by-order : ((k : ℕ) × (other.number ≡ k + one.number)) ⊎ ((k : ℕ) × (one.number ≡ k + other.number)) → GoesOnFrom one other
    by-order (inl (k, is)) = goes-on one other alike k is
    by-order (inr (k, is)) = goes-on one other alike 0 (omega (arith, few, is))

-- two finished prints show the same
pub finished-agree : (one other : Shown) → AreAlike one other → one.state ≡ Finished → other.state ≡ Finished → ShowSame one other
finished-agree one other alike done done' = equal-rounds one other alike (by-order (how-many-more one.number other.number))
  where
    by-order : ((k : ℕ) × (other.number ≡ k + one.number)) ⊎ ((k : ℕ) × (one.number ≡ k + other.number)) → one.number ≡ other.number
    by-order (inl (k, is)) = no-more one other alike k is done
    by-order (inr (k, is)) = sym (no-more other one (sym alike) k is done')
