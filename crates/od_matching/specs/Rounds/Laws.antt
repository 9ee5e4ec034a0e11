-- The laws of rounds.
use Rattle.std.specs.Prelude.{◌≡◌, ◌≤◌, ℕ, ◌+◌, ◌*◌, Bool, true, false, List, [], ◌∷◌, ◌++◌, length, map, filter, flat_map, take, drop, if◌then◌else◌, bytes_eq, slice_get, Some}
use Rattle.std.specs.List.{enumerate_from, list_any}
use Rattle.od_text.specs.Lists.{Each}
use Rattle.od_document.specs.declared.token.Token.{Token}
use Rattle.od_document.specs.declared.sentence.Sentence.{Sentence}
use Rattle.od_document.specs.declared.doc.Doc.{Doc}
use Rattle.od_pattern.specs.declared.pattern.Field.{Field}
use Rattle.od_pattern.specs.declared.rule.Rule.{Rule}
use Rattle.od_pattern.specs.declared.grammar.Grammar.{Grammar}
use Rattle.od_index.specs.Segments.{Tiles}
use Rattle.od_index.specs.Sites.{later}
use Rattle.od_index.specs.Terms.{terms_at}
use Rattle.od_index.specs.Tables.{same_term}
use Rattle.od_index.specs.Views.{Seen, sites_seen}
use Rattle.od_extraction.specs.declared.mention.Mention.{Mention}
use Rattle.od_extraction.specs.declared.mention.RoundResult.TheVariants.{Found}
use Rattle.od_extraction.specs.Joined.{joined}
use Rattle.od_extraction.specs.Mentions.{is_among, with_new, distinct}
use Rattle.od_extraction.specs.Weight.{weight}
use Rattle.od_asked.specs.Holds.{texts_at}
use Rattle.od_matching.specs.Rounds.Candidates.{Choice, KeepsAll, items_kept, openings}
use Rattle.od_matching.specs.Rounds.Phases.{phase}
use Rattle.od_matching.specs.Rounds.Round.{one, known_at, items_over, items_where_run, items_in, items_by, walked, walk_over, round_over, round}
use Rattle.od_matching.specs.Rounds.Sites.{Site, sites, rules_in}
use Rattle.od_matching.specs.Rounds.Standing.{standing, with_round, next_round, phase_at, met_in}
use Rattle.od_matching.specs.Rounds.States.{IsState, AreSentencesWith, sentences_with}

-- sentences on which a rule gives nothing may be left out
abbrev pub NothingOutside : Type 0
NothingOutside =
    (old : List Mention) (rule : ℕ × Rule) (keep : Site → Bool) → KeepsAll old rule keep
    → (ss : List Site) → items_over (filter keep ss) old rule ≡ items_over ss old rule

-- so a round over the sentences that are kept for each rule is the round over all
abbrev pub KeptIsRound : Type 0
KeptIsRound =
    (keep : Choice) (ss : List Site) (g : Grammar) (r : ℕ) (old : List Mention)
    → ((rule : ℕ × Rule) → KeepsAll (distinct old) rule (keep rule))
    → walk_over (distinct old) (items_kept keep ss g r (distinct old)) ≡ round_over ss g r old

-- over what is seen of segments that tile documents a round is that over the first of these documents
abbrev pub SeenIsRound : Type 0
SeenIsRound =
    (v : Seen) (docs : List Doc) (g : Grammar) (r : ℕ) (old : List Mention) → Tiles v.segments docs
    → round_over (sites_seen v) g r old ≡ round (take v.documents docs) g r old

-- a round that keeps every sentence opens each of them for each of its rules
abbrev pub AllAreOpened : Type 0
AllAreOpened =
    (ss : List Site) (g : Grammar) (r : ℕ)
    → openings (λ rule site. true) ss g r ≡ length (rules_in r g) * length ss

-- a term stands at a token exactly where its text is one that constraints of its field look at
abbrev pub TermsAreTexts : Type 0
TermsAreTexts =
    (s : Sentence) (k : ℕ) (token : Token) (field : Field) (text : List ℕ)
    → slice_get s.tokens k ≡ Some token
    → list_any (same_term (field, text)) (terms_at s (k, token))
    ≡ list_any (bytes_eq text) (texts_at s k field)

-- all rules of the file, each where its priority holds the round, give what those of the round give
abbrev pub RuleAfterRule : Type 0
RuleAfterRule =
    (ss : List Site) (g : Grammar) (r : ℕ) (old : List Mention)
    → flat_map (items_where_run r ss old) (enumerate_from 1 g.rules) ≡ items_in ss g r old

-- over documents and others after them a rule gives what it gives on the first and then on the others
abbrev pub ItemsJoin : Type 0
ItemsJoin =
    (docs more : List Doc) (old : List Mention) (rule : ℕ × Rule)
    → items_by (docs ++ more) old rule
    ≡ items_by docs old rule ++ items_over (map (later (length docs)) (sites more)) old rule

-- a sentence behind n documents has no mention of those that lie in them
abbrev pub LaterIsNew : Type 0
LaterIsNew =
    (n : ℕ) (site : Site) (old : List Mention) → Each (λ m. m.document + 1 ≤ n) old
    → known_at old (later n site) ≡ []

-- documents that are committed later leave a round over the first n untouched
abbrev pub LaterAddNothing : Type 0
LaterAddNothing =
    (n : ℕ) (docs more : List Doc) (g : Grammar) (r : ℕ) (old : List Mention) → n ≤ length docs
    → round (take n (docs ++ more)) g r old ≡ round (take n docs) g r old

-- the mentions that a round found are distinct
abbrev pub FoundAreDistinct : Type 0
FoundAreDistinct =
    (ss : List Site) (g : Grammar) (r : ℕ) (old new : List Mention)
    → round_over ss g r old ≡ Found new → distinct new ≡ new

-- and none of them was there
abbrev pub FoundAreNew : Type 0
FoundAreNew =
    (ss : List Site) (g : Grammar) (r : ℕ) (old new : List Mention)
    → round_over ss g r old ≡ Found new → Each (λ m. is_among old m ≡ false) new

-- the round after some lists asks only where these stand
abbrev pub RoundIsNext : Type 0
RoundIsNext =
    (ss : List Site) (g : Grammar) (lists : List (List Mention))
    → round_over ss g (length lists + 1) (joined lists) ≡ next_round ss g (standing lists)

-- a round takes where they stand one list further
abbrev pub StandingGoesOn : Type 0
StandingGoesOn =
    (ss : List Site) (g : Grammar) (lists : List (List Mention)) (new : List Mention)
    → next_round ss g (standing lists) ≡ Found new
    → standing (lists ++ new ∷ []) ≡ with_round (standing lists) new

-- and so does their phase
abbrev pub PhaseIsAt : Type 0
PhaseIsAt =
    (first limit : ℕ) (lists : List (List Mention))
    → phase first limit lists ≡ phase_at first limit (standing lists)

-- a mention that is met goes into the one state of those before and those found
abbrev pub MetInState : Type 0
MetInState =
    (mark : ℕ) (state : List Mention) (m : Mention) → mark ≤ length state
    → walked (take mark state) (Found (drop mark state)) (one m) ≡ met_in mark state m

-- a state with a mention more is a state
abbrev pub StatesGrow : Type 0
StatesGrow = (state : List Mention) (m : Mention) → IsState state → IsState (with_new state m)

-- and weighs one and its parts more, where the mention is new
abbrev pub WeightGrows : Type 0
WeightGrows =
    (state : List Mention) (m : Mention)
    → weight (with_new state m)
    ≡ (if is_among state m then weight state else weight state + (1 + length m.parts))

-- a label has one ascending list of the sentences with a mention of it at most
abbrev pub OneListOfSentences : Type 0
OneListOfSentences =
    (label : List ℕ) (ms : List Mention) (a b : List (ℕ × ℕ)) → AreSentencesWith label ms a
    → AreSentencesWith label ms b → a ≡ b

-- and one that is computed
abbrev pub SentencesAreComputed : Type 0
SentencesAreComputed =
    (label : List ℕ) (ms : List Mention) → AreSentencesWith label ms (sentences_with label ms)
