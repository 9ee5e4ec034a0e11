-- Rounds over short documents, worked out.
use Rattle.std.proofs.Common.{◌≡◌, ℕ, ◌<◌, ◌≤◌, List, [], ◌∷◌, length, refl, lit<, lit≤}
use Rattle.std.proofs.lemmas.List.Elements.{All-nil}
use Rattle.std.specs.Prelude.{false, codes, Some, None}
use denote.Hole.Carrier.{hidden}
use Rattle.od_document.specs.Size.{size_in_parts}
use Rattle.od_matching.specs.Matching.Derives.{first}
use Rattle.od_asked.specs.Holds.{holds}
use Rattle.od_extraction.specs.Mentions.{same_mention}
use Rattle.od_matching.specs.Matching.Rules.{rule_mentions}
use Rattle.od_matching.specs.Matching.Scan.{scan_from, scan_of}
use Rattle.od_matching.specs.Rounds.Round.{round_over, rounds}
use Rattle.od_matching.specs.Rounds.Phases.{phase, greatest_first}
use Rattle.od_document.specs.declared.token.Token.{Token}
use Rattle.od_document.specs.declared.sentence.Sentence.{Sentence}
use Rattle.od_document.specs.declared.doc.Doc.{Doc}
use Rattle.od_extraction.specs.declared.mention.Mention.{Mention}
use Rattle.od_extraction.specs.declared.phase.Phase.{Phase}
use Rattle.od_extraction.specs.declared.phase.Phase.TheVariants.{Going, Finished, AtLimit}
use Rattle.od_pattern.specs.declared.grammar.Grammar.{Grammar}
use Rattle.od_pattern.specs.declared.grammar.GrammarKind.TheVariants.{RuleFile}
use Rattle.od_pattern.specs.declared.pattern.Field.{Field}
use Rattle.od_pattern.specs.declared.pattern.Field.TheVariants.{Word, Norm, Lemma, Tag}
use Rattle.od_pattern.specs.declared.pattern.Value.TheVariants.{Plain}
use Rattle.od_pattern.specs.declared.pattern.Constraint as constraint
use Rattle.od_pattern.specs.declared.pattern.Constraint.TheBlock.{hidden-the_row-Constraint-0}
use Rattle.od_pattern.specs.declared.pattern.Surface as surface
use Rattle.od_pattern.specs.declared.pattern.Surface.{Surface}
use Rattle.od_pattern.specs.declared.pattern.Surface.TheBlock.{hidden-the_row-Surface-0, hidden-the_row-Surface-1}
use Rattle.od_pattern.specs.declared.rule.Priority.{Priority}
use Rattle.od_pattern.specs.declared.rule.Rule.{Rule}
use Rattle.od_pattern.specs.declared.rule.Body.TheVariants as body

-- a token with its norm, lemma and tag
abbrev word : List ℕ → List ℕ → List ℕ → List ℕ → Token
word form norm lemma tag = record { word = form; norm = norm; lemma = Some lemma; upos = None; tag = Some tag; entity = None; chunk = None }

-- a sentence without edges
abbrev sentence : (tokens : List Token) → 0 < length tokens → length tokens ≤ 2000 → Sentence
sentence tokens some few = record { tokens = tokens; edges = []; some = some; few = few; few_edges = lit≤ tt; ends = All-nil _; distinct = refl }

-- a document of one sentence
abbrev document : List ℕ → (s : Sentence) → size_in_parts (s ∷ []) ≤ 100 → Doc
document name s weight = record { name = name; size = 100; sentences = s ∷ []; some = lit< tt; small = lit≤ tt; parts = weight }

abbrev is : Field → List ℕ → Surface
is field text = surface.Token (constraint.Is field (Plain text))

abbrev rule : List ℕ → List ℕ → Priority → Surface → Rule
rule name label priority pattern = record { name = name; label = label; priority = priority; body = body.Basic (record { first = pattern; rest = [] }) }

-- in this round and later
abbrev from : ℕ → Priority
from r = record { first = r; last = None }

-- in this round alone
abbrev only : ℕ → Priority
only r = record { first = r; last = Some r }

abbrev grammar : List Rule → Grammar
grammar rules = record { kind = RuleFile; text = []; rules = rules }

abbrev mention : ℕ → ℕ → ℕ → List ℕ → List ℕ → Mention
mention document start end label rule = record { document = document; sentence = 0; start = start; end = end; label = label; rule = rule; parts = [] }

-- the phase of a session with these rules, after these rounds
abbrev phase_of : List Rule → ℕ → List (List Mention) → Phase
phase_of rules limit lists = phase (greatest_first rules) limit lists

-- ## A rule that begins in the second round

-- the document of one word
abbrev bark : Doc
bark = document (codes "d") (sentence (word (codes "bark") (codes "bark") (codes "bark") (codes "VBP") ∷ []) (lit< tt) (lit≤ tt)) (lit≤ tt)

abbrev late : List Rule
late = rule (codes "late") (codes "Bark") (from 2) (is Lemma (codes "bark")) ∷ []

abbrev barks : Mention
barks = mention 0 0 1 (codes "Bark") (codes "late")

late_rounds : rounds (bark ∷ []) (grammar late) 3 ≡ Some ([] ∷ (barks ∷ []) ∷ [] ∷ [])
unfolding rounds round_over rule_mentions same_mention scan_of scan_from first holds hidden hidden-the_row-Surface-0 hidden-the_row-Surface-1
late_rounds = refl

-- an empty round ends nothing before every rule has begun
after_1 : phase_of late 5 ([] ∷ []) ≡ Going
unfolding phase
after_1 = refl

after_2 : phase_of late 5 ([] ∷ (barks ∷ []) ∷ []) ≡ Going
unfolding phase
after_2 = refl

after_3 : phase_of late 5 ([] ∷ (barks ∷ []) ∷ [] ∷ []) ≡ Finished
unfolding phase
after_3 = refl

-- ## Rules that find one another's mentions

-- `a x x x x x`, each x with the tag X
abbrev x : Token
x = word (codes "x") (codes "x") (codes "x") (codes "X")

abbrev row : Doc
row = document (codes "d") (sentence (word (codes "a") (codes "a") (codes "a") (codes "A") ∷ x ∷ x ∷ x ∷ x ∷ x ∷ []) (lit< tt) (lit≤ tt)) (lit≤ tt)

-- `@LABEL [tag=X]`
abbrev one_x_more : List ℕ → Surface
one_x_more label = surface.Seq (surface.Label label ∷ is Tag (codes "X") ∷ [])

abbrev growing : List Rule
growing =
    rule (codes "base") (codes "A") (only 1) (is Word (codes "a")) ∷
    rule (codes "up") (codes "B") (from 1) (one_x_more (codes "A")) ∷
    rule (codes "down") (codes "A") (from 1) (one_x_more (codes "B")) ∷ []

abbrev grown : List (List Mention)
grown = (mention 0 0 1 (codes "A") (codes "base") ∷ []) ∷ (mention 0 0 2 (codes "B") (codes "up") ∷ []) ∷ (mention 0 0 3 (codes "A") (codes "down") ∷ []) ∷ []

-- a round looks at the mentions that stood at its start, and not at its own
grows_by_rounds : rounds (row ∷ []) (grammar growing) 3 ≡ Some grown
unfolding rounds round_over rule_mentions same_mention scan_of scan_from first holds hidden hidden-the_row-Surface-0 hidden-the_row-Surface-1
grows_by_rounds = refl

ends_at_the_limit : phase_of growing 3 grown ≡ AtLimit
unfolding phase
ends_at_the_limit = refl

-- ## The order of a round

-- `The dog barks`
abbrev dog : Doc
dog = document (codes "d1") (sentence (
    word (codes "The") (codes "the") (codes "the") (codes "DT") ∷ word (codes "dog") (codes "dog") (codes "dog") (codes "NN") ∷
    word (codes "barks") (codes "barks") (codes "bark") (codes "VBZ") ∷ []) (lit< tt) (lit≤ tt)) (lit≤ tt)

-- `Zebras bark`
abbrev zebras : Doc
zebras = document (codes "d2") (sentence (
    word (codes "Zebras") (codes "zebras") (codes "zebra") (codes "NNS") ∷ word (codes "bark") (codes "bark") (codes "bark") (codes "VBP") ∷ []) (lit< tt) (lit≤ tt)) (lit≤ tt)

-- `[!word=dog]`, `[tag=DT]? [lemma=bark]`, `[norm=zebras]`
abbrev three_rules : List Rule
three_rules =
    rule (codes "other") (codes "Other") (from 1) (surface.Token (constraint.Not (constraint.Is Word (Plain (codes "dog"))))) ∷
    rule (codes "bark") (codes "Bark") (from 1) (surface.Seq (surface.Repeat (is Tag (codes "DT")) (record { least = 0; most = Some 1; lazy = false }) ∷ is Lemma (codes "bark") ∷ [])) ∷
    rule (codes "zebra") (codes "Zebra") (from 1) (is Norm (codes "zebras")) ∷ []

-- rule by rule, and for each of them sentence by sentence; the same span by two rules is two mentions
rule_by_rule : rounds (dog ∷ zebras ∷ []) (grammar three_rules) 2 ≡ Some (
    (mention 0 0 1 (codes "Other") (codes "other") ∷ mention 0 2 3 (codes "Other") (codes "other") ∷
    mention 1 0 1 (codes "Other") (codes "other") ∷ mention 1 1 2 (codes "Other") (codes "other") ∷
    mention 0 2 3 (codes "Bark") (codes "bark") ∷ mention 1 1 2 (codes "Bark") (codes "bark") ∷
    mention 1 0 1 (codes "Zebra") (codes "zebra") ∷ []) ∷ [] ∷ [])
unfolding rounds round_over rule_mentions same_mention scan_of scan_from first holds hidden hidden-the_row-Surface-0 hidden-the_row-Surface-1 hidden-the_row-Constraint-0
rule_by_rule = refl
