-- Patterns on short sentences, worked out.
use Rattle.std.proofs.Common.{◌≡◌, ℕ, List, [], ◌∷◌, refl, lit<, lit≤}
use Rattle.std.proofs.lemmas.List.Elements.{All-nil}
use Rattle.std.specs.Prelude.{Bool, true, false, codes, Some, None}
use denote.Hole.Carrier.{hidden}
use Rattle.od_matching.specs.Matching.Choice.{capture}
use Rattle.od_asked.specs.Holds.{holds}
use Rattle.od_matching.specs.Matching.Derives.{first}
use Rattle.od_matching.specs.Matching.Scan.{match_of, scan_from, scan_of}
use Rattle.od_document.specs.declared.token.Token.{Token}
use Rattle.od_document.specs.declared.sentence.Sentence.{Sentence}
use Rattle.od_extraction.specs.declared.mention.Labelled.{Labelled}
use Rattle.od_pattern.specs.declared.pattern.Field.TheVariants.{Norm, Tag}
use Rattle.od_pattern.specs.declared.pattern.Value.TheVariants.{Plain}
use Rattle.od_pattern.specs.declared.pattern.Constraint as constraint
use Rattle.od_pattern.specs.declared.pattern.Surface as surface
use Rattle.od_pattern.specs.declared.pattern.Surface.{Surface}
use Rattle.od_pattern.specs.declared.pattern.Surface.TheBlock.{hidden-the_row-Surface-0, hidden-the_row-Surface-1}
use Rattle.od_extraction.specs.declared.mention.Part.{Part}
use Rattle.od_extraction.specs.declared.mention.Match.{Match}

-- a token with a norm and a tag
abbrev word : List ℕ → List ℕ → Token
word norm tag = record { word = norm; norm = norm; lemma = None; upos = None; tag = Some tag; entity = None; chunk = None }

-- a sentence of three tokens without edges
abbrev three : Token → Token → Token → Sentence
three a b c = record { tokens = a ∷ b ∷ c ∷ []; edges = []; some = lit< tt; few = lit≤ tt; few_edges = lit≤ tt; ends = All-nil _; distinct = refl }

abbrev tagged : List ℕ → List ℕ → List ℕ → Sentence
tagged a b c = three (word (codes "w") a) (word (codes "w") b) (word (codes "w") c)

abbrev tag : List ℕ → Surface
tag text = surface.Token (constraint.Is Tag (Plain text))

-- a repeat without a most
abbrev endless : ℕ → Bool → Surface → Surface
endless least lazy p = surface.Repeat p (record { least = least; most = None; lazy = lazy })

-- as few tokens as possible
abbrev any_lazy : Surface
any_lazy = endless 0 true (surface.Token constraint.Any)

abbrev match : ℕ → ℕ → List Part → Match
match i j captures = match_of i j captures

abbrev x_at : ℕ → ℕ → List Part
x_at i j = capture (codes "x") i j ∷ []

-- `[]*? (?<x>[tag=NN]+)` on NN NN NN
greedy_capture : scan_of (surface.Seq (any_lazy ∷ surface.Capture (codes "x") (endless 1 false (tag (codes "NN"))) ∷ [])) (tagged (codes "NN") (codes "NN") (codes "NN")) []
    ≡ match 0 3 (x_at 0 3) ∷ []
unfolding scan_of scan_from first holds hidden hidden-the_row-Surface-0 hidden-the_row-Surface-1
greedy_capture = refl

-- `[]*? (?<x>[tag=NN]+?)` on NN NN NN
lazy_capture : scan_of (surface.Seq (any_lazy ∷ surface.Capture (codes "x") (endless 1 true (tag (codes "NN"))) ∷ [])) (tagged (codes "NN") (codes "NN") (codes "NN")) []
    ≡ match 0 1 (x_at 0 1) ∷ match 1 2 (x_at 1 2) ∷ match 2 3 (x_at 2 3) ∷ []
unfolding scan_of scan_from first holds hidden hidden-the_row-Surface-0 hidden-the_row-Surface-1
lazy_capture = refl

-- `[]*? [tag=VB]` on NN NN VB
up_to_tag : scan_of (surface.Seq (any_lazy ∷ tag (codes "VB") ∷ [])) (tagged (codes "NN") (codes "NN") (codes "VB")) [] ≡ match 0 3 [] ∷ []
unfolding scan_of scan_from first holds hidden hidden-the_row-Surface-0 hidden-the_row-Surface-1
up_to_tag = refl

abbrev plain : List ℕ → Surface
plain text = surface.Token (constraint.Is Norm (Plain text))

abbrev up_to : ℕ → Bool → Surface → Surface
up_to most lazy p = surface.Repeat p (record { least = 0; most = Some most; lazy = lazy })

abbrev a_a_b : Sentence
a_a_b = three (word (codes "a") (codes "NN")) (word (codes "a") (codes "NN")) (word (codes "b") (codes "NN"))

-- `(a?){0,3}` on a a b: a further turn takes a token
further_turns : scan_of (up_to 3 false (up_to 1 false (plain (codes "a")))) a_a_b [] ≡ match 0 2 [] ∷ []
unfolding scan_of scan_from first holds hidden hidden-the_row-Surface-0 hidden-the_row-Surface-1
further_turns = refl

-- `(a??){0,3}` on a a b: where the turn's own preferred way takes nothing, the other one is taken
lazy_turns : scan_of (up_to 3 false (up_to 1 true (plain (codes "a")))) a_a_b [] ≡ match 0 2 [] ∷ []
unfolding scan_of scan_from first holds hidden hidden-the_row-Surface-0 hidden-the_row-Surface-1
lazy_turns = refl

-- `a??` on a a b: the best way takes nothing, and so is no match
lazy_option : scan_of (up_to 1 true (plain (codes "a"))) a_a_b [] ≡ []
unfolding scan_of scan_from first holds hidden hidden-the_row-Surface-0 hidden-the_row-Surface-1
lazy_option = refl

-- `a?? | b` on a a b has no match, and `b | a??` has b
first_part_empty : scan_of (surface.Alt (up_to 1 true (plain (codes "a")) ∷ plain (codes "b") ∷ [])) a_a_b [] ≡ []
unfolding scan_of scan_from first holds hidden hidden-the_row-Surface-0 hidden-the_row-Surface-1
first_part_empty = refl

last_part_empty : scan_of (surface.Alt (plain (codes "b") ∷ up_to 1 true (plain (codes "a")) ∷ [])) a_a_b [] ≡ match 2 3 [] ∷ []
unfolding scan_of scan_from first holds hidden hidden-the_row-Surface-0 hidden-the_row-Surface-1
last_part_empty = refl

-- a capture in a repeat stands once for each turn, and an outer one before those inside it
one_each_turn : scan_of (surface.Capture (codes "x") (endless 1 false (surface.Capture (codes "y") (plain (codes "a"))))) a_a_b []
    ≡ match 0 2 (capture (codes "x") 0 2 ∷ capture (codes "y") 0 1 ∷ capture (codes "y") 1 2 ∷ []) ∷ []
unfolding scan_of scan_from first holds hidden hidden-the_row-Surface-0 hidden-the_row-Surface-1
one_each_turn = refl

abbrev span_of : List ℕ → ℕ → ℕ → Labelled
span_of label start end = record { label = label; span = record { start = start; end = end } }

-- `@L` takes the longest span with the label, whatever was added first
longest_span : scan_of (surface.Label (codes "L")) a_a_b (span_of (codes "L") 0 1 ∷ span_of (codes "L") 0 2 ∷ span_of (codes "M") 0 3 ∷ []) ≡ match 0 2 [] ∷ []
unfolding scan_of scan_from first holds hidden hidden-the_row-Surface-0 hidden-the_row-Surface-1
longest_span = refl

-- NN NN VB
abbrev n_n_v : Sentence
n_n_v = tagged (codes "NN") (codes "NN") (codes "VB")

abbrev look : Bool → Bool → List ℕ → Surface
look ahead positive text = surface.Look ahead positive (constraint.Is Tag (Plain text))

abbrev any : Surface
any = surface.Token constraint.Any

-- `[] (?=[tag=VB])`
before_a_verb : scan_of (surface.Seq (any ∷ look true true (codes "VB") ∷ [])) n_n_v [] ≡ match 1 2 [] ∷ []
unfolding scan_of scan_from first holds hidden hidden-the_row-Surface-0 hidden-the_row-Surface-1
before_a_verb = refl

-- `[] (?![tag=NN])`: behind the last token there is none, so the negative form holds there
before_no_noun : scan_of (surface.Seq (any ∷ look true false (codes "NN") ∷ [])) n_n_v [] ≡ match 1 2 [] ∷ match 2 3 [] ∷ []
unfolding scan_of scan_from first holds hidden hidden-the_row-Surface-0 hidden-the_row-Surface-1
before_no_noun = refl

-- `(?<=[tag=NN]) []`
behind_a_noun : scan_of (surface.Seq (look false true (codes "NN") ∷ any ∷ [])) n_n_v [] ≡ match 1 2 [] ∷ match 2 3 [] ∷ []
unfolding scan_of scan_from first holds hidden hidden-the_row-Surface-0 hidden-the_row-Surface-1
behind_a_noun = refl

-- `(?<![tag=NN]) []`: before the first token there is none
behind_no_noun : scan_of (surface.Seq (look false false (codes "NN") ∷ any ∷ [])) n_n_v [] ≡ match 0 1 [] ∷ []
unfolding scan_of scan_from first holds hidden hidden-the_row-Surface-0 hidden-the_row-Surface-1
behind_no_noun = refl

-- `^ []` and `[] $`
at_the_beginning : scan_of (surface.Seq (surface.First ∷ any ∷ [])) n_n_v [] ≡ match 0 1 [] ∷ []
unfolding scan_of scan_from first holds hidden hidden-the_row-Surface-0 hidden-the_row-Surface-1
at_the_beginning = refl

at_the_end : scan_of (surface.Seq (any ∷ surface.Last ∷ [])) n_n_v [] ≡ match 2 3 [] ∷ []
unfolding scan_of scan_from first holds hidden hidden-the_row-Surface-0 hidden-the_row-Surface-1
at_the_end = refl
