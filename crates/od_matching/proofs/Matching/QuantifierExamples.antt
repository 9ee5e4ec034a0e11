-- Each quantifier of an argument, with and without candidates, and counts past a small limit, worked out.
use Rattle.std.proofs.Common.{◌≡◌, ℕ, List, [], ◌∷◌, refl, lit<, lit≤}
use Rattle.std.proofs.lemmas.List.Elements.{All-from_recursion}
use Rattle.std.specs.List.{AllByRecursion}
use Rattle.std.specs.Prelude.{◌<◌, codes, Option, Some, None}
use Rattle.od_asked.specs.Holds.{holds}
use Rattle.od_document.specs.Edges.{EndsWithin}
use Rattle.od_document.specs.declared.sentence.Sentence.{Sentence}
use Rattle.od_document.specs.declared.token.Edge.{Edge}
use Rattle.od_document.specs.declared.token.Token.{Token}
use Rattle.od_extraction.specs.declared.mention.Part.{Part}
use Rattle.od_extraction.specs.declared.mention.Span.{Span}
use Rattle.od_matching.specs.Matching.Candidates.{span, options_of}
use Rattle.od_matching.specs.Matching.Derives.{first}
use Rattle.od_matching.specs.Matching.Events.{Running, over, product, counted_with, event_count}
use Rattle.od_matching.specs.Matching.Hops.{hop_lists, hop_count}
use Rattle.od_matching.specs.Matching.Reach.{reached}
use Rattle.od_matching.specs.Matching.Scan.{scan_from, scan_of}
use Rattle.od_pattern.specs.declared.path.Path as path
use Rattle.od_pattern.specs.declared.path.Path.{Path}
use Rattle.od_pattern.specs.declared.pattern.Constraint as constraint
use Rattle.od_pattern.specs.declared.pattern.Field.TheVariants.{Norm}
use Rattle.od_pattern.specs.declared.pattern.Surface as surface
use Rattle.od_pattern.specs.declared.pattern.Surface.{Surface}
use Rattle.od_pattern.specs.declared.pattern.Value.TheVariants.{Plain}
use Rattle.od_pattern.specs.declared.rule.Argument.{Argument}
use Rattle.od_pattern.specs.declared.rule.EventRule.{EventRule}
use Rattle.od_pattern.specs.declared.rule.Hop.{Hop}
use Rattle.od_pattern.specs.declared.rule.HopPart.{HopPart}
use Rattle.od_pattern.specs.declared.rule.Many.{Many}
use Rattle.od_pattern.specs.declared.rule.Many.TheVariants.{One, Optional, All, AllOne}

-- ## Options

-- an argument over the edges from the trigger
abbrev argument : List ℕ → Many → List ℕ → Argument
argument name many label = record { name = name; label = None; many = many; path = path.Along (Some (Plain label)) }

abbrev x : Many → Argument
x many = argument (codes "x") many (codes "dep")

-- two candidates
abbrev two : List Span
two = span 1 2 ∷ span 4 5 ∷ []

-- the argument at one of them
abbrev part : ℕ → ℕ → Part
part start end = record { name = codes "x"; label = None; start = start; end = end }

-- the options without candidates, and with two
abbrev options : Many → List Span → List (List Part)
options many found = options_of many (x many) found

one_without : options One [] ≡ []
one_without = refl

one_with : options One two ≡ (part 1 2 ∷ []) ∷ (part 4 5 ∷ []) ∷ []
one_with = refl

optional_without : options Optional [] ≡ [] ∷ []
optional_without = refl

optional_with : options Optional two ≡ (part 1 2 ∷ []) ∷ (part 4 5 ∷ []) ∷ []
optional_with = refl

all_without : options All [] ≡ [] ∷ []
all_without = refl

all_with : options All two ≡ (part 1 2 ∷ part 4 5 ∷ []) ∷ []
all_with = refl

all_one_without : options AllOne [] ≡ []
all_one_without = refl

all_one_with : options AllOne two ≡ (part 1 2 ∷ part 4 5 ∷ []) ∷ []
all_one_with = refl

-- ## Counts of one match of a trigger

-- with two candidates for one argument and three for another
abbrev three : List Span
three = span 0 1 ∷ span 1 2 ∷ span 2 3 ∷ []

-- the count, after ten mentions and where so many are allowed, of two arguments with these quantifiers
abbrev after_ten : ℕ → Many → List Span → Many → List Span → Running
after_ten most many found other others = counted_with most 10 (x many ∷ x other ∷ []) (found ∷ others ∷ [])

-- two of one by three of the other are six
one_by_one : after_ten 16 One two One three ≡ product 6
one_by_one = refl

one_too_many : after_ten 15 One two One three ≡ over 16
one_too_many = refl

-- the first number is told that is too great: before any argument, and after the first one
before_the_first : after_ten 10 One two One three ≡ over 11
before_the_first = refl

after_the_first : after_ten 11 One two One three ≡ over 12
after_the_first = refl

-- one that may be absent counts once where it is, and all together count once
optional_absent : after_ten 12 One two Optional [] ≡ product 2
optional_absent = refl

optional_there : after_ten 16 One two Optional three ≡ product 6
optional_there = refl

all_together : after_ten 12 One two All three ≡ product 2
all_together = refl

all_of_none : after_ten 12 One two All [] ≡ product 2
all_of_none = refl

-- where an argument that must be there has no candidate nothing is counted, whatever the others have
nothing_for_one : after_ten 10 One two One [] ≡ product 0
nothing_for_one = refl

nothing_for_all_one : after_ten 10 AllOne [] One three ≡ product 0
nothing_for_all_one = refl

-- ## Counts in a sentence

abbrev word : List ℕ → Token
word text = record { word = text; norm = text; lemma = None; upos = None; tag = None; entity = None; chunk = None }

abbrev edge : ℕ → ℕ → Edge
edge dependent governor = record { governor = governor; dependent = dependent; label = codes "dep" }

-- `a a b b b`: the two first words govern the three last ones, each of them all
abbrev edges : List Edge
edges = edge 2 0 ∷ edge 2 1 ∷ edge 3 0 ∷ edge 3 1 ∷ edge 4 0 ∷ edge 4 1 ∷ []

within : AllByRecursion (λ e. (e.governor < 5) × (e.dependent < 5)) edges → EndsWithin 5 edges
within h = All-from_recursion (λ e. (e.governor < 5) × (e.dependent < 5)) edges h

abbrev two_by_three : Sentence
two_by_three = record {
  tokens = word (codes "a") ∷ word (codes "a") ∷ word (codes "b") ∷ word (codes "b") ∷ word (codes "b") ∷ [];
  edges = edges;
  some = lit< tt;
  few = lit≤ tt;
  few_edges = lit≤ tt;
  ends = within ((lit< tt, lit< tt), ((lit< tt, lit< tt), ((lit< tt, lit< tt), ((lit< tt, lit< tt), ((lit< tt, lit< tt), ((lit< tt, lit< tt), tt))))));
  distinct = refl;
}

abbrev norm : List ℕ → Surface
norm text = surface.Token (constraint.Is Norm (Plain text))

abbrev part_of : Path → List ℕ → HopPart
part_of p text = record { path = p; surface = norm text }

-- `a >> b`
abbrev down : Hop
down = record { first = norm (codes "a"); rest = part_of (path.Along None) (codes "b") ∷ [] }

-- `a >> b << a`: back to each of the two
abbrev down_and_up : Hop
down_and_up = record { first = norm (codes "a"); rest = part_of (path.Along None) (codes "b") ∷ part_of (path.Against None) (codes "a") ∷ [] }

-- `a >> b >> a`: nothing depends on the last words
abbrev down_and_down : Hop
down_and_down = record { first = norm (codes "a"); rest = part_of (path.Along None) (codes "b") ∷ part_of (path.Along None) (codes "a") ∷ [] }

-- the counts of a hop, where so many are allowed
abbrev hops : ℕ → Hop → Option ℕ
hops most h = hop_count most (hop_lists h two_by_three [])

-- six pairs: the first list is not counted, and the lists count with repeats
down_fits : hops 6 down ≡ None
unfolding scan_of scan_from first holds reached
down_fits = refl

down_passes : hops 5 down ≡ Some 6
unfolding scan_of scan_from first holds reached
down_passes = refl

-- the first list that is too long is told, and not the longest
first_length : hops 5 down_and_up ≡ Some 6
unfolding scan_of scan_from first holds reached
first_length = refl

later_length : hops 11 down_and_up ≡ Some 12
unfolding scan_of scan_from first holds reached
later_length = refl

both_fit : hops 12 down_and_up ≡ None
unfolding scan_of scan_from first holds reached
both_fit = refl

-- where nothing is found in the end there is no count
last_is_empty : hops 1 down_and_down ≡ None
unfolding scan_of scan_from first holds reached
last_is_empty = refl

-- `trigger = a`, `x = >dep`: three mentions for each of two matches
abbrev one_of_each : EventRule
one_of_each = record { trigger = norm (codes "a"); arguments = x One ∷ [] }

event_fits : event_count 6 one_of_each two_by_three [] ≡ None
unfolding scan_of scan_from first holds reached
event_fits = refl

event_passes : event_count 5 one_of_each two_by_three [] ≡ Some 6
unfolding scan_of scan_from first holds reached
event_passes = refl

-- within the first match, and with the first number of the second one
event_passes_early : event_count 2 one_of_each two_by_three [] ≡ Some 3
unfolding scan_of scan_from first holds reached
event_passes_early = refl

event_passes_at_one : event_count 3 one_of_each two_by_three [] ≡ Some 4
unfolding scan_of scan_from first holds reached
event_passes_at_one = refl
