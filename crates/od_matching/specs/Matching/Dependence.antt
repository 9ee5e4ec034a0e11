-- On what the findings of a pattern, a path and a rule depend:
-- on what it asks, and on the labels that it names.
use Rattle.std.specs.Prelude.{◌≡◌, ℕ, List, length, map}
use Rattle.od_text.specs.Lists.{Each}
use Rattle.od_asked.specs.Asked.{Asked, asked_surface, asked_path, asked_rule}
use Rattle.od_asked.specs.Named.{named_surface, named_rule}
use Rattle.od_asked.specs.Tables.{columns_of}
use Rattle.od_matching.specs.Matching.Reach.{Set, reached}
use Rattle.od_matching.specs.Matching.Rules.{labelled, rule_mentions}
use Rattle.od_matching.specs.Matching.Scan.{is_span_in, scan_of}
use Rattle.od_document.specs.declared.token.Edge.{Edge}
use Rattle.od_document.specs.declared.sentence.Sentence.{Sentence}
use Rattle.od_extraction.specs.declared.mention.Labelled.{Labelled}
use Rattle.od_extraction.specs.declared.mention.Mention.{Mention}
use Rattle.od_pattern.specs.declared.path.Path.{Path}
use Rattle.od_pattern.specs.declared.pattern.Surface.{Surface}
use Rattle.od_pattern.specs.declared.rule.Rule.{Rule}

-- the governor and the dependent of an edge
abbrev pub ends_of : Edge → ℕ × ℕ
ends_of edge = (edge.governor, edge.dependent)

-- two sentences have as many tokens, and the same truths of what is asked
pub record AnswerAlike (asked : List Asked) (s s' : Sentence) : Type 0 where
  pub tokens : length s.tokens ≡ length s'.tokens
  pub truths : columns_of s asked ≡ columns_of s' asked

-- their edges lie between the same tokens, in the same order
abbrev pub LinkAlike : Sentence → Sentence → Type 0
LinkAlike s s' = map ends_of s.edges ≡ map ends_of s'.edges

-- the same spans have the label
abbrev pub SameSpansOf : List Labelled → List Labelled → List ℕ → Type 0
SameSpansOf m m' label = (i j : ℕ) → is_span_in m label i j ≡ is_span_in m' label i j

-- the same spans have each of the labels
abbrev pub LabelAlike : List (List ℕ) → List Labelled → List Labelled → Type 0
LabelAlike named m m' = Each (SameSpansOf m m') named

-- a pattern has the same matches where the answers to what it asks are the same,
-- and the spans with the labels that it names
abbrev pub ScanDependsOnAsked : Type 0
ScanDependsOnAsked =
    (p : Surface) (s s' : Sentence) (m m' : List Labelled)
    → AnswerAlike (asked_surface p) s s' → LabelAlike (named_surface p) m m'
    → scan_of p s m ≡ scan_of p s' m'

-- a path leads to the same tokens where the answers to what it asks are the same,
-- over edges between the same tokens
abbrev pub ReachDependsOnAsked : Type 0
ReachDependsOnAsked =
    (p : Path) (s s' : Sentence) (marked : Set) (b : ℕ)
    → AnswerAlike (asked_path p) s s' → LinkAlike s s' → reached s p marked b ≡ reached s' p marked b

-- two states have the same spans with each of the labels
abbrev pub StatesAlike : List (List ℕ) → List Mention → List Mention → Type 0
StatesAlike named state state' = LabelAlike named (map labelled state) (map labelled state')

-- a rule has the same outcome in both cases, whatever else the sentences and the states have
abbrev pub RuleDependsOnAsked : Type 0
RuleDependsOnAsked =
    (r : Rule) (d k : ℕ) (s s' : Sentence) (state state' : List Mention)
    → AnswerAlike (asked_rule r) s s' → LinkAlike s s' → StatesAlike (named_rule r) state state'
    → rule_mentions r d k s state ≡ rule_mentions r d k s' state'

-- so on one sentence the outcome depends on the state only through the labels that the rule names
abbrev pub StateOnlyByLabels : Type 0
StateOnlyByLabels =
    (r : Rule) (d k : ℕ) (s : Sentence) (state state' : List Mention)
    → StatesAlike (named_rule r) state state' → rule_mentions r d k s state ≡ rule_mentions r d k s state'
