-- When two mentions are the same, and lists of them without repeats.
use Rattle.std.specs.Prelude.{ℕ, Bool, true, false, ◌&&◌, ◌==◌, if◌then◌else◌, List, [], ◌∷◌, ◌++◌, fold, Option, Some, None, bytes_eq}
use Rattle.std.specs.List.{list_any}
use Rattle.std.specs.Cmp.Lexicographic.{pointwise}
use Rattle.od_extraction.specs.declared.mention.Mention.{Mention}
use Rattle.od_extraction.specs.declared.mention.Part.{Part}

-- both absent, or the same text
abbrev pub same_text_or_none : Option (List ℕ) → Option (List ℕ) → Bool
same_text_or_none None None = true
same_text_or_none None (Some b) = false
same_text_or_none (Some a) None = false
same_text_or_none (Some a) (Some b) = bytes_eq a b

-- the same name, label and span
abbrev pub same_part : Part → Part → Bool
same_part a b = bytes_eq a.name b.name && (same_text_or_none a.label b.label && (a.start == b.start && a.end == b.end))

-- the same document, sentence, span, label, rule and parts
unfoldable pub same_mention : Mention → Mention → Bool
same_mention a b =
    a.document == b.document && (a.sentence == b.sentence && (a.start == b.start && (a.end == b.end
    && (bytes_eq a.label b.label && (bytes_eq a.rule b.rule && pointwise same_part a.parts b.parts)))))

-- one of the list is the same
abbrev pub is_among : List Mention → Mention → Bool
is_among seen m = list_any (same_mention m) seen

-- the list, with the mention at its end where it is not among them
abbrev pub with_new : List Mention → Mention → List Mention
with_new seen m = if is_among seen m then seen else seen ++ m ∷ []

-- the list without repeats, the first of each kept
abbrev pub distinct : List Mention → List Mention
distinct ms = fold with_new [] ms
