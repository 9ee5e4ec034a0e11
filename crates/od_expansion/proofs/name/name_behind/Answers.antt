use Rattle.std.proofs.Common.{◌≡◌, ◌∙◌, ◌∷◌, ap, arith}
use Rattle.std.specs.List.{prefix_len}
use Rattle.std.proofs.lemmas.Str.Pattern.{strip_prefix_char}
use Rattle.od_language.specs.Identifier.{in_identifier}
use Rattle.od_expansion.proofs.Names.{name_boundary}
use Rattle.od_expansion.proofs.Pieces.{unopened, unclosed}
use Rattle.od_expansion.proofs.name.name_behind.Goals as goal

pub returns-in_default : goal.returns-in_default
returns-in_default c = unopened c.args.text.now (rw c.in_default.is at (strip_prefix_char 123 c.args.text.now c.strip_prefix.result c.strip_prefix.ensures.cases (omega arith)))

pub split-requires : goal.split-requires
split-requires c = rw (c.name_length.ensures, c.as_bytes.ensures.value) (name_boundary c.in-Some.inner.now (rw c.as_bytes.ensures.value at c.as_bytes.ensures.utf8))

pub returns-in_default-strip_prefix : goal.returns-in_default-strip_prefix
returns-in_default-strip_prefix c =
    let opened : c.args.text.now ≡ 123 ∷ c.in-Some.inner.now = rw c.in-Some.is at (strip_prefix_char 123 c.args.text.now c.strip_prefix.result c.strip_prefix.ensures.cases (omega arith)) in
    unclosed c.args.text.now c.in-Some.inner.now c.split.result.0.now c.split.result.1.now c.name_length.result opened (c.name_length.ensures ∙ ap (prefix_len in_identifier) c.as_bytes.ensures.value) c.split.ensures.front c.split.ensures.rest
    (rw c.in_default-strip_prefix.is at (strip_prefix_char 125 c.split.result.1.now c.strip_prefix-2.result c.strip_prefix-2.ensures.cases (omega arith)))
