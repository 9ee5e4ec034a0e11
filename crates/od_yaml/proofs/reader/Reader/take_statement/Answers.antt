use Rattle.std.proofs.Common.{◌≡◌, ◌∙◌, sym, ap, ap₂, subst, arith, drop, List, ℕ, Result}
use Rattle.std.specs.Prelude.{◌==◌, IfErr}
use Rattle.std.specs.Option.{option_map}
use Rattle.std.proofs.lemmas.List.Sums.{prefix_len-le-length}
use Rattle.std.specs.Str.Lines.{lines}
use Rattle.od_rule_text.specs.declared.rule_file.YamlKind.{YamlKind}
use Rattle.od_rule_text.specs.Blanks.{indentation}
use Rattle.od_rule_text.specs.RuleFiles.{Outline, heading}
use Rattle.od_yaml.specs.Below.{IsBelow}
use Rattle.od_yaml.specs.Readers.{IsFaultAt}
use Rattle.od_yaml.specs.Sections.{section_shown, role_shown}
use Rattle.od_yaml.proofs.Blanks.{boundary_prefix, space_ascii}
use Rattle.od_yaml.proofs.Steps.{entry_step, heading_below}
use Rattle.od_yaml.proofs.reader.Reader.take_statement.Goals as goal

pub text_from-text-requires : goal.text_from-text-requires
text_from-text-requires c = rw (c.indentation-column.ensures, c.as_bytes.ensures.value) (boundary_prefix (λ c. c == 32) space_ascii c.args.line.now c.utf8.line)

pub take_entry-requires-clause-near : goal.take_entry-requires-clause-near
take_entry-requires-clause-near c =
    let column : c.indentation-column.result ≡ indentation c.args.line.now = c.indentation-column.ensures ∙ ap indentation c.as_bytes.ensures.value in
    omega (arith, prefix_len-le-length (λ c. c == 32) c.args.line.now, c.requires.near)

pub returns-in-Some-role-clause-fault : goal.returns-in-Some-role-clause-fault
returns-in-Some-role-clause-fault c =
    let column : c.indentation-column.result ≡ indentation c.args.line.now = c.indentation-column.ensures ∙ ap indentation c.as_bytes.ensures.value in
    let other = c.heading.ensures ∙ ap (option_map section_shown) c.in_default-heading.is in
    let role = c.role.ensures ∙ ap (option_map role_shown) c.in-Some-role.is in
    let step = entry_step c.args.self.now c.args.number c.indentation-column.result c.args.line.now c.text_from-text.result.now (lines c.args.more.now) (role_shown c.in-Some-role.role) column c.text_from-text.ensures (sym c.misplaced.ensures ∙ c.in_default.is) other role in
    subst (λ (read : Result Outline YamlKind). IfErr c.take_entry.result (IsFaultAt c.args.number read)) (sym step) c.take_entry.ensures.fault

pub returns-in-Ok-clause-below : goal.returns-in-Ok-clause-below
returns-in-Ok-clause-below c =
    let column : c.indentation-column.result ≡ indentation c.args.line.now = c.indentation-column.ensures ∙ ap indentation c.as_bytes.ensures.value in
    let text : c.text_from-text.result.now ≡ drop (indentation c.args.line.now) c.args.line.now = c.text_from-text.ensures ∙ ap (λ k. drop k c.args.line.now) column in
    let is = ap₂ heading (sym column) (sym text) ∙ c.heading.ensures ∙ ap (option_map section_shown) c.in-Some-heading.is in
    let none = heading_below (indentation c.args.line.now) (drop (indentation c.args.line.now) c.args.line.now) (section_shown c.in-Some-heading.section) (lines c.args.more.now) is in
    subst (λ (own : List (List ℕ)). IsBelow own c.args.more.now c.nothing_below.result) (sym none) c.nothing_below.ensures
