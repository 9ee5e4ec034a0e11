use Rattle.std.proofs.Common.{◌≡◌, ◌∙◌, ap, sym, subst, List, ℕ}
use Rattle.std.specs.Str.Lines.{lines}
use Rattle.od_rule_text.specs.Blanks.{is_blank_line, without_last}
use Rattle.od_rule_text.specs.Scalars.{first_indentation, joined_lines, literal_lines, literal_text}
use Rattle.od_yaml.specs.Below.{IsBelow}
use Rattle.od_yaml.specs.Literals.{EndsWithFeed, joined_text, own_lines, chomped}
use Rattle.od_yaml.proofs.Literals.{joined_ends, deep_lines, first_taken}
use Rattle.od_yaml.proofs.literal.literal.Goals as goal

pub chomped-requires : goal.chomped-requires
chomped-requires c =
    subst EndsWithFeed (sym c.in_ok-text.ensures.text_is) (joined_ends c.first_indentation-n.result (without_last is_blank_line (own_lines c.first_indentation-n.result c.args.more.now)))

pub returns : goal.returns
returns c =
    let n : ℕ = c.first_indentation-n.result in
    let more : List ℕ = c.args.more.now in
    let first : first_indentation (lines more) ≡ n = sym c.first_indentation-n.ensures in
    let deep : literal_lines c.args.column (lines more) ≡ own_lines n more = deep_lines c.args.column n (lines more) first c.if-n-column.false in
    let whole : literal_text (own_lines n more) ≡ joined_text n (own_lines n more) =
    ap (λ k. joined_lines k (without_last is_blank_line (own_lines n more))) (first_taken n (lines more) first) in
    record {
      text_is = c.chomped.ensures ∙ ap (chomped c.args.chomping) (c.in_ok-text.ensures.text_is ∙ sym whole ∙ ap literal_text (sym deep));
      below_is = subst (λ (own : List (List ℕ)). IsBelow own more c.in_ok-text.field-0.below) (sym deep) c.in_ok-text.ensures.below_is;
    }
