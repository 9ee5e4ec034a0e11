use Rattle.std.proofs.Common.{◌≡◌, ◌∙◌, ap, subst, ◌++◌, [], ◌∷◌, ℕ, map, length, arith, rules}
use Rattle.std.specs.List.{range_with_len}
use Rattle.od_asked.specs.Holds.{has_text}
use Rattle.od_pattern.specs.declared.pattern.Field.{Field}
use Rattle.od_constraint.specs.Hits.{AreHits}
use Rattle.od_constraint.proofs.OwnLemmas.{own_asked}
use Rattle.od_constraint.proofs.RowLemmas.{row_more}
use Rattle.od_constraint.proofs.rows.own_row.Goals as goal

pub loop-token-preserved : goal.loop-token-preserved
loop-token-preserved c =
    let pushed : c.push.new.self.items ≡ c.loop-token.own.items ++ c.own_fits.result ∷ [] = search rules in
    record {
      truths = λ value h.
          row_more (has_text c.args.sentence.now.sentence c.args.field value) c.loop-token.own.items c.push.new.self.items c.loop-token.token c.own_fits.result pushed
          (c.loop-token.invariant.truths value h) (c.own_fits.ensures value h);
      long = search rules;
      room = search rules;
    }

pub returns : goal.returns
returns c =
    let s = c.args.sentence.now in
    let n = length s.sentence.tokens in
    let whole : c.loop-token.token ≡ n = omega (arith, c.len-token-end.ensures, c.loop-token-test.false, c.loop-token.auto.token-end) in
    λ value h.
    c.loop-token.invariant.truths value (subst (λ (f : Field). AreHits s.table f value c.args.hits.now) (own_asked c.args.field c.requires) h)
    ∙ ap (λ (k : ℕ). map (has_text s.sentence c.args.field value) (range_with_len 0 k)) whole
