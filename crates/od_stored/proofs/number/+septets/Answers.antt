use Rattle.std.proofs.Common.{ℕ, List, length, get_or, take, drop, ◌-◌, ap, ◌∙◌, arith}
use Rattle.std.proofs.lemmas.List.{nil_from_length}
use Rattle.std.proofs.lemmas.Result.{err_from_is_err_and}
use Rattle.od_stored.specs.Numbers.{septets_read}
use Rattle.od_stored.proofs.NumberLaws.{front, read_none, read_last, read_past, read_fails, read_zero, read_above, limit_last, limit_most}
use Rattle.od_stored.proofs.number.+septets.Goals as goal

abbrev rest : List ℕ → List ℕ
rest bytes = take (length bytes - 1) (drop 1 bytes)

pub returns-then-further-eq0-clause-is : goal.returns-then-further-eq0-clause-is
returns-then-further-eq0-clause-is t c =
    let b = c.args.bytes.now in
    ap (septets_read c.args.further) (front b c.in-len1-up.len_at_least) ∙ read_past c.args.further (get_or b 0 0) (rest b) c.if-last-lt128.false c.if-further-eq0.true

pub returns-in_err-above-in-len1-up-2-clause-is : goal.returns-in_err-above-in-len1-up-2-clause-is
returns-in_err-above-in-len1-up-2-clause-is t c =
    let b = c.args.bytes.now in
    let p = err_from_is_err_and c.from_residual.result c.from_residual.ensures.1 in
    rw (p.1, p.2) (ap (septets_read c.args.further) (front b c.in-len1-up.len_at_least) ∙ read_fails c.args.further (get_or b 0 0) (rest b) c.in_err-above-in-len1-up-2.field-0.0 c.if-last-lt128.false (omega arith) c.in_err-above-in-len1-up-2.ensures.is)

pub returns-then-above-eq0-clause-is : goal.returns-then-above-eq0-clause-is
returns-then-above-eq0-clause-is t c =
    let b = c.args.bytes.now in
    let x = c.in_ok-above-in-len1-up-2 in
    ap (septets_read c.args.further) (front b c.in-len1-up.len_at_least) ∙ read_zero c.args.further (get_or b 0 0) (rest b) x.above x.left.now c.if-last-lt128.false (omega arith) c.if-above-eq0.true x.ensures.is

pub overflow_mul-result : goal.overflow_mul-result
overflow_mul-result t c = omega (arith, limit_most _ _ (omega arith) c.in_ok-above-in-len1-up-2.ensures.small)

pub overflow_add-result : goal.overflow_add-result
overflow_add-result t c = omega (arith, c.from-in-len1-up-2.ensures, c.type_inv.bytes 0, limit_most _ _ (omega arith) c.in_ok-above-in-len1-up-2.ensures.small)

pub returns-in-empty-clause-is : goal.returns-in-empty-clause-is
returns-in-empty-clause-is t c = ap (septets_read c.args.further) (nil_from_length c.args.bytes.now (omega arith)) ∙ read_none c.args.further

pub returns-in-len1-up-clause-is : goal.returns-in-len1-up-clause-is
returns-in-len1-up-clause-is t c =
    let b = c.args.bytes.now in
    rw (c.from.ensures) (ap (septets_read c.args.further) (front b c.in-len1-up.len_at_least) ∙ read_last c.args.further (get_or b 0 0) (rest b) c.if-last-lt128.true)

pub returns-in-len1-up-clause-small : goal.returns-in-len1-up-clause-small
returns-in-len1-up-clause-small t c = rw (c.from.ensures) (limit_last c.args.further (get_or c.args.bytes.now 0 0) c.if-last-lt128.true)

pub returns-else-above-eq0-clause-is : goal.returns-else-above-eq0-clause-is
returns-else-above-eq0-clause-is t c =
    let b = c.args.bytes.now in
    let x = c.in_ok-above-in-len1-up-2 in
    rw (c.from-in-len1-up-2.ensures) (ap (septets_read c.args.further) (front b c.in-len1-up.len_at_least) ∙ read_above c.args.further (get_or b 0 0) (rest b) x.above x.left.now c.if-last-lt128.false (omega arith) c.if-above-eq0.false x.ensures.is)
