use Rattle.std.proofs.Common.{◌≡◌, ◌<◌, length, arith, get_or, sym, ap, subst, List, ℕ}
use Rattle.std.proofs.lemmas.Bool.{eqb-false}
use Rattle.std.proofs.lemmas.Str.{IsCharBoundary-after_ascii}
use Rattle.od_yaml.proofs.Runs.{escaped_ascii}
use Rattle.od_yaml.proofs.quoted.run_end.Goals as goal

pub text_from-requires : goal.text_from-requires
text_from-requires c =
    let same : length c.as_bytes-bytes.result.now ≡ length c.args.tail.now = ap length c.as_bytes-bytes.ensures.value in
    let some : 0 < length c.args.tail.now = omega (arith, eqb-false _ _ (sym c.if-is_empty.ensures)) in
    let first : get_or c.args.tail.now 0 0 ≡ 34 = subst (λ (s : List ℕ). get_or s 0 0 ≡ 34) c.as_bytes-bytes.ensures.value c.if-bytes-eq34.true in
    IsCharBoundary-after_ascii c.args.tail.now 0 c.utf8.tail some (omega (arith, first))

pub text_from-requires-in-Some : goal.text_from-requires-in-Some
text_from-requires-in-Some c =
    let same : length c.as_bytes-bytes.result.now ≡ length c.args.tail.now = ap length c.as_bytes-bytes.ensures.value in
    let some : 1 < length c.args.tail.now = omega (arith, eqb-false _ _ (sym c.if-is_empty.ensures), c.if-bytes-eq1.false) in
    let second : get_or c.args.tail.now 1 0 < 128 = subst (λ (s : List ℕ). get_or s 1 0 < 128) c.as_bytes-bytes.ensures.value (escaped_ascii (get_or c.as_bytes-bytes.result.now 1 0) c.in-Some.meant (sym c.in-Some.ensures.value)) in
    IsCharBoundary-after_ascii c.args.tail.now 1 c.utf8.tail some second
