use Rattle.std.proofs.Common.{rules}
use Rattle.od_expansion.proofs.Pieces.{copied_dollar, copied_found, copied_end}
use Rattle.od_expansion.proofs.name.next_occurrence.Goals as goal

pub returns-in-Some-name_behind : goal.returns-in-Some-name_behind
returns-in-Some-name_behind c =
    copied_found c.args.text.now c.loop-front.rest.now c.in-Some.front.now c.in-Some.behind.now c.in-Some-name_behind.found.0.now c.in-Some-name_behind.found.1.now c.args.out.now c.loop-front.out c.push.new.self
    c.loop-front.invariant.copied c.in-Some.ensures c.in-Some-name_behind.ensures.0 c.in-Some-name_behind.ensures.1 c.in-Some-name_behind.ensures.2 c.in_ok-push.ensures

pub loop-front-preserved : goal.loop-front-preserved
loop-front-preserved c = record {
  utf8 = search rules;
  copied = copied_dollar c.args.text.now c.loop-front.rest.now c.in-Some.front.now c.in-Some.behind.now c.args.out.now c.loop-front.out c.push.new.self c.push-in-Some.new.self
      c.loop-front.invariant.copied c.in-Some.ensures c.in_default-name_behind.ensures c.in_ok-push.ensures c.in_ok-push-2.ensures;
}

pub returns : goal.returns
returns c = copied_end c.args.text.now c.loop-front.rest.now c.args.out.now c.loop-front.out c.push-2.new.self c.loop-front.invariant.copied c.in_default.ensures c.in_ok-push-3.ensures
