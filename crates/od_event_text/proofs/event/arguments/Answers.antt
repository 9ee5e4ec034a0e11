use Rattle.std.proofs.Common.{◌≡◌, ◌+◌, List, sym, subst, arith}
use Rattle.od_pattern.specs.declared.rule.Argument.{Argument}
use Rattle.od_syntax.specs.Sizes.{counted, paths_size}
use Rattle.od_path.proofs.Sizes.{counted_small}
use Rattle.od_event_text.specs.Parts.{line_of, own_of}
use Rattle.od_event_text.proofs.Events.{Found, found_more, size_more}
use Rattle.od_event_text.proofs.event.arguments.Goals as goal

pub loop-line-preserved : goal.loop-line-preserved
loop-line-preserved c =
    record {
      found = subst (λ (z : List Argument). Found c.args.names.now c.argument.new.names (own_of c.args.rest) (own_of c.in-Some.more) z) (sym c.in_ok-push.ensures.ok)
          (found_more c.args.names.now c.loop-line.names c.argument.new.names (own_of c.args.rest) (own_of c.loop-line.rest) (own_of c.in-Some.more) (line_of c.in-Some.line) c.loop-line.found
          c.loop-line.invariant.found c.in-Some.ensures.own c.in_ok-next.next.argument c.in_ok-next.ensures.tells c.in_ok-next.ensures.names);
      size = λ whole e. subst (λ (z : List Argument). c.together-size.result ≡ counted (whole + paths_size z)) (sym c.in_ok-push.ensures.ok)
          (size_more whole c.loop-line.size c.in_ok-next.next.size c.together-size.result c.loop-line.found c.in_ok-next.next.argument (c.loop-line.invariant.size whole e) c.in_ok-next.ensures.size c.together-size.ensures);
      small = counted_small c.together-size.result (c.loop-line.size + c.in_ok-next.next.size) c.together-size.ensures;
      within = omega (arith, c.loop-line.invariant.within, c.in-Some.ensures.more_within);
    }
