use Rattle.std.proofs.Common.{◌+◌, suc, List, [], ◌∷◌, drop, sym, ◌∙◌, ap, arith}
use Rattle.od_pattern.specs.declared.path.Path.{Path}
use Rattle.od_syntax.specs.PathMachine.{turned, listed}
use Rattle.od_syntax.specs.Sizes.{counted}
use Rattle.od_path.specs.Machine.{run, sequence_size, alternation_size}
use Rattle.od_path.proofs.Moves.{to_atom, to_choice, two_long, more_long}
use Rattle.od_path.proofs.Sizes.{seq_two, seq_more, alt_two, alt_more}
use Rattle.od_path.proofs.path.+path.Goals as goal

pub sequence-loop-alloc-init : goal.sequence-loop-alloc-init
sequence-loop-alloc-init t c = record {
  on = c.in_ok-second.ensures.on;
  many = two_long _ _ _ c.in_ok-list.ensures;
  size = c.together-size.ensures ∙ seq_two _ _ _ _ c.requires.1 c.in_ok-second.ensures.size ∙ ap (λ (l : List Path). counted (sequence_size l)) (sym c.in_ok-list.ensures);
  goes = λ a k. to_atom c.args.depth a (c.args.first.path ∷ []) k _ c.requires.0 ∙ c.in_ok-second.ensures.goes a (c.args.first.path ∷ []) k
      ∙ ap (λ (l : List Path). run c.args.depth (turned a l k) (drop c.in_ok-second.second.to c.args.lexemes.now)) (sym c.in_ok-list.ensures);
}

pub sequence-loop-alloc-preserved : goal.sequence-loop-alloc-preserved
sequence-loop-alloc-preserved t c = record {
  on = (omega (arith, c.loop-alloc.invariant.on.0, c.in_ok-more.ensures.on.0), c.in_ok-more.ensures.on.1);
  many = more_long _ _ _ c.loop-alloc.invariant.many c.in_ok-push.ensures;
  size = c.together-size-in-loop-alloc.ensures ∙ seq_more _ _ _ _ c.loop-alloc.invariant.size c.in_ok-more.ensures.size ∙ ap (λ (l : List Path). counted (sequence_size l)) (sym c.in_ok-push.ensures);
  goes = λ a k. c.loop-alloc.invariant.goes a k ∙ to_atom c.args.depth a c.loop-alloc.list k _ c.loop-alloc-test.ensures.0 ∙ c.in_ok-more.ensures.goes a c.loop-alloc.list k
      ∙ ap (λ (l : List Path). run c.args.depth (turned a l k) (drop c.in_ok-more.more.to c.args.lexemes.now)) (sym c.in_ok-push.ensures);
}

pub alternation-loop-alloc-init : goal.alternation-loop-alloc-init
alternation-loop-alloc-init t c = record {
  on = (omega (arith, c.in_ok-second.ensures.on.0), c.in_ok-second.ensures.on.1);
  many = two_long _ _ _ c.in_ok-list.ensures;
  size = c.one_more-size.ensures ∙ ap (λ z. counted (z + suc c.in_ok-second.second.size)) c.one_more.ensures ∙ alt_two _ _ _ _ c.requires.1 c.in_ok-second.ensures.size
      ∙ ap (λ (l : List Path). counted (alternation_size l)) (sym c.in_ok-list.ensures);
  goes = λ k. to_choice c.args.depth (c.args.first.path ∷ []) k c.args.first.to c.args.lexemes.now c.requires.0 ∙ c.in_ok-second.ensures.goes (c.args.first.path ∷ []) k
      ∙ ap (λ (l : List Path). run c.args.depth (listed l k) (drop c.in_ok-second.second.to c.args.lexemes.now)) (sym c.in_ok-list.ensures);
}

pub alternation-loop-alloc-preserved : goal.alternation-loop-alloc-preserved
alternation-loop-alloc-preserved t c = record {
  on = (omega (arith, c.loop-alloc.invariant.on.0, c.in_ok-more.ensures.on.0), c.in_ok-more.ensures.on.1);
  many = more_long _ _ _ c.loop-alloc.invariant.many c.in_ok-push.ensures;
  size = c.one_more-size-in-loop-alloc.ensures ∙ alt_more _ _ _ _ c.loop-alloc.invariant.size c.in_ok-more.ensures.size ∙ ap (λ (l : List Path). counted (alternation_size l)) (sym c.in_ok-push.ensures);
  goes = λ k. c.loop-alloc.invariant.goes k ∙ to_choice c.args.depth c.loop-alloc.list k c.loop-alloc.i c.args.lexemes.now c.loop-alloc-test.ensures ∙ c.in_ok-more.ensures.goes c.loop-alloc.list k
      ∙ ap (λ (l : List Path). run c.args.depth (listed l k) (drop c.in_ok-more.more.to c.args.lexemes.now)) (sym c.in_ok-push.ensures);
}
