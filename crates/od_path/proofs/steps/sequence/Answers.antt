use Rattle.std.proofs.Common.{List, [], ◌∷◌, drop, sym, ◌∙◌, ap, arith}
use Rattle.od_pattern.specs.declared.path.Path.{Path}
use Rattle.od_syntax.specs.Sizes.{counted}
use Rattle.od_syntax.specs.StepsMachine.{turned}
use Rattle.od_syntax.specs.Told.{told}
use Rattle.od_path.specs.Machine.{sequence_size}
use Rattle.od_path.specs.Steps.{steps_run}
use Rattle.od_path.proofs.Moves.{two_long, more_long}
use Rattle.od_path.proofs.Sizes.{seq_two, seq_more}
use Rattle.od_path.proofs.StepMoves.{more_atom}
use Rattle.od_path.proofs.steps.sequence.Goals as goal

pub loop-alloc-init : goal.loop-alloc-init
loop-alloc-init c = record {
  on = c.in_ok-second.ensures.on;
  many = two_long _ _ _ c.in_ok-list.ensures;
  size = c.together-size.ensures ∙ seq_two _ _ _ _ c.requires.1 c.in_ok-second.ensures.size ∙ ap (λ (l : List Path). counted (sequence_size l)) (sym c.in_ok-list.ensures);
  goes = more_atom c.args.depth (c.args.first.path ∷ []) (drop c.args.first.to c.args.lexemes.now) c.requires.0 ∙ c.in_ok-second.ensures.goes (c.args.first.path ∷ [])
      ∙ ap (λ (l : List Path). steps_run c.args.depth (turned l) (told (drop c.in_ok-second.second.to c.args.lexemes.now))) (sym c.in_ok-list.ensures);
}

pub loop-alloc-preserved : goal.loop-alloc-preserved
loop-alloc-preserved c = record {
  on = (omega (arith, c.loop-alloc.invariant.on.0, c.in_ok-more.ensures.on.0), c.in_ok-more.ensures.on.1);
  many = more_long _ _ _ c.loop-alloc.invariant.many c.in_ok-push.ensures;
  size = c.together-size-in-loop-alloc.ensures ∙ seq_more _ _ _ _ c.loop-alloc.invariant.size c.in_ok-more.ensures.size ∙ ap (λ (l : List Path). counted (sequence_size l)) (sym c.in_ok-push.ensures);
  goes = c.loop-alloc.invariant.goes ∙ more_atom c.args.depth c.loop-alloc.list (drop c.loop-alloc.i c.args.lexemes.now) (sym c.is_step.ensures ∙ c.loop-alloc-test.true) ∙ c.in_ok-more.ensures.goes c.loop-alloc.list
      ∙ ap (λ (l : List Path). steps_run c.args.depth (turned l) (told (drop c.in_ok-more.more.to c.args.lexemes.now))) (sym c.in_ok-push.ensures);
}
