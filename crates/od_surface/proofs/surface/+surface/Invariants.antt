use Rattle.std.proofs.Common.{◌≡◌, ◌+◌, ◌-◌, ◌*◌, ◌<◌, ◌≤◌, List, [], ◌∷◌, drop, length}
use Rattle.std.specs.List.{list_all, list_any}
use Rattle.od_pattern.specs.declared.pattern.Surface.{Surface}
use Rattle.od_pattern.specs.Nullable.{is_nullable}
use Rattle.od_lex.specs.Machine.{NoOr}
use Rattle.od_syntax.specs.Sizes.{counted}
use Rattle.od_syntax.specs.SurfaceMachine.{Around, atom, turned, listed}
use Rattle.od_surface.specs.Reading.{run}
use Rattle.od_surface.proofs.Counted.{order_sizes, choice_sizes}
use Rattle.od_surface.proofs.surface.+surface.Given as goal

abbrev pub decreases-surface_atom : goal.decreases-surface_atom
decreases-surface_atom l = (101 - l.depth) * 7

abbrev pub decreases-surface_part : goal.decreases-surface_part
decreases-surface_part l = (101 - l.depth) * 7 + 1

abbrev pub decreases-parts : goal.decreases-parts
decreases-parts l = (101 - l.depth) * 7 + 2

abbrev pub decreases-more_choices : goal.decreases-more_choices
decreases-more_choices l = (101 - l.depth) * 7 + 3

abbrev pub decreases-choices : goal.decreases-choices
decreases-choices l = (101 - l.depth) * 7 + 4

abbrev pub decreases-grouped : goal.decreases-grouped
decreases-grouped l = (101 - l.depth) * 7 + 5

abbrev pub decreases-capture : goal.decreases-capture
decreases-capture l = (101 - l.depth) * 7 + 6

abbrev pub invariant-parts-loop-alloc : goal.invariant-parts-loop-alloc
invariant-parts-loop-alloc l = record {
  on : (l.from < l.i) × (l.i ≤ length l.lexemes);
  nullable : l.all ≡ list_all is_nullable l.list;
  size : l.sum ≡ counted (order_sizes l.list);
  goes : (a : List Surface) (k : Around) → run l.places l.depth (atom a [] k) (drop l.from l.lexemes) ≡ run l.places l.depth (turned a l.list k) (drop l.i l.lexemes);
}

abbrev pub decreases-parts-loop-alloc : goal.decreases-parts-loop-alloc
decreases-parts-loop-alloc l = length l.lexemes - l.i

abbrev pub invariant-more_choices-loop-alloc : goal.invariant-more_choices-loop-alloc
invariant-more_choices-loop-alloc l = record {
  from : l.fn.first.to ≤ l.i;
  on : l.i ≤ length l.lexemes;
  some : 1 ≤ length l.list;
  many : NoOr (drop l.i l.lexemes) → (2 ≤ length l.list) × (l.fn.first.to < l.i);
  nullable : l.some ≡ list_any is_nullable l.list;
  size : l.sum ≡ counted (choice_sizes l.list);
  goes : (k : Around) → run l.places l.depth (listed (l.fn.first.pattern ∷ []) k) (drop l.fn.first.to l.lexemes) ≡ run l.places l.depth (listed l.list k) (drop l.i l.lexemes);
}

abbrev pub decreases-more_choices-loop-alloc : goal.decreases-more_choices-loop-alloc
decreases-more_choices-loop-alloc l = length l.lexemes - l.i
