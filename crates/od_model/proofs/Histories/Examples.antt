-- Orders and their entries, worked out: a run of two rounds and a print.
use Rattle.std.proofs.Common.{ℕ, List, [], ◌∷◌, inl, refl}
use Rattle.od_extraction.specs.declared.phase.Phase.TheVariants.{Going, Finished}
use Rattle.od_command.specs.declared.history.Command.TheVariants.{Step, Print}
use Rattle.od_command.specs.declared.history.Reply.{Reply}
use Rattle.od_command.specs.declared.history.Reply.TheVariants.{Stepped, Printed}
use Rattle.od_command.specs.declared.history.Command.{Command}
use Rattle.od_command.specs.declared.history.Entry.{Entry}
use Rattle.od_order.specs.declared.script.Order.{Order}
use Rattle.od_order.specs.declared.script.Order.TheVariants.{One, Run}
use Rattle.od_model.specs.History.Orders.{Follows, Begins}

abbrev name : List ℕ
name = 115 ∷ []

abbrev entry : ℕ → Command → Reply → Entry
entry call command reply = record { caller = 1; call = call; command = command; reply = reply }

abbrev orders : List Order
orders = Run name ∷ One (Print name) ∷ []

abbrev goes_on : Entry
goes_on = entry 1 (Step name) (Stepped 1 3 Going)

abbrev ends : Entry
ends = entry 2 (Step name) (Stepped 2 0 Finished)

abbrev print : Entry
print = entry 3 (Print name) (Printed 2 3 Finished)

-- a run that goes on is a beginning
cut_short : Begins orders (goes_on ∷ [])
cut_short = inl (refl, refl, tt)

-- a run goes on to its end, and the print follows
whole : Follows orders (goes_on ∷ ends ∷ print ∷ [])
whole = record {
  going = goes_on ∷ [];
  last = ends;
  more = print ∷ [];
  es_are = refl;
  first = ((refl, refl, tt), refl, (λ e. cc));
  then_rest = record { going = []; last = print; more = []; es_are = refl; first = (refl, refl); then_rest = refl };
}
