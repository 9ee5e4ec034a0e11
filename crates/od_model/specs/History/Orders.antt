-- How one caller's entries unfold its orders.
use Rattle.std.specs.Prelude.{◌≡◌, List, [], ◌∷◌, ◌++◌, ◌⊎◌, ℕ}
use Rattle.od_extraction.specs.declared.phase.Phase.TheVariants.{Going}
use Rattle.od_command.specs.declared.history.Command.{Command}
use Rattle.od_command.specs.declared.history.Command.TheVariants.{Step}
use Rattle.od_order.specs.declared.script.Order.{Order}
use Rattle.od_order.specs.declared.script.Order.TheVariants.{One, Run}
use Rattle.od_command.specs.declared.history.Reply.{Reply}
use Rattle.od_command.specs.declared.history.Reply.TheVariants.{Stepped}
use Rattle.od_command.specs.declared.history.Entry.{Entry}

-- a run goes on after this reply
abbrev pub GoesOn : Reply → Type 0
GoesOn (Stepped round added phase) = phase ≡ Going
GoesOn reply = ⊥

-- steps of s that go on, as far as they have come
abbrev pub IsGoing : List ℕ → List Entry → Type 0
IsGoing s [] = Unit {0}
IsGoing s (e ∷ es) = (e.command ≡ Step s) × GoesOn e.reply × IsGoing s es

-- the entries have a beginning that ends in a last entry, and go on so
pub record Begun (beginning : List Entry → Entry → Type 0) (rest : List Entry → Type 0) (es : List Entry) : Type 0 where
  pub going : List Entry
  pub last : Entry
  pub more : List Entry
  pub es_are : es ≡ going ++ last ∷ more
  pub first : beginning going last
  pub then_rest : rest more

-- one entry of the command
abbrev pub IsOne : Command → List Entry → Entry → Type 0
IsOne command going last = (going ≡ []) × (last.command ≡ command)

-- a whole run: steps that go on, and one that ends it
abbrev pub IsRun : List ℕ → List Entry → Entry → Type 0
IsRun s going last = IsGoing s going × (last.command ≡ Step s) × (GoesOn last.reply → ⊥)

-- the entries unfold the orders
abbrev pub Follows : List Order → List Entry → Type 0
Follows [] es = es ≡ []
Follows (One command ∷ orders) es = Begun (IsOne command) (Follows orders) es
Follows (Run s ∷ orders) es = Begun (IsRun s) (Follows orders) es

-- the entries are the beginning of such an unfolding
abbrev pub Begins : List Order → List Entry → Type 0
Begins [] es = es ≡ []
Begins (One command ∷ orders) es = (es ≡ []) ⊎ Begun (IsOne command) (Begins orders) es
Begins (Run s ∷ orders) es = IsGoing s es ⊎ Begun (IsRun s) (Begins orders) es
