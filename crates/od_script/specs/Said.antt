-- What borrowed words and statements show.
use Rattle.std.specs.Prelude.{◌≡◌, ℕ, List, [], ◌∷◌, Bool, true, false, Result, Ok, Err}
use Rattle.od_command.specs.declared.history.Command.TheVariants as command
use Rattle.od_order.specs.declared.script.Order.{Order}
use Rattle.od_order.specs.declared.script.Order.TheVariants as ordered
use Rattle.od_order.specs.declared.script_kind.ScriptKind.{ScriptKind}
use Rattle.od_order.specs.Statements.{Statement, rules, query, client, document, order, Saying}
use Rattle.od_script.specs.declared.statement.Asked.{Asked}
use Rattle.od_script.specs.declared.statement.Asked.TheVariants as asks
use Rattle.od_script.specs.declared.statement.Said.{Said}
use Rattle.od_script.specs.declared.statement.Said.TheVariants as says
use Rattle.od_script.specs.declared.words.Words.{Words}
use Rattle.od_script.specs.declared.words.Words.TheVariants.{One, Two, Three, Four, More}

-- these are all words of a line
abbrev pub AreWords : List (List ℕ) → Words → Type 0
AreWords all (One a) = all ≡ a.now ∷ []
AreWords all (Two a b) = all ≡ a.now ∷ b.now ∷ []
AreWords all (Three a b c) = all ≡ a.now ∷ b.now ∷ c.now ∷ []
AreWords all (Four a b c d) = all ≡ a.now ∷ b.now ∷ c.now ∷ d.now ∷ []
AreWords all (More a) =
    (b c d e : List ℕ) × (more : List (List ℕ)) × (all ≡ a.now ∷ b ∷ c ∷ d ∷ e ∷ more)

-- the order that is asked
abbrev pub asked_order : Asked → Order
asked_order (asks.Open session grammar limit) = ordered.One (command.OpenSession session.now grammar.now limit)
asked_order (asks.Step name) = ordered.One (command.Step name.now)
asked_order (asks.Run name) = ordered.Run name.now
asked_order (asks.Resume name) = ordered.One (command.Resume name.now)
asked_order (asks.Print name) = ordered.One (command.Print name.now)
asked_order (asks.Release name) = ordered.One (command.Release name.now)
asked_order asks.Settle = ordered.One command.Settle

-- the statement that is said
abbrev pub shown : Said → Statement
shown (says.Rules name count) = rules name.now count
shown (says.Query name pattern) = query name.now pattern.now
shown says.Client = client
shown (says.Document name count) = document name.now count
shown (says.Order asked) = order (asked_order asked)

-- whether it is an order
abbrev pub is_order : Said → Bool
is_order (says.Rules name count) = false
is_order (says.Query name pattern) = false
is_order says.Client = false
is_order (says.Document name count) = true
is_order (says.Order asked) = true

-- what is said is the value of this result, or its fault is that one
abbrev pub Says : {X : Type 0} → Saying → (X → Statement) → Result X ScriptKind → Type 0
Says saying show (Ok x) = saying ≡ Ok (show x)
Says saying show (Err kind) = saying ≡ Err kind
