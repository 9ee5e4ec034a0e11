-- Reading one item after another, until the first fault.
use Rattle.std.specs.Prelude.{ℕ, zero, suc, List, [], ◌∷◌, Result, Ok, Err}

-- what follows a value that was read; a fault goes on as it is
infixl 10 ◌>>=◌
abbrev pub ◌>>=◌ : {A B E : Type 0} → Result A E → (A → Result B E) → Result B E
(Ok x) >>= f = f x
(Err e) >>= f = Err e

-- so many items in a row, each read from what the one before it left, and what is left then
unfoldable pub in_a_row : {X E : Type 0} → (List ℕ → Result (X × List ℕ) E) → ℕ → List ℕ →
    Result (List X × List ℕ) E
in_a_row read zero bytes = Ok ([], bytes)
in_a_row read (suc n) bytes =
    read bytes >>= λ first. in_a_row read n first.1 >>= λ others. Ok (first.0 ∷ others.0, others.1)
