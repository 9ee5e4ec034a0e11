-- A maker of which chosen calls are refused, as contracts see it.
use Rattle.std.specs.Prelude.{ℕ, List, refl}
use Rattle.std.specs.Coded.{Coded, code_by, coded×, coded_ℕ, coded_list}

-- a maker over another one
pub record FailingMaker (M : Type 0) : Type 0 where
  pub inner : M
  -- how many calls were made, at most 2 ^ 64 - 1: the number of the next one
  pub calls : ℕ
  -- the numbers of the calls that are refused
  pub failing : List ℕ
  -- the texts that were refused, in their order
  pub refused : List (List ℕ)

-- it is stored as its fields in pairs
abbrev pub failing_maker_code : {M : Type 0} → Coded M → Coded (FailingMaker M)
failing_maker_code {M} code =
    code_by (M × (ℕ × (List ℕ × List (List ℕ))))
    (coded× code (coded× coded_ℕ (coded× (coded_list coded_ℕ) (coded_list (coded_list coded_ℕ)))))
    (λ m. (m.inner, (m.calls, (m.failing, m.refused))))
    (λ p. record { inner = p.0; calls = p.1.0; failing = p.1.1.0; refused = p.1.1.1 })
    (λ _. refl)
