-- Names are compared by their bytes.
use Rattle.std.proofs.Common.{◌≡◌, ◌↔◌, ℕ, Bool, true, false, List, refl, sym}
use Rattle.std.specs.Prelude.{IsTrue, bytes_eq}
use Rattle.std.proofs.lemmas.Slice.Eq.{bytes_eq-Decides}

-- two tests of one thing
go : (b c : Bool) (P : Type 0) → (IsTrue b ↔ P) → ((c ≡ true) ↔ P) → b ≡ c
go true true P h g = refl
go false false P h g = refl
go true false P h g = sym (g.1 (h.0 refl))
go false true P h g = absurd (let q : false ≡ true = h.1 (g.0 refl) in cc)

pub same_decides : (b : Bool) (x y : List ℕ) → (IsTrue b ↔ (x ≡ y)) → b ≡ bytes_eq x y
same_decides b x y h = go b (bytes_eq x y) (x ≡ y) h (bytes_eq-Decides x y)
