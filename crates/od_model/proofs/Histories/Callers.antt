-- Entries by their callers, and the clients of a script one after another.
use Rattle.std.proofs.Common.{◌≡◌, ◌≢◌, ℕ, zero, suc, ◌+◌, ◌<◌, ◌≤◌, List, [], ◌∷◌, ◌++◌, length, slice_get, Some, Bool, true, false, cond, refl, sym, ap, ◌∙◌, subst, arith, eqb, eq-eqb, append-nil}
use Rattle.std.specs.Prelude.{◌==◌}
use Rattle.std.proofs.lemmas.Bool.{eqb-true}
use Rattle.std.proofs.lemmas.List.Elements.{filter-append}
use Rattle.od_command.specs.declared.history.Entry.{Entry}
use Rattle.od_order.specs.declared.script.Order.{Order}
use Rattle.od_text.specs.Lists.{Each}
use Rattle.od_model.specs.History.Legal.{mine}
use Rattle.od_model.specs.History.Orders.{Follows, Begins}
use Rattle.od_model.specs.Run.Clients.{EachClient}
use Rattle.od_model.proofs.Histories.Orders.{Begins-none, Follows-begun}

-- the entries are the caller's
abbrev pub AreOf : ℕ → List Entry → Type 0
AreOf caller es = Each (λ e. e.caller ≡ caller) es

pub mine-append : (caller : ℕ) (xs ys : List Entry) → mine caller (xs ++ ys) ≡ mine caller xs ++ mine caller ys
mine-append caller xs ys = filter-append (λ e. e.caller == caller) xs ys

kept : (caller : ℕ) (e : Entry) (es : List Entry) (b : Bool) → b ≡ true → cond b (e ∷ es) es ≡ e ∷ es
kept caller e es true h = refl
kept caller e es false h = absurd (cc)

left_out : (caller : ℕ) (e : Entry) (es : List Entry) (b : Bool) → b ≡ false → cond b (e ∷ es) es ≡ es
left_out caller e es true h = absurd (cc)
left_out caller e es false h = refl

pub mine-own : (caller : ℕ) (es : List Entry) → AreOf caller es → mine caller es ≡ es
mine-own caller [] h = refl
mine-own caller (e ∷ es) h = kept caller e (mine caller es) (eqb e.caller caller) (eq-eqb e.caller caller h.0) ∙ ap (λ l. e ∷ l) (mine-own caller es h.1)

apart : (a b : ℕ) (t : Bool) → eqb a b ≡ t → a ≢ b → t ≡ false
apart a b true e h = absurd (h (eqb-true a b e))
apart a b false e h = refl

-- no entry is another caller's
pub mine-none : (caller : ℕ) (es : List Entry) → Each (λ e. e.caller ≢ caller) es → mine caller es ≡ []
mine-none caller [] h = refl
mine-none caller (e ∷ es) h = left_out caller e (mine caller es) (eqb e.caller caller) (apart e.caller caller (eqb e.caller caller) refl h.0) ∙ mine-none caller es h.1

others : (caller other : ℕ) (es : List Entry) → caller ≢ other → AreOf caller es → Each (λ e. e.caller ≢ other) es
others caller other [] h k = tt
others caller other (e ∷ es) h k = ((λ is. h (sym k.0 ∙ is)), others caller other es h k.1)

-- entries of one caller more leave those of another as they were
pub mine-other : (caller other : ℕ) (xs es : List Entry) → caller ≢ other → AreOf caller es → mine other (xs ++ es) ≡ mine other xs
mine-other caller other xs es h k = mine-append other xs es ∙ ap (λ l. mine other xs ++ l) (mine-none other es (others caller other es h k)) ∙ append-nil (mine other xs)

above : (caller most : ℕ) (es : List Entry) → most < caller → Each (λ e. (1 ≤ e.caller) × (e.caller ≤ most)) es → Each (λ e. e.caller ≢ caller) es
above caller most [] h k = tt
above caller most (e ∷ es) h k = ((λ is. let few = k.0.1 in omega (arith, is, few, h)), above caller most es h k.1)

-- callers up to a number, and the next one
pub mine-next : (caller most : ℕ) (xs es : List Entry) → most < caller → Each (λ e. (1 ≤ e.caller) × (e.caller ≤ most)) xs → AreOf caller es → mine caller (xs ++ es) ≡ es
mine-next caller most xs es h k own = mine-append caller xs es ∙ ap (λ l. l ++ mine caller es) (mine-none caller xs (above caller most xs h k)) ∙ mine-own caller es own

pub mine-new : (caller most : ℕ) (xs : List Entry) → most < caller → Each (λ e. (1 ≤ e.caller) × (e.caller ≤ most)) xs → mine caller xs ≡ []
mine-new caller most xs h k = mine-none caller xs (above caller most xs h k)

-- ## Clients one after another

-- the clients after the first n unfold their orders so
abbrev pub EachFrom : (List Order → List Entry → Type 0) → ℕ → List (List Order) → List Entry → Type 0
EachFrom Unfolds n [] history = Unit {0}
EachFrom Unfolds n (orders ∷ clients) history = Unfolds orders (mine (n + 1) history) × EachFrom Unfolds (n + 1) clients history

pub EachFrom-append : (Unfolds : List Order → List Entry → Type 0) (n m : ℕ) (xs ys : List (List Order)) (history : List Entry) → m ≡ n + length xs → EachFrom Unfolds n xs history → EachFrom Unfolds m ys history → EachFrom Unfolds n (xs ++ ys) history
EachFrom-append Unfolds n m [] ys history is h k = let same : m ≡ n = omega (arith, is) in subst (λ a. EachFrom Unfolds a ys history) same k
EachFrom-append Unfolds n m (x ∷ xs) ys history is h k = (h.0, EachFrom-append Unfolds (n + 1) m xs ys history (omega (arith, is)) h.1 k)

-- entries of a later caller
pub EachFrom-later : (Unfolds : List Order → List Entry → Type 0) (n caller : ℕ) (xs : List (List Order)) (history more : List Entry) → n + length xs < caller → AreOf caller more → EachFrom Unfolds n xs history → EachFrom Unfolds n xs (history ++ more)
EachFrom-later Unfolds n caller [] history more h own k = tt
EachFrom-later Unfolds n caller (x ∷ xs) history more h own k = (
  subst (λ l. Unfolds x l) (sym (mine-other caller (n + 1) history more (λ is. omega (arith, is, h)) own)) k.0,
  EachFrom-later Unfolds (n + 1) caller xs history more (omega (arith, h)) own k.1,
)

pub EachFrom-begun : (n : ℕ) (xs : List (List Order)) (history : List Entry) → EachFrom Follows n xs history → EachFrom Begins n xs history
EachFrom-begun n [] history h = tt
EachFrom-begun n (x ∷ xs) history h = (Follows-begun x (mine (n + 1) history) h.0, EachFrom-begun (n + 1) xs history h.1)

-- of clients that have no entry yet nothing is done
pub EachFrom-none : (n most : ℕ) (xs : List (List Order)) (history : List Entry) → most ≤ n → Each (λ e. (1 ≤ e.caller) × (e.caller ≤ most)) history → EachFrom Begins n xs history
EachFrom-none n most [] history h k = tt
EachFrom-none n most (x ∷ xs) history h k = (
  subst (λ l. Begins x l) (sym (mine-new (n + 1) most history (omega (arith, h)) k)) (Begins-none x),
  EachFrom-none (n + 1) most xs history (omega (arith, h)) k,
)

same-orders : (x y : List Order) → Some x ≡ Some y → x ≡ y
same-orders x y e = cc

at_place : (Unfolds : List Order → List Entry → Type 0) (n : ℕ) (clients : List (List Order)) (history : List Entry) → EachFrom Unfolds n clients history → (k : ℕ) (orders : List Order) → slice_get clients k ≡ Some orders → Unfolds orders (mine (n + k + 1) history)
at_place Unfolds n [] history h k orders e = absurd (cc)
at_place Unfolds n (x ∷ clients) history h zero orders e = let same : n + 0 + 1 ≡ n + 1 = omega arith in rw same (subst (λ o. Unfolds o (mine (n + 1) history)) (same-orders x orders e) h.0)
at_place Unfolds n (x ∷ clients) history h (suc k) orders e = let same : n + suc k + 1 ≡ (n + 1) + k + 1 = omega arith in rw same (at_place Unfolds (n + 1) clients history h.1 k orders e)

pub each-client : (Unfolds : List Order → List Entry → Type 0) (clients : List (List Order)) (history : List Entry) → EachFrom Unfolds 0 clients history → EachClient Unfolds clients history
each-client Unfolds clients history h k orders e = let same : k + 1 ≡ 0 + k + 1 = omega arith in rw same (at_place Unfolds 0 clients history h k orders e)
