-- What hits say of the texts of a table.
use Rattle.std.proofs.Common.{◌≡◌, ℕ, suc, zero, ◌-◌, ◌≤◌, List, [], ◌∷◌, ◌++◌, refl, sym, ◌∙◌, ap, subst, map, Option, Some, None, Bool, true, false, slice_get, get_or, length}
use Rattle.std.specs.Prelude.{◌==◌, ◌&&◌, Contains, IfSome, IfNone, IsSomeAnd, option_map, bytes_eq, nat_le}
use Rattle.std.specs.Bool.{Decides}
use Rattle.std.proofs.lemmas.Bool.{le-leb}
use Rattle.std.proofs.lemmas.Bool.Decides.{Decides-eqb}
use Rattle.std.proofs.lemmas.Option.{slice_get-map}
use Rattle.std.proofs.lemmas.Slice.Eq.{bytes_eq-Decides}
use Rattle.od_text.proofs.Lists.{slice_get-append}
use Rattle.od_asked.specs.Texts.{fits, regex_holds}
use Rattle.od_document.specs.declared.token.Edge.{Edge}
use Rattle.od_index.specs.Tables.{IsAscending, IsNumber, term_cmp}
use Rattle.od_index.specs.Terms.{Term}
use Rattle.od_index.proofs.Members.{Contains-slice_get}
use Rattle.od_index.proofs.Orders.{one-place}
use Rattle.od_index.proofs.Tables.{terms-exact}
use Rattle.od_pattern.specs.declared.pattern.Field.{Field}
use Rattle.od_pattern.specs.declared.pattern.Field.TheVariants.{Incoming}
use Rattle.od_pattern.specs.declared.pattern.Value.{Value}
use Rattle.od_pattern.specs.declared.pattern.Value.TheVariants.{Plain, Regex}
use Rattle.od_constraint.specs.declared.hits.Hits.{Hits}
use Rattle.od_constraint.specs.declared.hits.Hits.TheVariants.{One}
use Rattle.od_constraint.specs.Hits.{has_number, AreHits, HasHits, Begins}
use Rattle.od_constraint.proofs.Lists.{got_before}

-- the hit of an edge's label
pub edge_at : (table : List Term) (edges : List Edge) (value : Value) (hits : Hits) (place g d n : ℕ) → AreHits table Incoming value hits
    → IsSomeAnd (slice_get edges place) (λ e. (e.governor ≡ g) × (e.dependent ≡ d) × IsNumber table Incoming e.label n)
    → slice_get (map (λ e. fits value e.label) edges) place ≡ Some (has_number hits n)
edge_at table edges value hits place g d n h q = slice_get-map (λ (e : Edge). fits value e.label) edges place ∙ by (slice_get edges place) q
  where
    by : (o : Option Edge) → IsSomeAnd o (λ e. (e.governor ≡ g) × (e.dependent ≡ d) × IsNumber table Incoming e.label n)
        → option_map (λ e. fits value e.label) o ≡ Some (has_number hits n)
    by None q = absurd q
    by (Some e) q = ap Some (sym (h n e.label q.2))

got_map : {X : Type 0} (f : X → Bool) (xs : List X) (k : ℕ) (x : X) → slice_get xs k ≡ Some x → get_or (map f xs) k false ≡ f x
got_map f [] k x e = absurd (cc)
got_map f (y ∷ xs) zero x e = let same : y ≡ x = cc in ap f same
got_map f (y ∷ xs) (suc k) x e = got_map f xs k x e

-- what an expression says of the texts of a field
pub run_hits : (table : List Term) (field : Field) (expression : List ℕ) (first : ℕ) (texts : List (List ℕ)) (truths : List Bool)
    → ((n : ℕ) (text : List ℕ) → IsNumber table field text n → (first ≤ n) × (slice_get texts (n - first) ≡ Some text))
    → truths ≡ map (regex_holds expression) texts
    → (n : ℕ) (text : List ℕ) → IsNumber table field text n → (nat_le first n && get_or truths (n - first) false) ≡ regex_holds expression text
run_hits table field expression first texts truths block e n text h =
    let at = block n text h in
    ap (λ (b : Bool). b && get_or truths (n - first) false) (le-leb first n at.0)
    ∙ ap (λ (ts : List Bool). get_or ts (n - first) false) e
    ∙ got_map (regex_holds expression) texts (n - first) text at.1

same_tests : (a b : Bool) (P Q : Type 0) → Decides a P → Decides b Q → (P → Q) → (Q → P) → a ≡ b
same_tests true true P Q d e f g = refl
same_tests true false P Q d e f g = sym (e.1 (f (d.0 refl)))
same_tests false true P Q d e f g = d.1 (g (e.0 refl))
same_tests false false P Q d e f g = refl

absent : (table : List Term) (field : Field) (plain : List ℕ) (k : ℕ) (text : List ℕ) (b : Bool)
    → bytes_eq plain text ≡ b → (Contains table (field, plain) → ⊥) → IsNumber table field text k → false ≡ b
absent table field plain k text false q n e = refl
absent table field plain k text true q n e =
    let same : plain ≡ text = (bytes_eq-Decides plain text).0 q in
    absurd (n (Contains-slice_get table k (field, plain) (e ∙ ap (λ (t : List ℕ). Some (field, t)) (sym same))))

text_of_term : Option Term → List ℕ
text_of_term None = []
text_of_term (Some t) = t.1

same_text : (table : List Term) (field : Field) (a b : List ℕ) (n : ℕ) → IsNumber table field a n → IsNumber table field b n → a ≡ b
unfolding text_of_term
same_text table field a b n d e = ap text_of_term (sym d ∙ e)

-- what a plain text says of the texts of a field
pub plain_hits : (table : List Term) (field : Field) (plain : List ℕ) (r : Option ℕ) → IsAscending table
    → IfSome r (IsNumber table field plain) → IfNone r (Contains table (field, plain) → ⊥) → AreHits table field (Plain plain) (One r)
plain_hits table field plain None s i n = λ k text e. absent table field plain k text (bytes_eq plain text) refl n e
plain_hits table field plain (Some m) s i n = λ k text e.
    same_tests (m == k) (bytes_eq plain text) (m ≡ k) (plain ≡ text) (Decides-eqb m k) (bytes_eq-Decides plain text)
    (λ q. same_text table field plain text k (subst (λ (j : ℕ). IsNumber table field plain j) q i) e)
    (λ q. one-place term_cmp terms-exact table m k (field, text) s (i ∙ ap (λ (t : List ℕ). Some (field, t)) q) e)

-- hits at a place stay there when more come behind them
pub HasHits-later : (table : List Term) (all more : List Hits) (field : Field) (value : Value) (place : ℕ)
    → HasHits table all field value place → HasHits table (all ++ more) field value place
HasHits-later table all more field value place h = by (slice_get all place) refl h
  where
    by : (o : Option Hits) → slice_get all place ≡ o → IsSomeAnd o (AreHits table field value) → IsSomeAnd (slice_get (all ++ more) place) (AreHits table field value)
    by None q h = absurd h
    by (Some hits) q h = subst (λ (o : Option Hits). IsSomeAnd o (AreHits table field value)) (sym (got_before all more place hits q)) h

-- the hits behind all others
pub HasHits-last : (table : List Term) (old new : List Hits) (hits : Hits) (field : Field) (value : Value) (place : ℕ) → place ≡ length old → new ≡ old ++ hits ∷ []
    → AreHits table field value hits → HasHits table new field value place
HasHits-last table old new hits field value place at e h =
    let there : slice_get new place ≡ Some hits = ap (λ (all : List Hits). slice_get all place) e ∙ ap (slice_get (old ++ hits ∷ [])) at ∙ slice_get-append old hits [] in
    subst (λ (o : Option Hits). IsSomeAnd o (AreHits table field value)) (sym there) h
