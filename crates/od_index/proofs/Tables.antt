-- Tables of terms.
use Rattle.std.proofs.Common.{◌≡◌, ℕ, ◌+◌, ◌≤◌, length, arith, Ordering, List, [], ◌∷◌, ◌++◌, refl, sym, ◌∙◌, ap, subst, inl, inr}
use Rattle.std.specs.Prelude.{Contains, ◌⊎◌, get_or}
use Rattle.std.specs.declared.cmp.Ordering.TheVariants.{Less, Equal, Greater}
use Rattle.std.specs.Ordering.{nat_cmp}
use Rattle.std.specs.Cmp.Lexicographic.{slice_cmp}
use Rattle.std.proofs.lemmas.Cmp.{then_total, on_total, nat_cmp_total, nat_list_cmp_total}
use Rattle.std.proofs.lemmas.Map.Lookups.{exact_bytes, exact_unsigned, exact_pairs}
use Rattle.std.proofs.lemmas.List.Elements.{Contains-append_cases, Contains-append_left, Contains-append_right}
use Rattle.od_document.specs.declared.sentence.Sentence.{Sentence}
use Rattle.od_pattern.specs.declared.pattern.Field.{Field}
use Rattle.od_pattern.specs.declared.pattern.Field.TheVariants.{Word, Norm, Lemma, Upos, Tag, Entity, Chunk, Incoming, Outgoing}
use Rattle.od_index.specs.Ascending.{IsExactOrder, put_by, put_in}
use Rattle.od_index.specs.Terms.{Term, sentence_terms, terms_of}
use Rattle.od_index.specs.Tables.{field_place, term_cmp, table_of}
use Rattle.od_index.specs.Laws.{OneTable, TableIsShort, EachIsNumbered, OneNumber, TablesJoin, TableServes}
use Rattle.od_index.proofs.Members.{Contains-cases, Contains-none, Each-from_in, slice_get-contained}
use Rattle.od_index.proofs.Orders.{one-ascending, one-place}
use Rattle.od_index.proofs.Placed.{ascending-is}

abbrev all_fields : List Field
all_fields = Word ∷ Norm ∷ Lemma ∷ Upos ∷ Tag ∷ Entity ∷ Chunk ∷ Incoming ∷ Outgoing ∷ []

field-back : (f : Field) → get_or all_fields (field_place f) Word ≡ f
field-back Word = refl
field-back Norm = refl
field-back Lemma = refl
field-back Upos = refl
field-back Tag = refl
field-back Entity = refl
field-back Chunk = refl
field-back Incoming = refl
field-back Outgoing = refl

-- a field is known by its place
pub same-place : (f g : Field) → field_place f ≡ field_place g → f ≡ g
same-place f g e = sym (field-back f) ∙ ap (λ n. get_or all_fields n Word) e ∙ field-back g

-- terms that compare alike are one
exact-terms : (a b : Term) → term_cmp a b ≡ Equal → a ≡ b
exact-terms a b e =
    let both : (field_place a.0, a.1) ≡ (field_place b.0, b.1) = exact_pairs nat_cmp (slice_cmp nat_cmp) exact_unsigned exact_bytes (field_place a.0, a.1) (field_place b.0, b.1) e in
    let fields : a.0 ≡ b.0 = same-place a.0 b.0 (ap (λ (p : ℕ × List ℕ). p.0) both) in
    let texts : a.1 ≡ b.1 = ap (λ (p : ℕ × List ℕ). p.1) both in
    ap (λ (f : Field). (f, a.1)) fields ∙ ap (λ (t : List ℕ). (b.0, t)) texts

-- the order of terms is exact
pub terms-exact : IsExactOrder term_cmp
terms-exact = (then_total (on_total (λ (t : Term). field_place t.0) nat_cmp_total) (on_total (λ (t : Term). t.1) nat_list_cmp_total), exact-terms)

pub one-table : OneTable
one-table terms a b p q = one-ascending term_cmp terms-exact terms a b p q

-- ## Lengths

put-by : (o : Ordering) (x y : Term) (ys rest : List Term) → length rest ≤ length ys + 1 → length (put_by o x y ys rest) ≤ length (y ∷ ys) + 1
put-by Less x y ys rest h = omega arith
put-by Equal x y ys rest h = omega arith
put-by Greater x y ys rest h = omega (arith, h)

put-in : (x : Term) (ys : List Term) → length (put_in term_cmp x ys) ≤ length ys + 1
put-in x [] = omega arith
put-in x (y ∷ ys) = put-by (term_cmp x y) x y ys (put_in term_cmp x ys) (put-in x ys)

computed-short : (terms : List Term) → length (table_of terms) ≤ length terms
computed-short [] = omega arith
computed-short (x ∷ xs) = omega (arith, put-in x (table_of xs), computed-short xs)

pub table-short : TableIsShort
table-short terms table p =
    subst (λ (t : List Term). length t ≤ length terms) (one-table terms (table_of terms) table (ascending-is term_cmp terms-exact terms) p) (computed-short terms)

-- ## Numbers

pub each-numbered : EachIsNumbered
each-numbered terms table field text p c = slice_get-contained table (field, text) (p.has (field, text) c)

pub one-number : OneNumber
one-number terms table field text m n p d e = one-place term_cmp terms-exact table m n (field, text) p.ascends d e

pub tables-join : TablesJoin
tables-join a b left right table p q r = record {
  ascends = r.ascends;
  has = λ t c. r.has t (into t (Contains-append_cases a b t c));
  adds_none = λ t c. from t (Contains-append_cases left right t (r.adds_none t c));
}
  where
    into : (t : Term) → Contains a t ⊎ Contains b t → Contains (left ++ right) t
    into t (inl c) = Contains-append_left left right t (p.has t c)
    into t (inr c) = Contains-append_right left right t (q.has t c)

    from : (t : Term) → Contains left t ⊎ Contains right t → Contains (a ++ b) t
    from t (inl c) = Contains-append_left a b t (p.adds_none t c)
    from t (inr c) = Contains-append_right a b t (q.adds_none t c)

-- the terms of each sentence are among those of all
among-all : (sentences : List Sentence) (s : Sentence) (t : Term) → Contains sentences s → Contains (sentence_terms s) t → Contains (terms_of sentences) t
among-all [] s t c h = absurd (Contains-none s c)
among-all (x ∷ xs) s t c h = by (Contains-cases x xs s c) (λ d. among-all xs s t d h)
  where
    by : (x ≡ s) ⊎ Contains xs s → (Contains xs s → Contains (terms_of xs) t) → Contains (terms_of (x ∷ xs)) t
    by (inl e) f = Contains-append_left (sentence_terms x) (terms_of xs) t (subst (λ (y : Sentence). Contains (sentence_terms y) t) (sym e) h)
    by (inr d) f = Contains-append_right (sentence_terms x) (terms_of xs) t (f d)

pub table-serves : TableServes
table-serves sentences s table p c = Each-from_in (Contains table) (sentence_terms s) (λ t h. p.has t (among-all sentences s t c h))
