-- Rows are well formed, or one of them is the first that is not.
use Rattle.std.proofs.Common.{◌≡◌, ◌⊎◌, inl, inr, ℕ, ◌+◌, ◌<◌, ◌≤◌, List, [], ◌∷◌, ◌++◌, length, take, find, filter, Option, Some, None, Result, Ok, Err, Bool, true, false, refl, sym, ap, ◌∙◌, subst, append-nil, append_assoc, arith, eqb, eqb-true, eq-eqb, slice_get, nat_lt, nat_le}
use Rattle.std.specs.Bool.{Decides}
use Rattle.std.specs.List.{list_any}
use Rattle.std.proofs.lemmas.Bool.Decides.{Decides-ltb}
use Rattle.od_document.specs.Building.{Decides-nat_le, document_of}
use Rattle.od_document.specs.declared.doc.Doc.{Doc}
use Rattle.od_document.specs.declared.sentence.Sentence.{Sentence}
use Rattle.od_extraction.specs.declared.mention.Mention.{Mention}
use Rattle.od_extraction.specs.declared.mention.Part.{Part}
use Rattle.od_extraction.specs.Spans.{LiesIn, LiesWithin, PartLiesWithin}
use Rattle.od_extraction.specs.Weight.{weight, most_weight}
use Rattle.od_stored.specs.ReadMentions.{list_read}
use Rattle.od_row.specs.declared.rows.DocRow.{DocRow}
use Rattle.od_row.specs.declared.rows.SessionRow.{SessionRow}
use Rattle.od_row.specs.declared.rows.RoundRow.{RoundRow}
use Rattle.od_row.specs.declared.rows.Rows.{Rows}
use Rattle.od_order.specs.Names.{is_name}
use Rattle.od_rule_text.specs.declared.limits.TheConstants.{GRAMMAR_BYTES}
use Rattle.od_session.specs.declared.object.TheConstants.{ALL_DOCUMENTS, ALL_BYTES, SESSIONS, SESSION_ROUNDS}
use Rattle.od_text.specs.Lists.{Each, EachPoint}
use Rattle.od_text.proofs.Lists.{EachPoint-snoc, EachPoint-at}
use Rattle.od_row.specs.declared.table.TableName.{TableName}
use Rattle.od_row.specs.declared.table.TableName.TheVariants.{Docs, Sessions, Rounds}
use Rattle.od_rows.specs.Formed.{is_doc_row, is_session_row, bytes_in, FitsDoc, FitsSession, FitsRound, WellFormed, IsFirstMisfit, IsBadRow}
use Rattle.od_rows.specs.Laws.{RowsDecide, NeverBoth, OneBadRow}
use Rattle.od_rows.specs.Loaded.{docs_of, is_round_of}

-- ## What can be told

-- it holds, or it does not
abbrev pub Told : Type 0 → Type 0
Told P = P ⊎ (P → ⊥)

told-both : {A B : Type 0} → Told A → Told B → Told (A × B)
told-both (inl a) (inl b) = inl (a, b)
told-both (inl a) (inr n) = inr (λ p. n p.1)
told-both (inr n) b = inr (λ p. n p.0)

told-as : {A B : Type 0} → (A → B) → (B → A) → Told A → Told B
told-as f g (inl a) = inl (f a)
told-as f g (inr n) = inr (λ b. n (g b))

told-by : {P : Type 0} (b : Bool) → Decides b P → Told P
told-by true d = inl (d.0 refl)
told-by false d = inr (λ p. let e : false ≡ true = d.1 p in absurd (cc))

told-true : (b : Bool) → Told (b ≡ true)
told-true true = inl refl
told-true false = inr (λ e. absurd (cc))

told-false : (b : Bool) → Told (b ≡ false)
told-false false = inl refl
told-false true = inr (λ e. absurd (cc))

told-lt : (a b : ℕ) → Told (a < b)
told-lt a b = told-by (nat_lt a b) (Decides-ltb a b)

told-le : (a b : ℕ) → Told (a ≤ b)
told-le a b = told-by (nat_le a b) (Decides-nat_le a b)

told-eq : (a b : ℕ) → Told (a ≡ b)
told-eq a b = told-by (eqb a b) (eqb-true a b, eq-eqb a b)

told-each : {X : Type 0} (P : X → Type 0) → ((x : X) → Told (P x)) → (xs : List X) → Told (Each P xs)
told-each P t [] = inl tt
told-each P t (x ∷ xs) = told-both (t x) (told-each P t xs)

-- of what is there
told-some : {X : Type 0} (P : X → Type 0) → ((x : X) → Told (P x)) → (o : Option X) → Told ((x : X) × (o ≡ Some x) × P x)
told-some P t None = inr (λ h. let e : None ≡ Some h.0 = h.1 in absurd (cc))
told-some P t (Some x) = told-as (λ p. (x, refl, p)) (λ h. let e : x ≡ h.0 = same x h.0 h.1 in subst P (sym e) h.2) (t x)
  where
    same : {X : Type 0} (x y : X) → Some x ≡ Some y → x ≡ y
    same x y e = cc

told-ok : {X E : Type 0} (P : X → Type 0) → ((x : X) → Told (P x)) → (r : Result X E) → Told ((x : X) × (r ≡ Ok x) × P x)
told-ok P t (Err f) = inr (λ h. let e : Err f ≡ Ok h.0 = h.1 in absurd (cc))
told-ok P t (Ok x) = told-as (λ p. (x, refl, p)) (λ h. let e : x ≡ h.0 = same _ x h.0 h.1 in subst P (sym e) h.2) (t x)
  where
    same : {X : Type 0} (E : Type 0) (x y : X) → ◌≡◌ {A = Result X E} (Ok x) (Ok y) → x ≡ y
    same E x y e = cc

-- ## Each row

told-part : (count : ℕ) (p : Part) → Told (PartLiesWithin count p)
told-part count p = told-both (told-le p.start p.end) (told-le p.end count)

told-within : (count : ℕ) (m : Mention) → Told (LiesWithin count m)
told-within count m = told-as (λ h. record { takes = h.0; ends = h.1.0; parts = h.1.1 }) (λ h. (h.takes, (h.ends, h.parts)))
    (told-both (told-lt m.start m.end) (told-both (told-le m.end count) (told-each (PartLiesWithin count) (told-part count) m.parts)))

LiesInDoc : Mention → Doc → Type 0
LiesInDoc m doc = (sentence : Sentence) × (slice_get doc.sentences m.sentence ≡ Some sentence) × LiesWithin (length sentence.tokens) m

told-lies : (docs : List Doc) (m : Mention) → Told (LiesIn docs m)
unfolding LiesInDoc
told-lies docs m = told-as (λ h. record { doc = h.0; doc_is = h.1; sentence = h.2.0; sentence_is = h.2.1; lies = h.2.2 })
    (λ h. (h.doc, h.doc_is, (h.sentence, h.sentence_is, h.lies)))
    (told-some (λ doc. (sentence : Sentence) × (slice_get doc.sentences m.sentence ≡ Some sentence) × LiesWithin (length sentence.tokens) m)
    (λ doc. told-some (λ sentence. LiesWithin (length sentence.tokens) m) (λ sentence. told-within (length sentence.tokens) m) (slice_get doc.sentences m.sentence)) (slice_get docs m.document))

told-doc : (seen : List DocRow) (row : DocRow) → Told (FitsDoc seen row)
told-doc seen row = told-as
    (λ h. record { name = h.0; new = h.1.0; doc = h.1.1.0.0; reads = h.1.1.0.1; few = h.1.1.1.0; light = h.1.1.1.1 })
    (λ h. (h.name, (h.new, ((h.doc, h.reads, tt), (h.few, h.light)))))
    (told-both (told-true (is_name row.name)) (told-both (told-false (list_any (is_doc_row row.name) seen))
    (told-both (told-some (λ doc. Unit {0}) (λ doc. inl tt) (document_of row.name row.body))
    (told-both (told-lt (length seen) ALL_DOCUMENTS) (told-le (bytes_in seen + length row.body) ALL_BYTES)))))

told-session : (docs : List Doc) (seen : List SessionRow) (row : SessionRow) → Told (FitsSession docs seen row)
told-session docs seen row = told-as
    (λ h. record { name = h.0; new = h.1.0; documents = h.1.1.0; some = h.1.1.1.0; limit = h.1.1.1.1.0; text = h.1.1.1.1.1.0; few = h.1.1.1.1.1.1 })
    (λ h. (h.name, (h.new, (h.documents, (h.some, (h.limit, (h.text, h.few)))))))
    (told-both (told-true (is_name row.name)) (told-both (told-false (list_any (is_session_row row.name) seen))
    (told-both (told-le row.documents (length docs)) (told-both (told-le 1 row.limit) (told-both (told-le row.limit SESSION_ROUNDS)
    (told-both (told-le (length row.text) GRAMMAR_BYTES) (told-lt (length seen) SESSIONS)))))))

told-round : (docs : List Doc) (sessions : List SessionRow) (seen : List RoundRow) (row : RoundRow) → Told (FitsRound docs sessions seen row)
told-round docs sessions seen row = told-as
    (λ h. record { session = h.0; there = h.1; number = h.2.0; limit = h.2.1.0; mentions = h.2.1.1.0; reads = h.2.1.1.1; light = h.2.1.1.2.0; within = h.2.1.1.2.1 })
    (λ h. (h.session, h.there, (h.number, (h.limit, (h.mentions, h.reads, (h.light, h.within))))))
    (told-some (λ (session : SessionRow). (row.round ≡ length (filter (is_round_of row.session) seen) + 1) × ((row.round ≤ session.limit)
    × ((ms : List Mention) × (list_read row.body ≡ Ok ms) × ((weight ms ≤ most_weight) × Each (LiesIn (take session.documents docs)) ms))))
    (λ session. told-both (told-eq row.round (length (filter (is_round_of row.session) seen) + 1)) (told-both (told-le row.round session.limit)
    (told-ok (λ ms. (weight ms ≤ most_weight) × Each (LiesIn (take session.documents docs)) ms)
    (λ ms. told-both (told-le (weight ms) most_weight) (told-each (LiesIn (take session.documents docs)) (told-lies (take session.documents docs)) ms)) (list_read row.body))))
    (find (is_session_row row.session) sessions))

-- ## The first misfit

module _ {R : Type 0} (Fits : List R → R → Type 0) where
  Ends : List R → Type 0
  Ends rows = EachPoint Fits rows ⊎ ((place : ℕ) × IsFirstMisfit Fits rows place)

  at-row : (front xs : List R) (x : R) → EachPoint Fits front → Told (Fits front x) → (EachPoint Fits (front ++ x ∷ []) → Ends ((front ++ x ∷ []) ++ xs)) → Ends (front ++ x ∷ xs)
  unfolding Ends
  at-row front xs x h (inl fits) more = subst Ends (append_assoc front (x ∷ []) xs) (more (EachPoint-snoc Fits front x h fits))
  at-row front xs x h (inr misfit) more = inr (length front, record { front = front; bad = x; rest = xs; rows_are = refl; place_is = refl; fit = h; misfit = misfit })

  from : ((seen : List R) (x : R) → Told (Fits seen x)) → (front xs : List R) → EachPoint Fits front → Ends (front ++ xs)
  unfolding Ends
  from t front [] h = inl (rw (append-nil front) h)
  from t front (x ∷ xs) h = at-row front xs x h (t front x) (λ k. from t (front ++ x ∷ []) xs k)

  pub fit-or-misfit : ((seen : List R) (x : R) → Told (Fits seen x)) → (rows : List R) → EachPoint Fits rows ⊎ ((place : ℕ) × IsFirstMisfit Fits rows place)
  unfolding Ends
  fit-or-misfit t rows = from t [] rows tt

  pub never-both : (rows : List R) (place : ℕ) → EachPoint Fits rows → IsFirstMisfit Fits rows place → ⊥
  never-both rows place h k = k.misfit (EachPoint-at Fits k.front k.bad k.rest (subst (EachPoint Fits) k.rows_are h))

  -- the shorter front begins the longer one
  begins : (f g : List R) (a b : R) (r s : List R) → f ++ a ∷ r ≡ g ++ b ∷ s → length f < length g → (more : List R) × (g ≡ f ++ a ∷ more)
  begins [] [] a b r s e h = absurd (omega (arith, h))
  begins [] (y ∷ g) a b r s e h = let same : a ≡ y = cc in (g, ap (λ z. z ∷ g) (sym same))
  begins (x ∷ f) [] a b r s e h = absurd (omega (arith, h))
  begins (x ∷ f) (y ∷ g) a b r s e h =
      let same : x ≡ y = cc in
      let rest : f ++ a ∷ r ≡ g ++ b ∷ s = cc in
      let more = begins f g a b r s rest (omega (arith, h)) in
      (more.0, ap (λ z. y ∷ z) more.1 ∙ ap (λ z. z ∷ (f ++ a ∷ more.0)) (sym same))

  not-before : (rows : List R) (place other : ℕ) (k : IsFirstMisfit Fits rows place) (l : IsFirstMisfit Fits rows other) → length k.front < length l.front → ⊥
  not-before rows place other k l h =
      let more = begins k.front l.front k.bad l.bad k.rest l.rest (sym k.rows_are ∙ l.rows_are) h in
      k.misfit (EachPoint-at Fits k.front k.bad more.0 (subst (EachPoint Fits) more.1 l.fit))

  pub one-misfit : (rows : List R) (place other : ℕ) → IsFirstMisfit Fits rows place → IsFirstMisfit Fits rows other → place ≡ other
  one-misfit rows place other k l = by (told-lt (length k.front) (length l.front)) (told-lt (length l.front) (length k.front))
    where
      by : Told (length k.front < length l.front) → Told (length l.front < length k.front) → place ≡ other
      by (inl h) b = absurd (not-before rows place other k l h)
      by (inr h) (inl b) = absurd (not-before rows other place l k b)
      by (inr h) (inr b) = k.place_is ∙ level (length k.front) (length l.front) h b ∙ sym l.place_is
        where
          level : (n m : ℕ) → (n < m → ⊥) → (m < n → ⊥) → n ≡ m
          level n m h b = omega (arith, h, b)

-- ## All rows

rounds-decide : (rows : Rows) → EachPoint FitsDoc rows.docs → EachPoint (FitsSession (docs_of rows.docs)) rows.sessions
    → EachPoint (FitsRound (docs_of rows.docs) rows.sessions) rows.rounds ⊎ ((place : ℕ) × IsFirstMisfit (FitsRound (docs_of rows.docs) rows.sessions) rows.rounds place)
    → WellFormed rows ⊎ ((table : TableName) × (place : ℕ) × IsBadRow rows table place)
rounds-decide rows d s (inl r) = inl (record { docs = d; sessions = s; rounds = r })
rounds-decide rows d s (inr r) = inr (Rounds, r.0, (d, s, r.1))

sessions-decide : (rows : Rows) → EachPoint FitsDoc rows.docs
    → EachPoint (FitsSession (docs_of rows.docs)) rows.sessions ⊎ ((place : ℕ) × IsFirstMisfit (FitsSession (docs_of rows.docs)) rows.sessions place)
    → WellFormed rows ⊎ ((table : TableName) × (place : ℕ) × IsBadRow rows table place)
sessions-decide rows d (inl s) = rounds-decide rows d s (fit-or-misfit (FitsRound (docs_of rows.docs) rows.sessions) (told-round (docs_of rows.docs) rows.sessions) rows.rounds)
sessions-decide rows d (inr s) = inr (Sessions, s.0, (d, s.1))

docs-decide : (rows : Rows) → EachPoint FitsDoc rows.docs ⊎ ((place : ℕ) × IsFirstMisfit FitsDoc rows.docs place) → WellFormed rows ⊎ ((table : TableName) × (place : ℕ) × IsBadRow rows table place)
docs-decide rows (inl d) = sessions-decide rows d (fit-or-misfit (FitsSession (docs_of rows.docs)) (told-session (docs_of rows.docs)) rows.sessions)
docs-decide rows (inr d) = inr (Docs, d.0, d.1)

pub rows-decide : RowsDecide
rows-decide rows = docs-decide rows (fit-or-misfit FitsDoc told-doc rows.docs)

pub formed-or-bad : NeverBoth
formed-or-bad rows Docs place w b = never-both FitsDoc rows.docs place w.docs b
formed-or-bad rows Sessions place w b = never-both (FitsSession (docs_of rows.docs)) rows.sessions place w.sessions b.1
formed-or-bad rows Rounds place w b = never-both (FitsRound (docs_of rows.docs) rows.sessions) rows.rounds place w.rounds b.2

pub one-bad_row : OneBadRow
one-bad_row rows Docs Docs a b k l = (refl, one-misfit FitsDoc rows.docs a b k l)
one-bad_row rows Docs Sessions a b k l = absurd (never-both FitsDoc rows.docs a l.0 k)
one-bad_row rows Docs Rounds a b k l = absurd (never-both FitsDoc rows.docs a l.0 k)
one-bad_row rows Sessions Docs a b k l = absurd (never-both FitsDoc rows.docs b k.0 l)
one-bad_row rows Sessions Sessions a b k l = (refl, one-misfit (FitsSession (docs_of rows.docs)) rows.sessions a b k.1 l.1)
one-bad_row rows Sessions Rounds a b k l = absurd (never-both (FitsSession (docs_of rows.docs)) rows.sessions a l.1 k.1)
one-bad_row rows Rounds Docs a b k l = absurd (never-both FitsDoc rows.docs b k.0 l)
one-bad_row rows Rounds Sessions a b k l = absurd (never-both (FitsSession (docs_of rows.docs)) rows.sessions b k.1 l.1)
one-bad_row rows Rounds Rounds a b k l = (refl, one-misfit (FitsRound (docs_of rows.docs) rows.sessions) rows.rounds a b k.2 l.2)
