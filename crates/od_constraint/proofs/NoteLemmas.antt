-- What is noted of expressions, as more of them are run.
use Rattle.std.proofs.Common.{◌≡◌, ℕ, zero, suc, ◌<◌, List, [], ◌∷◌, ◌++◌, length, get_or, slice_set, refl, sym, ◌∙◌, ap, subst, Option, Some, None, slice_get, arith, replicate}
use Rattle.std.specs.Prelude.{IfSome, IfOk, OnOk, Result, Ok, Err}
use Rattle.od_index.specs.Terms.{Term}
use Rattle.od_pattern.specs.declared.pattern.Field.{Field}
use Rattle.od_pattern.specs.declared.pattern.Field.TheVariants.{Word, Norm, Lemma, Upos, Tag, Entity, Chunk, Incoming, Outgoing}
use Rattle.od_pattern.specs.declared.pattern.Value.TheVariants.{Regex}
use Rattle.od_constraint.specs.declared.hits.Hits.{Hits}
use Rattle.od_constraint.specs.declared.noted.Noted.{Noted}
use Rattle.od_constraint.specs.declared.noted.TheConstants.{NOWHERE}
use Rattle.od_constraint.specs.Hits.{HasHits}
use Rattle.od_constraint.specs.Noted.{IsAt, IsNoted, AreNoted, noted_in, with_noted}
use Rattle.od_constraint.proofs.HitLemmas.{HasHits-later}

-- what is noted for a field
pub IsNoted-in : (table : List Term) (all : List Hits) (text : List ℕ) (noted : Noted) (field : Field) → IsNoted table all text noted → IsAt table all text field (noted_in field noted)
IsNoted-in table all text noted Word (w, n, l, u, t, e, c, i) = w
IsNoted-in table all text noted Norm (w, n, l, u, t, e, c, i) = n
IsNoted-in table all text noted Lemma (w, n, l, u, t, e, c, i) = l
IsNoted-in table all text noted Upos (w, n, l, u, t, e, c, i) = u
IsNoted-in table all text noted Tag (w, n, l, u, t, e, c, i) = t
IsNoted-in table all text noted Entity (w, n, l, u, t, e, c, i) = e
IsNoted-in table all text noted Chunk (w, n, l, u, t, e, c, i) = c
IsNoted-in table all text noted Incoming (w, n, l, u, t, e, c, i) = i
IsNoted-in table all text noted Outgoing h = tt

-- one more place
pub IsNoted-with : (table : List Term) (all : List Hits) (text : List ℕ) (noted : Noted) (field : Field) (place : ℕ) → IsNoted table all text noted
    → HasHits table all field (Regex text) place → IsNoted table all text (with_noted field place noted)
IsNoted-with table all text noted Word place (w, n, l, u, t, e, c, i) k = (k, n, l, u, t, e, c, i)
IsNoted-with table all text noted Norm place (w, n, l, u, t, e, c, i) k = (w, k, l, u, t, e, c, i)
IsNoted-with table all text noted Lemma place (w, n, l, u, t, e, c, i) k = (w, n, k, u, t, e, c, i)
IsNoted-with table all text noted Upos place (w, n, l, u, t, e, c, i) k = (w, n, l, k, t, e, c, i)
IsNoted-with table all text noted Tag place (w, n, l, u, t, e, c, i) k = (w, n, l, u, k, e, c, i)
IsNoted-with table all text noted Entity place (w, n, l, u, t, e, c, i) k = (w, n, l, u, t, k, c, i)
IsNoted-with table all text noted Chunk place (w, n, l, u, t, e, c, i) k = (w, n, l, u, t, e, k, i)
IsNoted-with table all text noted Incoming place (w, n, l, u, t, e, c, i) k = (w, n, l, u, t, e, c, k)
IsNoted-with table all text noted Outgoing place h k = h

-- what is noted stays when more hits come
IsAt-later : (table : List Term) (all more : List Hits) (text : List ℕ) (field : Field) (place : Option ℕ) → IsAt table all text field place → IsAt table (all ++ more) text field place
IsAt-later table all more text field None h = tt
IsAt-later table all more text field (Some place) h = HasHits-later table all more field (Regex text) place h

IsNoted-later : (table : List Term) (all more : List Hits) (text : List ℕ) (noted : Noted) → IsNoted table all text noted → IsNoted table (all ++ more) text noted
IsNoted-later table all more text noted (w, n, l, u, t, e, c, i) =
    let later = IsAt-later table all more text in (
      later Word noted.word w,
      later Norm noted.norm n,
      later Lemma noted.lemma l,
      later Upos noted.upos u,
      later Tag noted.tag t,
      later Entity noted.entity e,
      later Chunk noted.chunk c,
      later Incoming noted.incoming i,
    )

pub AreNoted-later : (table : List Term) (all more : List Hits) (texts : List (List ℕ)) (noted : List Noted) → AreNoted table all texts noted → AreNoted table (all ++ more) texts noted
AreNoted-later table all more [] [] h = tt
AreNoted-later table all more [] (n ∷ ns) h = absurd h
AreNoted-later table all more (t ∷ ts) [] h = absurd h
AreNoted-later table all more (t ∷ ts) (n ∷ ns) h = (IsNoted-later table all more t n h.0, AreNoted-later table all more ts ns h.1)

pub AreNoted-kept : (table : List Term) (old new : List Hits) (hits : Hits) (texts : List (List ℕ)) (noted : List Noted) → new ≡ old ++ hits ∷ []
    → AreNoted table old texts noted → AreNoted table new texts noted
AreNoted-kept table old new hits texts noted e h = subst (λ (all : List Hits). AreNoted table all texts noted) (sym e) (AreNoted-later table old (hits ∷ []) texts noted h)

-- what is noted of one expression
pub AreNoted-at : (table : List Term) (all : List Hits) (texts : List (List ℕ)) (noted : List Noted) (k : ℕ) (text : List ℕ) (one : Noted) → AreNoted table all texts noted
    → slice_get texts k ≡ Some text → slice_get noted k ≡ Some one → IsNoted table all text one
AreNoted-at table all [] noted k text one h e f = absurd (cc)
AreNoted-at table all (t ∷ ts) [] k text one h e f = absurd h
AreNoted-at table all (t ∷ ts) (n ∷ ns) zero text one h e f =
    let same : t ≡ text = cc in
    let this : n ≡ one = cc in
    subst (λ (x : List ℕ). IsNoted table all x one) same (subst (IsNoted table all t) this h.0)
AreNoted-at table all (t ∷ ts) (n ∷ ns) (suc k) text one h e f = AreNoted-at table all ts ns k text one h.1 e f

-- a change at one expression
pub AreNoted-set : (table : List Term) (all : List Hits) (texts : List (List ℕ)) (noted : List Noted) (k : ℕ) (text : List ℕ) (one : Noted) → AreNoted table all texts noted
    → slice_get texts k ≡ Some text → IsNoted table all text one → AreNoted table all texts (slice_set noted k one)
AreNoted-set table all [] noted k text one h e f = absurd (cc)
AreNoted-set table all (t ∷ ts) [] k text one h e f = absurd h
AreNoted-set table all (t ∷ ts) (n ∷ ns) zero text one h e f =
    let same : t ≡ text = cc in
    (subst (λ (x : List ℕ). IsNoted table all x one) (sym same) f, h.1)
AreNoted-set table all (t ∷ ts) (n ∷ ns) (suc k) text one h e f = (h.0, AreNoted-set table all ts ns k text one h.1 e f)

-- nothing is noted
pub AreNoted-none : (table : List Term) (all : List Hits) (texts : List (List ℕ)) → AreNoted table all texts (replicate (length texts) NOWHERE)
AreNoted-none table all [] = tt
AreNoted-none table all (t ∷ ts) = ((tt, tt, tt, tt, tt, tt, tt, tt), AreNoted-none table all ts)

-- what is noted stays where the hits of a value were put behind the others
pub noted_kept : {E : Type 0} (r : Result ℕ E) (table : List Term) (old new : List Hits) (hits : Hits) (texts same : List (List ℕ)) (noted : List Noted)
    → IfOk r (λ place. (place ≡ length old) × (new ≡ old ++ hits ∷ [])) → same ≡ texts → AreNoted table old texts noted → OnOk r (AreNoted table new same noted)
noted_kept (Ok place) table old new hits texts same noted put e h =
    subst (λ (ts : List (List ℕ)). AreNoted table new ts noted) (sym e) (AreNoted-kept table old new hits texts noted put.1 h)
noted_kept (Err fault) table old new hits texts same noted put e h = tt
