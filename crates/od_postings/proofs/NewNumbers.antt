-- Numbers in place of others.
use Rattle.std.proofs.Common.{◌≡◌, ℕ, suc, zero, ◌+◌, ◌<◌, ◌^◌, List, [], ◌∷◌, ◌++◌, refl, sym, ◌∙◌, ap, ap₂, subst, arith, length, map, take, get_or, slice_get, Option, Some, None, inl, inr}
use Rattle.std.specs.Prelude.{IfSome, IsSomeAnd, option_map, Contains, ◌⊎◌}
use Rattle.std.specs.List.{AllZip}
use Rattle.std.proofs.lemmas.List.{take_more, map_more}
use Rattle.std.proofs.lemmas.Slice.Zip.{all_zipped_more}
use Rattle.std.proofs.lemmas.Option.{slice_get-map, slice_get_read}
use Rattle.od_index.specs.Tables.{IsTableOf}
use Rattle.od_index.proofs.Members.{Contains-none, Each-from_in}
use Rattle.od_postings.specs.Gathered.{Gathers}
use Rattle.od_document.specs.declared.token.Token.{Token}
use Rattle.od_document.specs.declared.token.Edge.{Edge}
use Rattle.std.specs.Borrow.{Bor}
use Rattle.od_index.specs.Sentences.{HasTerms}
use Rattle.od_index.specs.Terms.{Term}
use Rattle.od_postings.specs.Seen.{term_seen, terms_seen}
use Rattle.od_pattern.specs.declared.pattern.Field.{Field}
use Rattle.od_pattern.specs.declared.pattern.Field.TheVariants.{Word, Norm, Lemma, Upos, Tag, Entity, Chunk, Incoming}
use Rattle.od_text.specs.Lists.{Each}
use Rattle.od_text.proofs.Lists.{Each-weaker}
use Rattle.od_postings.specs.declared.numbers.TokenNumbers.{TokenNumbers}
use Rattle.od_postings.specs.declared.numbers.EdgeNumbers.{EdgeNumbers}
use Rattle.od_postings.specs.Arrivals.{Adds, IsPlace, Renumbers, HasNew, IsNew, IsNewOption, HasNewToken, IsNewToken, HasNewEdge, IsNewEdge}
use Rattle.od_postings.specs.Numbers.{text_of, token_of, edge_of, tokens_of, edges_of, IsNumbered, TokenFits, EdgeFits}
use Rattle.od_postings.proofs.Arriving.{text-is, numbered-is}

-- one more of both lists
pub zip-next : {X Y : Type 0} (R : X → Y → Type 0) (xs : List X) (new ys : List Y) (i : ℕ) (x : X) (y : Y) → i < length xs → x ≡ get_or xs i x → AllZip R (take i xs) ys → R x y → new ≡ ys ++ y ∷ [] → AllZip R (take (i + 1) xs) new
zip-next R xs new ys i x y lt is h r e =
    subst (AllZip R (take (i + 1) xs)) (sym e)
    (subst (λ zs. AllZip R zs (ys ++ y ∷ [])) (sym (take_more xs i x lt ∙ ap (λ z. take i xs ++ z ∷ []) (sym is))) (all_zipped_more R (take i xs) ys x y h r))

-- what stands at a place, whatever stands for what does not
pub own-default : {X : Type 0} (xs : List X) (i : ℕ) (d : X) → i < length xs → get_or xs i d ≡ get_or xs i (get_or xs i d)
own-default [] i d h = absurd (omega (arith, h))
own-default (x ∷ xs) zero d h = refl
own-default (x ∷ xs) (suc i) d h = own-default xs i d (omega (arith, h))

-- ## The numbers of terms in a table

pub known-term : (ts : List (Field × Bor (List ℕ))) (i : ℕ) (d : Field × Bor (List ℕ)) (table : List Term) → i < length ts → HasTerms table (terms_seen ts) → Contains table ((get_or ts i d).0, (get_or ts i d).1.now)
known-term [] i d table lt h = absurd (omega (arith, lt))
known-term (t ∷ ts) zero d table lt h = h.0
known-term (t ∷ ts) (suc i) d table lt h = known-term ts i d table (omega (arith, lt)) h.1

pub numbers-next : (ts : List (Field × Bor (List ℕ))) (i : ℕ) (d : Field × Bor (List ℕ)) (table : List Term) (new old : List ℕ) (m : ℕ) → i < length ts → text_of table m ≡ (get_or ts i d).1.now → IsNumbered table (get_or ts i d).0 m → m + 1 < 2 ^ 32
    → Renumbers (terms_seen (take i ts)) table old → new ≡ old ++ m ∷ [] → Renumbers (terms_seen (take (i + 1) ts)) table new
numbers-next ts i d table new old m lt is fits few h e =
    let t = get_or ts i d in
    let place : IsPlace table (term_seen t) m = (fits ∙ ap (λ (u : List ℕ). Some (t.0, u)) is, few) in
    subst (Renumbers (terms_seen (take (i + 1) ts)) table) (sym e)
    (subst (λ (zs : List Term). AllZip (IsPlace table) zs (old ++ m ∷ [])) (sym (map_more term_seen ts i d lt)) (all_zipped_more (IsPlace table) (terms_seen (take i ts)) old (term_seen t) m h place))

-- the number of a term that stands there
place-of : (old table : List Term) (numbers : List ℕ) (n : ℕ) (t : Term) → Renumbers old table numbers → slice_get old n ≡ Some t → (m : ℕ) × (slice_get numbers n ≡ Some m) × IsPlace table t m
place-of [] table [] n t h e = absurd (cc)
place-of [] table (m ∷ numbers) n t h e = absurd (cc)
place-of (u ∷ old) table [] n t h e = absurd h
place-of (u ∷ old) table (m ∷ numbers) zero t h e = let same : u ≡ t = cc in (m, refl, subst (λ (v : Term). IsPlace table v m) same h.0)
place-of (u ∷ old) table (m ∷ numbers) (suc n) t h e = place-of old table numbers n t h.1 e

module _ (old table : List Term) (numbers : List ℕ) (h : Renumbers old table numbers) where
  has-new : (f : Field) (n : ℕ) → IsNumbered old f n → HasNew numbers n
  has-new f n e = let r = place-of old table numbers n (f, text_of old n) h e in subst (λ (o : Option ℕ). IsSomeAnd o (λ m. m + 1 < 2 ^ 32)) (sym r.1) r.2.1

  has-new-option : (f : Field) (o : Option ℕ) → IfSome o (IsNumbered old f) → IfSome o (HasNew numbers)
  has-new-option f None e = e
  has-new-option f (Some n) e = has-new f n e

  has-new-token : (t : TokenNumbers) → TokenFits old t → HasNewToken numbers t
  has-new-token t fits = record {
    word = has-new Word t.word fits.word;
    norm = has-new Norm t.norm fits.norm;
    lemma = has-new-option Lemma t.lemma fits.lemma;
    upos = has-new-option Upos t.upos fits.upos;
    tag = has-new-option Tag t.tag fits.tag;
    entity = has-new-option Entity t.entity fits.entity;
    chunk = has-new-option Chunk t.chunk fits.chunk;
  }

  pub has-new-tokens : (xs : List TokenNumbers) → Each (TokenFits old) xs → Each (HasNewToken numbers) xs
  has-new-tokens xs fits = Each-weaker (TokenFits old) (HasNewToken numbers) (λ t e. has-new-token t e) xs fits

  pub has-new-edges : (xs : List EdgeNumbers) → Each (EdgeFits old) xs → Each (HasNewEdge numbers) xs
  has-new-edges xs fits = Each-weaker (EdgeFits old) (HasNewEdge numbers) (λ t e. has-new Incoming t.label e) xs fits

  same-place : (n m k : ℕ) (t : Term) → IsNew numbers n m → slice_get numbers n ≡ Some k → slice_get table k ≡ Some t → slice_get table m ≡ Some t
  same-place n m k t new at there = let same : k ≡ m = cc in subst (λ (j : ℕ). slice_get table j ≡ Some t) same there

  new-at : (f : Field) (n m : ℕ) → IsNumbered old f n → IsNew numbers n m → slice_get table m ≡ Some (f, text_of old n)
  new-at f n m e new = let r = place-of old table numbers n (f, text_of old n) h e in same-place n m r.0 (f, text_of old n) new r.1 r.2.0

  new-is : (f : Field) (n m : ℕ) → IsNumbered old f n → IsNew numbers n m → text_of table m ≡ text_of old n
  new-is f n m e new = text-is table f (text_of old n) m (new-at f n m e new)

  new-fits : (f : Field) (n m : ℕ) → IsNumbered old f n → IsNew numbers n m → IsNumbered table f m
  new-fits f n m e new = numbered-is table f (text_of old n) m (new-at f n m e new)

  new-option-is : (f : Field) (o p : Option ℕ) → IfSome o (IsNumbered old f) → IsNewOption numbers o p → option_map (text_of table) p ≡ option_map (text_of old) o
  new-option-is f None p e new = ap (option_map (text_of table)) new
  new-option-is f (Some n) None e new = absurd new
  new-option-is f (Some n) (Some m) e new = ap (λ (u : List ℕ). Some u) (new-is f n m e new)

  new-option-fits : (f : Field) (o p : Option ℕ) → IfSome o (IsNumbered old f) → IsNewOption numbers o p → IfSome p (IsNumbered table f)
  new-option-fits f None p e new = subst (λ (q : Option ℕ). IfSome q (IsNumbered table f)) (sym new) tt
  new-option-fits f (Some n) None e new = absurd new
  new-option-fits f (Some n) (Some m) e new = new-fits f n m e new

  new-token-fits : (t r : TokenNumbers) → TokenFits old t → IsNewToken numbers t r → TokenFits table r
  new-token-fits t r fits new = record {
    word = new-fits Word t.word r.word fits.word new.word;
    norm = new-fits Norm t.norm r.norm fits.norm new.norm;
    lemma = new-option-fits Lemma t.lemma r.lemma fits.lemma new.lemma;
    upos = new-option-fits Upos t.upos r.upos fits.upos new.upos;
    tag = new-option-fits Tag t.tag r.tag fits.tag new.tag;
    entity = new-option-fits Entity t.entity r.entity fits.entity new.entity;
    chunk = new-option-fits Chunk t.chunk r.chunk fits.chunk new.chunk;
  }

  new-token-is : (t r : TokenNumbers) → TokenFits old t → IsNewToken numbers t r → token_of table r ≡ token_of old t
  new-token-is t r fits new =
      rw (
        new-is Word t.word r.word fits.word new.word,
        new-is Norm t.norm r.norm fits.norm new.norm,
        new-option-is Lemma t.lemma r.lemma fits.lemma new.lemma,
        new-option-is Upos t.upos r.upos fits.upos new.upos,
        new-option-is Tag t.tag r.tag fits.tag new.tag,
        new-option-is Entity t.entity r.entity fits.entity new.entity,
        new-option-is Chunk t.chunk r.chunk fits.chunk new.chunk,
      ) refl

  new-edge-is : (t r : EdgeNumbers) → EdgeFits old t → IsNewEdge numbers t r → edge_of table r ≡ edge_of old t
  new-edge-is t r fits new = rw (new.governor, new.dependent, new-is Incoming t.label r.label fits new.label) refl

  pub new-tokens-is : (xs ys : List TokenNumbers) → Each (TokenFits old) xs → AllZip (IsNewToken numbers) xs ys → tokens_of table ys ≡ tokens_of old xs
  new-tokens-is [] [] fits new = refl
  new-tokens-is [] (y ∷ ys) fits new = absurd new
  new-tokens-is (x ∷ xs) [] fits new = absurd new
  new-tokens-is (x ∷ xs) (y ∷ ys) fits new = ap₂ (λ (z : Token) zs. z ∷ zs) (new-token-is x y fits.0 new.0) (new-tokens-is xs ys fits.1 new.1)

  pub new-tokens-fit : (xs ys : List TokenNumbers) → Each (TokenFits old) xs → AllZip (IsNewToken numbers) xs ys → Each (TokenFits table) ys
  new-tokens-fit [] [] fits new = tt
  new-tokens-fit [] (y ∷ ys) fits new = absurd new
  new-tokens-fit (x ∷ xs) [] fits new = absurd new
  new-tokens-fit (x ∷ xs) (y ∷ ys) fits new = (new-token-fits x y fits.0 new.0, new-tokens-fit xs ys fits.1 new.1)

  pub new-edges-is : (xs ys : List EdgeNumbers) → Each (EdgeFits old) xs → AllZip (IsNewEdge numbers) xs ys → edges_of table ys ≡ edges_of old xs
  new-edges-is [] [] fits new = refl
  new-edges-is [] (y ∷ ys) fits new = absurd new
  new-edges-is (x ∷ xs) [] fits new = absurd new
  new-edges-is (x ∷ xs) (y ∷ ys) fits new = ap₂ (λ (z : Edge) zs. z ∷ zs) (new-edge-is x y fits.0 new.0) (new-edges-is xs ys fits.1 new.1)

  pub new-edges-fit : (xs ys : List EdgeNumbers) → Each (EdgeFits old) xs → AllZip (IsNewEdge numbers) xs ys → Each (EdgeFits table) ys
  new-edges-fit [] [] fits new = tt
  new-edges-fit [] (y ∷ ys) fits new = absurd new
  new-edges-fit (x ∷ xs) [] fits new = absurd new
  new-edges-fit (x ∷ xs) (y ∷ ys) fits new = (new-fits Incoming x.label y.label fits.0 new.0.label, new-edges-fit xs ys fits.1 new.1)

-- ## A document

-- what came has each of the terms, and no others
pub gathers-came : (terms came : List Term) → Adds terms [] came → Gathers terms came
gathers-came terms came h = record { has = λ t c. h.has t c; adds_none = λ t c. from t (h.adds_none t c) }
  where
    from : (t : Term) → Contains [] t ⊎ Contains terms t → Contains terms t
    from t (inl c) = absurd (Contains-none t c)
    from t (inr c) = c

-- a table of some terms has each of them
pub table-has : (terms table : List Term) → IsTableOf terms table → HasTerms table terms
table-has terms table h = Each-from_in (Contains table) terms (λ t c. h.has t c)

at-place : {X Y : Type 0} (f : X → Y) (xs : List X) (i : ℕ) (x : X) → i < length xs → x ≡ get_or xs i x → slice_get (map f xs) i ≡ Some (f x)
at-place f xs i x h is = slice_get-map f xs i ∙ ap (option_map f) (slice_get_read xs (length xs) i x refl h is)

-- what stands at the same place of equal lists
pub same-at : {X Y Z : Type 0} (f : X → Z) (g : Y → Z) (xs : List X) (ys : List Y) (i : ℕ) (x : X) (y : Y) → map f xs ≡ map g ys → slice_get xs i ≡ Some x → i < length ys → y ≡ get_or ys i y → f x ≡ g y
same-at {Z = Z} f g xs ys i x y all at lt is =
    let left : slice_get (map f xs) i ≡ Some (f x) = slice_get-map f xs i ∙ ap (option_map f) at in
    let right : slice_get (map f xs) i ≡ Some (g y) = ap (λ (zs : List Z). slice_get zs i) all ∙ at-place g ys i y lt is in
    cc
