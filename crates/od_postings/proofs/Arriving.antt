-- Terms that come one after another.
use Rattle.std.proofs.Common.{◌≡◌, ℕ, suc, zero, ◌+◌, ◌<◌, ◌≤◌, List, [], ◌∷◌, ◌++◌, refl, sym, ◌∙◌, ap, ap₂, subst, arith, length, map, flat_map, take, get_or, slice_get, Some, None, true, inl, inr, Option}
use Rattle.std.specs.Prelude.{ltb, Contains, ◌⊎◌, IfSome, option_map}
use Rattle.std.specs.Borrow.{Bor}
use Rattle.std.proofs.lemmas.Bool.{ltb-true}
use Rattle.std.proofs.lemmas.Option.{slice_get_read, slice_get-map}
use Rattle.std.proofs.lemmas.List.{take_more, map-append, flat_map_more}
use Rattle.std.proofs.lemmas.List.Elements.{Contains-append_cases, Contains-append_left, Contains-append_right}
use Rattle.od_pattern.specs.declared.pattern.Field.{Field}
use Rattle.od_pattern.specs.declared.pattern.Field.TheVariants.{Word, Norm, Lemma, Upos, Tag, Entity, Chunk}
use Rattle.od_document.specs.declared.token.Token.{Token}
use Rattle.od_document.specs.declared.token.Edge.{Edge}
use Rattle.od_document.specs.declared.sentence.Sentence.{Sentence}
use Rattle.od_document.specs.Reading.{shown}
use Rattle.od_document.specs.Size.{sentence_parts, size_in_parts}
use Rattle.od_index.specs.Terms.{Term, token_terms, term_in}
use Rattle.od_index.specs.Tables.{IsNumber}
use Rattle.od_index.proofs.Members.{Contains-cases, Contains-none, Contains-slice_get, slice_get-contained}
use Rattle.od_text.specs.Lists.{Each}
use Rattle.od_text.proofs.Lists.{Each-weaker}
use Rattle.od_postings.specs.declared.numbers.TokenNumbers.{TokenNumbers}
use Rattle.od_postings.specs.declared.numbers.EdgeNumbers.{EdgeNumbers}
use Rattle.od_postings.specs.declared.drafts.Draft.{Draft}
use Rattle.od_postings.specs.Arrivals.{Adds, drafted, DraftFits}
use Rattle.od_postings.specs.Numbers.{text_of, text_there, token_of, edge_of, IsNumbered, TokenFits, EdgeFits}
use Rattle.od_postings.specs.Seen.{term_seen, terms_seen}

-- the term at a place that has this field and this text
pub number-there : (ts : List (Field × Bor (List ℕ))) (i : ℕ) (other : Field × Bor (List ℕ)) (f : Field) (t : List ℕ) → (true ≡ ltb i (length ts)) → other ≡ get_or ts i other → other.0 ≡ f → other.1.now ≡ t → IsNumber (terms_seen ts) f t i
number-there ts i other f t lt at field text =
    let there : slice_get ts i ≡ Some other = slice_get_read ts (length ts) i other refl (ltb-true i (length ts) (sym lt)) at in
    slice_get-map term_seen ts i ∙ ap (option_map term_seen) there ∙ ap (λ (g : Field). Some (g, other.1.now)) field ∙ ap (λ (u : List ℕ). Some (f, u)) text

stays : (xs ys : List Term) (n : ℕ) (t : Term) → slice_get xs n ≡ Some t → slice_get (xs ++ ys) n ≡ Some t
stays [] ys n t e = absurd (cc)
stays (x ∷ xs) ys zero t e = e
stays (x ∷ xs) ys (suc n) t e = stays xs ys n t e

-- nothing came
pub adds-nothing : (ts : List Term) → Adds [] ts ts
adds-nothing ts = record { keeps = λ n t e. e; has = λ t c. absurd (Contains-none t c); adds_none = λ t c. inl c }

-- a term came that was there
pub adds-known : (ts : List Term) (n : ℕ) (t : Term) → slice_get ts n ≡ Some t → Adds (t ∷ []) ts ts
adds-known ts n t e = record { keeps = λ k u d. d; has = λ u c. has u (Contains-cases t [] u c); adds_none = λ u c. inl c }
  where
    has : (u : Term) → (t ≡ u) ⊎ Contains [] u → Contains ts u
    has u (inl same) = subst (Contains ts) same (Contains-slice_get ts n t e)
    has u (inr none) = absurd (Contains-none u none)

-- a term came that is put at the end
pub adds-more : (ts : List Term) (t : Term) → Adds (t ∷ []) ts (ts ++ t ∷ [])
adds-more ts t = record {
  keeps = λ n u e. stays ts (t ∷ []) n u e;
  has = λ u c. Contains-append_right ts (t ∷ []) u c;
  adds_none = λ u c. Contains-append_cases ts (t ∷ []) u c;
}

-- some came, and then others
pub adds-then : (us vs a b c : List Term) → Adds us a b → Adds vs b c → Adds (us ++ vs) a c
adds-then us vs a b c h k = record {
  keeps = λ n t e. k.keeps n t (h.keeps n t e);
  has = λ t d. has t (Contains-append_cases us vs t d);
  adds_none = λ t d. none t (k.adds_none t d);
}
  where
    -- what was there before is there
    later : (t : Term) → Contains b t → Contains c t
    later t d = let r = slice_get-contained b t d in Contains-slice_get c r.0 t (k.keeps r.0 t r.1)

    has : (t : Term) → Contains us t ⊎ Contains vs t → Contains c t
    has t (inl d) = later t (h.has t d)
    has t (inr d) = k.has t d

    first : (t : Term) → Contains a t ⊎ Contains us t → Contains a t ⊎ Contains (us ++ vs) t
    first t (inl d) = inl d
    first t (inr d) = inr (Contains-append_left us vs t d)

    none : (t : Term) → Contains b t ⊎ Contains vs t → Contains a t ⊎ Contains (us ++ vs) t
    none t (inl d) = first t (h.adds_none t d)
    none t (inr d) = inr (Contains-append_right us vs t d)

-- ## Numbers of what came, after more came

pub text-is : (a : List Term) (f : Field) (t : List ℕ) (n : ℕ) → IsNumber a f t n → text_of a n ≡ t
text-is a f t n e = ap text_there e

pub numbered-is : (a : List Term) (f : Field) (t : List ℕ) (n : ℕ) → IsNumber a f t n → IsNumbered a f n
numbered-is a f t n e = e ∙ ap (λ (u : List ℕ). Some (f, u)) (sym (text-is a f t n e))

module _ (ts a b : List Term) (h : Adds ts a b) where
  pub numbered-kept : (f : Field) (n : ℕ) → IsNumbered a f n → IsNumbered b f n
  numbered-kept f n e = numbered-is b f (text_of a n) n (h.keeps n (f, text_of a n) e)

  pub text-kept : (f : Field) (n : ℕ) → IsNumbered a f n → text_of b n ≡ text_of a n
  text-kept f n e = text-is b f (text_of a n) n (h.keeps n (f, text_of a n) e)

  pub option-fits-kept : (f : Field) (o : Option ℕ) → IfSome o (IsNumbered a f) → IfSome o (IsNumbered b f)
  option-fits-kept f None e = e
  option-fits-kept f (Some n) e = numbered-kept f n e

  pub option-is-kept : (f : Field) (o : Option ℕ) → IfSome o (IsNumbered a f) → option_map (text_of b) o ≡ option_map (text_of a) o
  option-is-kept f None e = refl
  option-is-kept f (Some n) e = ap (λ (u : List ℕ). Some u) (text-kept f n e)

  pub token-fits-kept : (t : TokenNumbers) → TokenFits a t → TokenFits b t
  token-fits-kept t fits = record {
    word = numbered-kept Word t.word fits.word;
    norm = numbered-kept Norm t.norm fits.norm;
    lemma = option-fits-kept Lemma t.lemma fits.lemma;
    upos = option-fits-kept Upos t.upos fits.upos;
    tag = option-fits-kept Tag t.tag fits.tag;
    entity = option-fits-kept Entity t.entity fits.entity;
    chunk = option-fits-kept Chunk t.chunk fits.chunk;
  }

  pub token-is-kept : (t : TokenNumbers) → TokenFits a t → token_of b t ≡ token_of a t
  token-is-kept t fits =
      rw (text-kept Word t.word fits.word, text-kept Norm t.norm fits.norm, option-is-kept Lemma t.lemma fits.lemma, option-is-kept Upos t.upos fits.upos, option-is-kept Tag t.tag fits.tag, option-is-kept Entity t.entity fits.entity, option-is-kept Chunk t.chunk fits.chunk) refl

  pub edge-fits-kept : (e : EdgeNumbers) → EdgeFits a e → EdgeFits b e
  edge-fits-kept e fits = numbered-kept Rattle.od_pattern.specs.declared.pattern.Field.TheVariants.Incoming e.label fits

  pub edge-is-kept : (e : EdgeNumbers) → EdgeFits a e → edge_of b e ≡ edge_of a e
  edge-is-kept e fits = rw (text-kept Rattle.od_pattern.specs.declared.pattern.Field.TheVariants.Incoming e.label fits) refl

  pub tokens-is-kept : (xs : List TokenNumbers) → Each (TokenFits a) xs → map (token_of b) xs ≡ map (token_of a) xs
  tokens-is-kept [] fits = refl
  tokens-is-kept (x ∷ xs) fits = ap₂ (λ (y : Token) ys. y ∷ ys) (token-is-kept x fits.0) (tokens-is-kept xs fits.1)

  pub tokens-fit-kept : (xs : List TokenNumbers) → Each (TokenFits a) xs → Each (TokenFits b) xs
  tokens-fit-kept xs fits = Each-weaker (TokenFits a) (TokenFits b) (λ t e. token-fits-kept t e) xs fits

  pub edges-is-kept : (xs : List EdgeNumbers) → Each (EdgeFits a) xs → map (edge_of b) xs ≡ map (edge_of a) xs
  edges-is-kept [] fits = refl
  edges-is-kept (x ∷ xs) fits = ap₂ (λ (y : Edge) ys. y ∷ ys) (edge-is-kept x fits.0) (edges-is-kept xs fits.1)

  pub edges-fit-kept : (xs : List EdgeNumbers) → Each (EdgeFits a) xs → Each (EdgeFits b) xs
  edges-fit-kept xs fits = Each-weaker (EdgeFits a) (EdgeFits b) (λ t e. edge-fits-kept t e) xs fits

  pub draft-fits-kept : (d : Draft) → DraftFits a d → DraftFits b d
  draft-fits-kept d fits = record { tokens = tokens-fit-kept d.tokens.items fits.tokens; edges = edges-fit-kept d.edges.items fits.edges }

  pub draft-is-kept : (d : Draft) → DraftFits a d → drafted b d ≡ drafted a d
  draft-is-kept d fits = ap₂ (λ (x : List Token) (y : List Edge). (x, y)) (tokens-is-kept d.tokens.items fits.tokens) (edges-is-kept d.edges.items fits.edges)

  pub drafts-is-kept : (xs : List Draft) → Each (DraftFits a) xs → map (drafted b) xs ≡ map (drafted a) xs
  drafts-is-kept [] fits = refl
  drafts-is-kept (x ∷ xs) fits = ap₂ (λ (y : List Token × List Edge) ys. y ∷ ys) (draft-is-kept x fits.0) (drafts-is-kept xs fits.1)

  pub drafts-fit-kept : (xs : List Draft) → Each (DraftFits a) xs → Each (DraftFits b) xs
  drafts-fit-kept xs fits = Each-weaker (DraftFits a) (DraftFits b) (λ d e. draft-fits-kept d e) xs fits

-- ## A token

module _ (token : Token) (a0 a1 a2 a3 a4 a5 a6 a7 : List Term) (r : TokenNumbers)
    (iw : IsNumber a1 Word token.word r.word) (im : IsNumber a2 Norm token.norm r.norm)
    (il : option_map (text_of a3) r.lemma ≡ token.lemma) (fl : IfSome r.lemma (IsNumbered a3 Lemma))
    (iu : option_map (text_of a4) r.upos ≡ token.upos) (fu : IfSome r.upos (IsNumbered a4 Upos))
    (it : option_map (text_of a5) r.tag ≡ token.tag) (ft : IfSome r.tag (IsNumbered a5 Tag))
    (ie : option_map (text_of a6) r.entity ≡ token.entity) (fe : IfSome r.entity (IsNumbered a6 Entity))
    (ic : option_map (text_of a7) r.chunk ≡ token.chunk) (fc : IfSome r.chunk (IsNumbered a7 Chunk))
    (x1 : Adds ((Word, token.word) ∷ []) a0 a1) (x2 : Adds ((Norm, token.norm) ∷ []) a1 a2)
    (x3 : Adds (term_in Lemma token.lemma) a2 a3) (x4 : Adds (term_in Upos token.upos) a3 a4) (x5 : Adds (term_in Tag token.tag) a4 a5)
    (x6 : Adds (term_in Entity token.entity) a5 a6) (x7 : Adds (term_in Chunk token.chunk) a6 a7) where
  abbrev t7 : List Term
  t7 = term_in Chunk token.chunk ++ []

  abbrev t6 : List Term
  t6 = term_in Entity token.entity ++ t7

  abbrev t5 : List Term
  t5 = term_in Tag token.tag ++ t6

  abbrev t4 : List Term
  t4 = term_in Upos token.upos ++ t5

  abbrev t3 : List Term
  t3 = term_in Lemma token.lemma ++ t4

  abbrev t2 : List Term
  t2 = ((Norm, token.norm) ∷ []) ++ t3

  d7 : Adds t7 a6 a7
  d7 = adds-then (term_in Chunk token.chunk) [] a6 a7 a7 x7 (adds-nothing a7)

  d6 : Adds t6 a5 a7
  d6 = adds-then (term_in Entity token.entity) t7 a5 a6 a7 x6 d7

  d5 : Adds t5 a4 a7
  d5 = adds-then (term_in Tag token.tag) t6 a4 a5 a7 x5 d6

  d4 : Adds t4 a3 a7
  d4 = adds-then (term_in Upos token.upos) t5 a3 a4 a7 x4 d5

  d3 : Adds t3 a2 a7
  d3 = adds-then (term_in Lemma token.lemma) t4 a2 a3 a7 x3 d4

  d2 : Adds t2 a1 a7
  d2 = adds-then ((Norm, token.norm) ∷ []) t3 a1 a2 a7 x2 d3

  pub token-adds : Adds (token_terms token) a0 a7
  token-adds = adds-then ((Word, token.word) ∷ []) t2 a0 a1 a7 x1 d2

  word-at : IsNumber a7 Word token.word r.word
  word-at = d2.keeps r.word (Word, token.word) iw

  norm-at : IsNumber a7 Norm token.norm r.norm
  norm-at = d3.keeps r.norm (Norm, token.norm) im

  pub token-fits : TokenFits a7 r
  token-fits = record {
    word = numbered-is a7 Word token.word r.word word-at;
    norm = numbered-is a7 Norm token.norm r.norm norm-at;
    lemma = option-fits-kept t4 a3 a7 d4 Lemma r.lemma fl;
    upos = option-fits-kept t5 a4 a7 d5 Upos r.upos fu;
    tag = option-fits-kept t6 a5 a7 d6 Tag r.tag ft;
    entity = option-fits-kept t7 a6 a7 d7 Entity r.entity fe;
    chunk = fc;
  }

  pub token-is : token_of a7 r ≡ token
  token-is =
      rw (
        text-is a7 Word token.word r.word word-at,
        text-is a7 Norm token.norm r.norm norm-at,
        option-is-kept t4 a3 a7 d4 Lemma r.lemma fl ∙ il,
        option-is-kept t5 a4 a7 d5 Upos r.upos fu ∙ iu,
        option-is-kept t6 a5 a7 d6 Tag r.tag ft ∙ it,
        option-is-kept t7 a6 a7 d7 Entity r.entity fe ∙ ie,
        ic,
      ) refl

-- ## One more of a list

pub flat-more : {X : Type 0} (f : X → List Term) (ys : List X) (i : ℕ) (y : X) → i < length ys → y ≡ get_or ys i y → flat_map f (take i ys) ++ f y ≡ flat_map f (take (i + 1) ys)
flat-more f ys i y lt is = flat_map_more f [] (take i ys) y ∙ ap (flat_map f) (sym (take_more ys i y lt ∙ ap (λ z. take i ys ++ z ∷ []) (sym is)))

-- one more came
pub adds-next : {X : Type 0} (f : X → List Term) (ys : List X) (i : ℕ) (y : X) (a b c : List Term) → i < length ys → y ≡ get_or ys i y → Adds (flat_map f (take i ys)) a b → Adds (f y) b c → Adds (flat_map f (take (i + 1) ys)) a c
adds-next f ys i y a b c lt is h k = subst (λ (ts : List Term). Adds ts a c) (flat-more f ys i y lt is) (adds-then (flat_map f (take i ys)) (f y) a b c h k)

-- one more stands for one more
pub more-drafted : {X Y : Type 0} (f g : X → Y) (ys : List Y) (new xs : List X) (i : ℕ) (x : X) (y : Y) → new ≡ xs ++ x ∷ [] → map g xs ≡ map f xs → map f xs ≡ take i ys → i < length ys → y ≡ get_or ys i y → g x ≡ y → map g new ≡ take (i + 1) ys
more-drafted f g ys new xs i x y e kept h lt is same =
    ap (map g) e ∙ map-append g xs (x ∷ []) ∙ ap₂ (λ us v. us ++ v ∷ []) (kept ∙ h) same ∙ sym (take_more ys i y lt ∙ ap (λ z. take i ys ++ z ∷ []) (sym is))

-- the parts of one more sentence
parts-within-next : (ss : List Sentence) (i : ℕ) (s : Sentence) → i < length ss → s ≡ get_or ss i s → size_in_parts (take i ss) + sentence_parts s ≤ size_in_parts ss
parts-within-next [] i s lt is = absurd (omega (arith, lt))
parts-within-next (x ∷ ss) zero s lt is = omega (arith, ap sentence_parts is)
parts-within-next (x ∷ ss) (suc i) s lt is = omega (arith, parts-within-next ss i s (omega (arith, lt)) is)

pub parts-within : (ss : List Sentence) (i : ℕ) (s : Sentence) → i < length ss → s ≡ get_or ss i s → size_in_parts (take i ss) + sentence_parts s ≤ size_in_parts ss
parts-within ss i s lt is = parts-within-next ss i s lt is

parts-append : (ss : List Sentence) (s : Sentence) → size_in_parts (ss ++ s ∷ []) ≡ size_in_parts ss + sentence_parts s
parts-append [] s = omega arith
parts-append (x ∷ ss) s = omega (arith, parts-append ss s)

pub parts-next : (ss : List Sentence) (i : ℕ) (s : Sentence) → i < length ss → s ≡ get_or ss i s → size_in_parts (take (i + 1) ss) ≡ size_in_parts (take i ss) + sentence_parts s
parts-next ss i s lt is = ap size_in_parts (take_more ss i s lt ∙ ap (λ z. take i ss ++ z ∷ []) (sym is)) ∙ parts-append (take i ss) s
