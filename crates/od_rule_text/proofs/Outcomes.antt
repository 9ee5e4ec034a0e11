-- What an answer says of the tests before it.
use Rattle.std.proofs.Common.{◌≡◌, ◌≤◌, List, ◌∷◌, length, Bool, true, false, refl, subst, Option, Some, None, Result, Ok, Err}
use Rattle.std.specs.Prelude.{if◌then◌else◌, nat_lt, ◌&&◌, ◌||◌, not, IfErr}
use Rattle.std.specs.Option.{option_or}
use Rattle.std.proofs.lemmas.Bool.{ltb-false}
use Rattle.od_rule_text.specs.declared.grammar_fault.GrammarLimit.{GrammarLimit}
use Rattle.od_rule_text.specs.declared.grammar_fault.GrammarFault.{GrammarFault}
use Rattle.od_rule_text.specs.Grammars.{within, limit_of, and_then, one_more, unless}

pub same_ok : {X E : Type 0} (r : Result X E) (x y : X) → r ≡ Ok x → r ≡ Ok y → x ≡ y
same_ok r x y e f = cc

pub same_some : {X : Type 0} (o : Option X) (x y : X) → o ≡ Some x → o ≡ Some y → x ≡ y
same_some o x y e f = cc

pub both : (a b : Bool) → (a && b) ≡ true → (a ≡ true) × (b ≡ true)
both true b e = (refl, e)
both false b e = absurd (cc)

pub taken : {X : Type 0} (t : Bool) (o : Option X) (x : X) → (if t then o else None) ≡ Some x → (t ≡ true) × (o ≡ Some x)
taken true o x e = (refl, e)
taken false o x e = absurd (cc)

pub neither : (a b : Bool) → (a || b) ≡ false → (a ≡ false) × (b ≡ false)
neither true b e = absurd (cc)
neither false b e = (refl, e)

pub not_false : (a : Bool) → not a ≡ false → a ≡ true
not_false true e = refl
not_false false e = absurd (cc)

-- a value behind a test that refuses, and behind one that must pass
pub behind_refusal : {X E : Type 0} (t : Bool) (f : E) (r : Result X E) (x : X) → (if t then Err f else r) ≡ Ok x → (t ≡ false) × (r ≡ Ok x)
behind_refusal true f r x e = absurd (cc)
behind_refusal false f r x e = (refl, e)

pub behind_test : {X E : Type 0} (t : Bool) (f : E) (r : Result X E) (x : X) → (if t then r else Err f) ≡ Ok x → (t ≡ true) × (r ≡ Ok x)
behind_test true f r x e = (refl, e)
behind_test false f r x e = absurd (cc)

pub within-ok : {X Y : Type 0} (which : GrammarLimit) (xs : List X) (r : Result Y GrammarFault) (y : Y) → within which xs r ≡ Ok y → (length xs ≤ limit_of which) × (r ≡ Ok y)
within-ok which xs r y e =
    let b = behind_refusal (nat_lt (limit_of which) (length xs)) _ r y e in
    (ltb-false (limit_of which) (length xs) b.0, b.1)

pub and_then-ok : {X Y : Type 0} (r : Result X GrammarFault) (more : X → Result Y GrammarFault) (y : Y) → and_then r more ≡ Ok y → (x : X) × (r ≡ Ok x) × (more x ≡ Ok y)
and_then-ok (Ok x) more y e = (x, refl, e)
and_then-ok (Err f) more y e = absurd (cc)

pub one_more-ok : {X : Type 0} (x : X) (r : Result (List X) GrammarFault) (ys : List X) → one_more x r ≡ Ok ys → (xs : List X) × (r ≡ Ok xs) × (ys ≡ x ∷ xs)
one_more-ok x (Ok xs) ys e = (xs, refl, cc)
one_more-ok x (Err f) ys e = absurd (cc)

pub unless-ok : {X : Type 0} (o : Option GrammarFault) (x y : X) → unless o x ≡ Ok y → (o ≡ None) × (y ≡ x)
unless-ok None x y e = (refl, cc)
unless-ok (Some f) x y e = absurd (cc)

-- ## No fault

pub no_fault : (t : Bool) (f : GrammarFault) → (if t then Some f else None) ≡ None → t ≡ false
no_fault true f e = absurd (cc)
no_fault false f e = refl

pub no_fault_behind : (t : Bool) (o : Option GrammarFault) (f : GrammarFault) → (if t then o else Some f) ≡ None → (t ≡ true) × (o ≡ None)
no_fault_behind true o f e = (refl, e)
no_fault_behind false o f e = absurd (cc)

pub neither_fault : (o p : Option GrammarFault) → option_or o p ≡ None → (o ≡ None) × (p ≡ None)
neither_fault None p e = (refl, e)
neither_fault (Some f) p e = absurd (cc)

-- ## What every fault has

pub if-errs : {X : Type 0} (P : GrammarFault → Type 0) (t : Bool) (a b : Result X GrammarFault) → IfErr a P → IfErr b P → IfErr (if t then a else b) P
if-errs P true a b h k = h
if-errs P false a b h k = k

pub and_then-errs : {X Y : Type 0} (P : GrammarFault → Type 0) (r : Result X GrammarFault) (more : X → Result Y GrammarFault) → IfErr r P → ((x : X) → IfErr (more x) P) → IfErr (and_then r more) P
and_then-errs P (Ok x) more h k = k x
and_then-errs P (Err f) more h k = h

pub one_more-errs : {X : Type 0} (P : GrammarFault → Type 0) (x : X) (r : Result (List X) GrammarFault) → IfErr r P → IfErr (one_more x r) P
one_more-errs P x (Ok xs) h = tt
one_more-errs P x (Err f) h = h

pub err-of : {X : Type 0} (P : GrammarFault → Type 0) (r : Result X GrammarFault) (f : GrammarFault) → IfErr r P → r ≡ Err f → P f
err-of P (Ok x) f h e = absurd (cc)
err-of P (Err g) f h e = let same : g ≡ f = cc in subst P same h
