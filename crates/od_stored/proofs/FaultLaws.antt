-- First faults lie at one of the bytes, or where they end.
use Rattle.std.proofs.Common.{◌≡◌, ℕ, zero, suc, ◌<◌, Bool, true, false, cond, ltb, leb, List, [], ◌∷◌, length, take, drop, Some, Result, Ok, Err, refl, subst, arith}
use Rattle.std.specs.Str.{is_utf8}
use Rattle.od_extraction.specs.declared.mention.Mention.{Mention}
use Rattle.od_stored.specs.declared.fault.CodecFault.{CodecFault}
use Rattle.od_stored.specs.declared.fault.CodecFault.TheVariants as fault
use Rattle.od_stored.specs.declared.fault.NumberFault.{NumberFault}
use Rattle.od_stored.specs.declared.fault.NumberFault.TheVariants.{Ends, Wrong}
use Rattle.od_stored.specs.Laws.{IsFaultAt, PlacesFaults}
use Rattle.od_stored.specs.Numbers.{number_read, septets_read}
use Rattle.od_stored.specs.Steps.{◌>>=◌, in_a_row}
use Rattle.od_stored.specs.Texts.{place, placed, number_at, text_of, text_at}
use Rattle.od_stored.specs.ReadMentions.{label_at, part_end_at, mention_end_at, part_at, counted_at, mention_at, ended, list_read}

err_is : {A : Type 0} (x y : CodecFault) → ◌≡◌ {A = Result A CodecFault} (Err x) (Err y) → x ≡ y
err_is x y e = cc

-- a result's fault, if it is one, lies at one of so many bytes
abbrev Lies : {X : Type 0} → ℕ → Result X CodecFault → Type 0
Lies total (Ok x) = Unit {0}
Lies total (Err f) = IsFaultAt total f

then_lies : {A B : Type 0} (total : ℕ) (r : Result A CodecFault) (f : A → Result B CodecFault) → Lies total r → ((x : A) → r ≡ Ok x → Lies total (f x)) → Lies total (r >>= f)
then_lies total (Ok x) f h k = k x refl
then_lies total (Err e) f h k = h

cond_lies : {A : Type 0} (total : ℕ) (b : Bool) (x y : Result A CodecFault) → Lies total x → Lies total y → Lies total (cond b x y)
cond_lies total true x y h k = h
cond_lies total false x y h k = k

-- where something is left, it begins at one of the bytes
begins : (t b : ℕ) (bytes : List ℕ) → place (suc t) (b ∷ bytes) < suc t
begins t b bytes = omega arith

placed_lies : {X : Type 0} (t b : ℕ) (bytes : List ℕ) (r : Result X NumberFault) → Lies (suc t) (placed (suc t) (b ∷ bytes) r)
placed_lies t b bytes (Ok x) = tt
placed_lies t b bytes (Err Ends) = refl
placed_lies t b bytes (Err Wrong) = begins t b bytes

number_lies : (t : ℕ) (bytes : List ℕ) → Lies (suc t) (number_at (suc t) bytes)
unfolding number_at septets_read
number_lies t [] = refl
number_lies t (b ∷ bytes) = placed_lies t b bytes (number_read (b ∷ bytes))

-- where a number was read, something was left
number_begins : (t : ℕ) (bytes : List ℕ) (x : ℕ × List ℕ) → number_at (suc t) bytes ≡ Ok x → place (suc t) bytes < suc t
unfolding number_at septets_read
number_begins t [] x e = absurd (cc)
number_begins t (b ∷ bytes) x e = begins t b bytes

text_lies : (t : ℕ) (bytes : List ℕ) → Lies (suc t) (text_at (suc t) bytes)
unfolding text_at
text_lies t bytes = then_lies (suc t) (number_at (suc t) bytes) (λ size. text_of (suc t) (place (suc t) bytes) size.0 size.1) (number_lies t bytes)
    (λ n is. cond_lies (suc t) (ltb (length n.1) n.0) (Err (fault.Short (suc t))) (cond (is_utf8 (take n.0 n.1)) (Ok (take n.0 n.1, drop n.0 n.1)) (Err (fault.BadText (place (suc t) bytes)))) refl
    (cond_lies (suc t) (is_utf8 (take n.0 n.1)) (Ok (take n.0 n.1, drop n.0 n.1)) (Err (fault.BadText (place (suc t) bytes))) tt (number_begins t bytes n is)))

label_lies : (t : ℕ) (bytes : List ℕ) → Lies (suc t) (label_at (suc t) bytes)
unfolding label_at
label_lies t [] = refl
label_lies t (zero ∷ bytes) = tt
label_lies t (suc zero ∷ bytes) = then_lies (suc t) (text_at (suc t) bytes) (λ label. Ok (Some label.0, label.1)) (text_lies t bytes) (λ x is. tt)
label_lies t (suc (suc b) ∷ bytes) = begins t (suc (suc b)) bytes

part_end_lies : (t start : ℕ) (bytes : List ℕ) → Lies (suc t) (part_end_at (suc t) start bytes)
unfolding part_end_at
part_end_lies t start bytes = then_lies (suc t) (number_at (suc t) bytes) (λ end. cond (ltb end.0 start) (Err (fault.BadSpan (place (suc t) bytes))) (Ok end)) (number_lies t bytes)
    (λ n is. cond_lies (suc t) (ltb n.0 start) (Err (fault.BadSpan (place (suc t) bytes))) (Ok n) (number_begins t bytes n is) tt)

mention_end_lies : (t start : ℕ) (bytes : List ℕ) → Lies (suc t) (mention_end_at (suc t) start bytes)
unfolding mention_end_at
mention_end_lies t start bytes = then_lies (suc t) (number_at (suc t) bytes) (λ end. cond (leb end.0 start) (Err (fault.BadSpan (place (suc t) bytes))) (Ok end)) (number_lies t bytes)
    (λ n is. cond_lies (suc t) (leb n.0 start) (Err (fault.BadSpan (place (suc t) bytes))) (Ok n) (number_begins t bytes n is) tt)

row_lies : {X : Type 0} (total : ℕ) (read : List ℕ → Result (X × List ℕ) CodecFault) → ((bytes : List ℕ) → Lies total (read bytes)) → (n : ℕ) (bytes : List ℕ) → Lies total (in_a_row read n bytes)
unfolding in_a_row
row_lies total read lies zero bytes = tt
row_lies total read lies (suc n) bytes =
    then_lies total (read bytes) (λ first. in_a_row read n first.1 >>= λ others. Ok (first.0 ∷ others.0, others.1)) (lies bytes)
    (λ x is. then_lies total (in_a_row read n x.1) (λ others. Ok (x.0 ∷ others.0, others.1)) (row_lies total read lies n x.1) (λ y are. tt))

counted_lies : {X : Type 0} (t : ℕ) (read : List ℕ → Result (X × List ℕ) CodecFault) → ((bytes : List ℕ) → Lies (suc t) (read bytes)) → (bytes : List ℕ) → Lies (suc t) (counted_at read (suc t) bytes)
unfolding counted_at
counted_lies t read lies bytes = then_lies (suc t) (number_at (suc t) bytes) (λ count. in_a_row read count.0 count.1) (number_lies t bytes) (λ n is. row_lies (suc t) read lies n.0 n.1)

part_lies : (t : ℕ) (bytes : List ℕ) → Lies (suc t) (part_at (suc t) bytes)
unfolding part_at
part_lies t bytes =
    then_lies (suc t) (text_at (suc t) bytes) _ (text_lies t bytes) (λ name is1.
    then_lies (suc t) (label_at (suc t) name.1) _ (label_lies t name.1) (λ label is2.
    then_lies (suc t) (number_at (suc t) label.1) _ (number_lies t label.1) (λ start is3.
    then_lies (suc t) (part_end_at (suc t) start.0 start.1) _ (part_end_lies t start.0 start.1) (λ end is4. tt))))

mention_lies : (t : ℕ) (bytes : List ℕ) → Lies (suc t) (mention_at (suc t) bytes)
unfolding mention_at
mention_lies t bytes =
    then_lies (suc t) (number_at (suc t) bytes) _ (number_lies t bytes) (λ document is1.
    then_lies (suc t) (number_at (suc t) document.1) _ (number_lies t document.1) (λ sentence is2.
    then_lies (suc t) (number_at (suc t) sentence.1) _ (number_lies t sentence.1) (λ start is3.
    then_lies (suc t) (mention_end_at (suc t) start.0 start.1) _ (mention_end_lies t start.0 start.1) (λ end is4.
    then_lies (suc t) (text_at (suc t) end.1) _ (text_lies t end.1) (λ label is5.
    then_lies (suc t) (text_at (suc t) label.1) _ (text_lies t label.1) (λ rule is6.
    then_lies (suc t) (counted_at (part_at (suc t)) (suc t) rule.1) _ (counted_lies t (part_at (suc t)) (part_lies t) rule.1) (λ parts is7. tt)))))))

ended_lies : {X : Type 0} (t : ℕ) (x : X × List ℕ) → Lies (suc t) (ended (suc t) x)
ended_lies t (x, []) = tt
ended_lies t (x, b ∷ bytes) = begins t b bytes

list_lies : (bytes : List ℕ) → Lies (length bytes) (list_read bytes)
unfolding list_read
list_lies [] = refl
list_lies (zero ∷ bytes) = omega arith
list_lies (suc zero ∷ bytes) =
    let t : ℕ = length bytes in
    then_lies (suc t) (counted_at (mention_at (suc t)) (suc t) bytes) (λ ms. ended (suc t) ms) (counted_lies t (mention_at (suc t)) (mention_lies t) bytes) (λ ms is. ended_lies t ms)
list_lies (suc (suc b) ∷ bytes) = omega arith

pub faults_lie : PlacesFaults
faults_lie bytes f e = subst (λ (r : Result (List Mention) CodecFault). Lies (length bytes) r) e (list_lies bytes)
