-- Programs and moves in a row, one more after another.
use Rattle.std.proofs.Common.{◌≡◌, ℕ, zero, suc, ◌+◌, ◌<◌, List, [], ◌∷◌, ◌++◌, length, drop, sym, ◌∙◌, ap, subst, arith, get_or, add-one, append_assoc, length-append}
use Rattle.std.proofs.lemmas.List.{length-map}
use Rattle.std.specs.List.{AllZip}
use Rattle.od_asked.specs.Asked.{Asked, asked_part, asked_path, asked_surface}
use Rattle.od_columns.specs.Lent.{all_lent, lent}
use Rattle.od_columns.specs.declared.asks.Asking.{Asking}
use Rattle.od_pattern.specs.declared.pattern.Surface.{Surface}
use Rattle.od_pattern.specs.declared.rule.HopPart.{HopPart}
use Rattle.od_reach.specs.Code.{code_of}
use Rattle.od_reach.specs.declared.moves.Move.{Move}
use Rattle.od_rule.specs.Codes.{part_surfaces, IsPlaced}
use Rattle.od_pairing.specs.Hop.{part_codes}
use Rattle.od_rule.specs.declared.code.Placed.{Placed}

-- one pair more
pub zip_more : {A B : Type 0} (R : A → B → Type 0) (xs : List A) (ys : List B) (x : A) (y : B)
    → AllZip R xs ys → R x y → AllZip R (xs ++ x ∷ []) (ys ++ y ∷ [])
zip_more R [] [] x y zip r = (r, tt)
zip_more R [] (b ∷ ys) x y zip r = absurd zip
zip_more R (a ∷ xs) [] x y zip r = absurd zip
zip_more R (a ∷ xs) (b ∷ ys) x y zip r = (zip.0, zip_more R xs ys x y zip.1 r)

-- the elements from one on
drop_next : {A : Type 0} (xs : List A) (i : ℕ) (x : A) → i < length xs → x ≡ get_or xs i x → drop i xs ≡ x ∷ drop (suc i) xs
drop_next [] i x h e = absurd (omega arith)
drop_next (y ∷ xs) zero x h e = ap (λ z. z ∷ xs) (sym e)
drop_next (y ∷ xs) (suc i) x h e = drop_next xs i x (omega arith) e

pub drop_more : {A : Type 0} (xs : List A) (i : ℕ) (x : A) → i < length xs → x ≡ get_or xs i x → drop i xs ≡ x ∷ drop (i + 1) xs
drop_more xs i x h e = rw add-one (drop_next xs i x h e)

-- how many things are asked when some more are
pub grown : (xs ys : List Asking) (more : List Asked) → all_lent ys ≡ all_lent xs ++ more → length ys ≡ length xs + length more
grown xs ys more e =
    sym (length-map ys lent) ∙ ap length e ∙ length-append (all_lent xs) more ∙ ap (λ n. n + length more) (length-map xs lent)

-- the programs of one part more
pub placed_more : (programs more : List Placed) (p : Placed) (before : List (ℕ × Surface)) (all : List (ℕ × Surface)) (n m k : ℕ) (part : HopPart) (parts rest : List HopPart)
    → parts ≡ part ∷ rest → m ≡ n + length (asked_path part.path) → k ≡ m + length (asked_surface part.surface)
    → more ≡ programs ++ p ∷ [] → IsPlaced p (m, part.surface)
    → (placed : List (ℕ × Surface)) × AllZip IsPlaced programs placed × (placed ++ part_surfaces n parts ≡ all)
    → (placed : List (ℕ × Surface)) × AllZip IsPlaced more placed × (placed ++ part_surfaces k rest ≡ all)
placed_more programs more p before all n m k part parts rest is path surface pushed own old = (
  old.0 ++ (m, part.surface) ∷ [],
  subst (λ (z : List Placed). AllZip IsPlaced z (old.0 ++ (m, part.surface) ∷ [])) (sym pushed)
      (zip_more IsPlaced programs old.0 p (m, part.surface) old.1 own),
  append_assoc old.0 ((m, part.surface) ∷ []) (part_surfaces k rest)
      ∙ ap (λ z. old.0 ++ z) (ap (λ z. (z, part.surface) ∷ part_surfaces k rest) path ∙ ap (λ z. (n + length (asked_path part.path), part.surface) ∷ part_surfaces z rest) after)
      ∙ ap (λ z. old.0 ++ part_surfaces n z) (sym is)
      ∙ old.2,
)
  where
    after : k ≡ n + length (asked_part part)
    after = let both : length (asked_part part) ≡ length (asked_path part.path) + length (asked_surface part.surface) = length-append (asked_path part.path) (asked_surface part.surface) in omega (arith, path, surface, both)

-- the moves of one part more
pub part_moves_more : (moves more all : List (List Move)) (n k : ℕ) (part : HopPart) (parts rest : List HopPart)
    → parts ≡ part ∷ rest → k ≡ n + length (asked_path part.path) + length (asked_surface part.surface)
    → more ≡ moves ++ code_of n part.path ∷ [] → moves ++ part_codes n parts ≡ all → more ++ part_codes k rest ≡ all
part_moves_more moves more all n k part parts rest is long pushed old =
    ap (λ z. z ++ part_codes k rest) pushed ∙ append_assoc moves (code_of n part.path ∷ []) (part_codes k rest)
    ∙ ap (λ z. moves ++ code_of n part.path ∷ part_codes z rest) after ∙ ap (λ z. moves ++ part_codes n z) (sym is) ∙ old
  where
    after : k ≡ n + length (asked_part part)
    after = let both : length (asked_part part) ≡ length (asked_path part.path) + length (asked_surface part.surface) = length-append (asked_path part.path) (asked_surface part.surface) in omega (arith, long, both)
