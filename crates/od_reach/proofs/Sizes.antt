-- How many moves a path has, and its moves in pieces.
use Rattle.std.proofs.Common.{◌≡◌, ℕ, zero, suc, ◌+◌, ◌-◌, ◌*◌, ◌<◌, Bool, true, false, List, [], ◌∷◌, ◌++◌, length, take, drop, refl, sym, ◌∙◌, ap, arith, get_or, add-one, length-append, append_assoc, subst}
use Rattle.std.specs.Prelude.{Option, Some, None, if◌then◌else◌, nat_le}
use denote.Hole.Carrier.{hidden}
use Rattle.od_matching.proofs.Matching.Built.{path_row_of}
use Rattle.od_pattern.specs.declared.path.Path as path
use Rattle.od_pattern.specs.declared.path.Path.TheBlock.{hidden-the_row-Path-1}
use Rattle.od_pattern.specs.declared.path.Path.{Path, Row_of-Path, end_of-Path, more_of-Path, items-the_row-Path, items_hidden-the_row-Path-0}
use Rattle.od_reach.specs.Code.{rows_of, code_of, code_in_order, code_one_of, code_any, turns_code, endless_code, times_code, repeat_code, repeat_size, code_size, order_size, any_size, order_size_list, any_size_list}
use Rattle.od_reach.specs.declared.moves.Move.{Move}
use Rattle.od_reach.specs.declared.moves.Move.TheVariants.{Fork, Skip, Back, Fail}

length-turns : (b : List Move) (n : ℕ) → length (turns_code b n) ≡ n * (length b + 1)
length-turns b zero = omega arith
length-turns b (suc n) =
    let r : length (turns_code b n) ≡ n * (length b + 1) = length-turns b n in
    let q : length (b ++ turns_code b n) ≡ length b + length (turns_code b n) = length-append b (turns_code b n) in
    omega arith

length-times : (b : List Move) (n : ℕ) (rest : List Move) → length (times_code b n rest) ≡ n * length b + length rest
length-times b zero rest = omega arith
length-times b (suc n) rest =
    let r : length (times_code b n rest) ≡ n * length b + length rest = length-times b n rest in
    let q : length (b ++ times_code b n rest) ≡ length b + length (times_code b n rest) = length-append b (times_code b n rest) in
    omega arith

length-repeat : (b : List Move) (least : ℕ) (most : Option ℕ) → length (repeat_code b least most) ≡ repeat_size (length b) least most
length-repeat b least None =
    let r = length-times b least (endless_code b) in
    let q : length (b ++ (Back (length b + 1) ∷ [])) ≡ length b + 1 = length-append b (Back (length b + 1) ∷ []) in
    omega arith
length-repeat b least (Some most) = go (nat_le least most)
  where
    go : (c : Bool) → length (if c then times_code b least (turns_code b (most - least)) else Fail ∷ []) ≡ (if c then least * length b + (most - least) * (length b + 1) else 1)
    go true =
        let r = length-times b least (turns_code b (most - least)) in
        let q = length-turns b (most - least) in
        omega arith
    go false = refl

mutual
  unfolding code_of code_in_order code_one_of code_size order_size any_size

  pub length_code : (n : ℕ) (p : Path) → length (code_of n p) ≡ code_size p
  length_code n (path.Along value) = refl
  length_code n (path.Against value) = refl
  length_code n (path.Filter c) = refl
  length_code n (path.Seq' v row) = length_order n row
  length_code n (path.Alt' v row) = length_any n row
  length_code n (path.Repeat' v (more_of-Path body end_of-Path) least most) = length-repeat (code_of n body) least most ∙ ap (λ z. repeat_size z least most) (length_code n body)

  length_order : (n : ℕ) {m : _} (row : Row_of-Path m) → length (code_in_order n row) ≡ order_size row
  length_order n end_of-Path = refl
  length_order n (more_of-Path p rest) =
      let r = length_code n p in let s = length_order (n + rows_of p) rest in
      let q = length-append (code_of n p) (code_in_order (n + rows_of p) rest) in omega arith

  length_any : (n : ℕ) {m : _} (row : Row_of-Path m) → length (code_one_of n row) ≡ any_size row
  length_any n end_of-Path = refl
  length_any n (more_of-Path p rest) =
      let r = length_code n p in let s = length_any (n + rows_of p) rest in
      let q = length-append (code_of n p) (Skip (length (code_one_of (n + rows_of p) rest)) ∷ code_one_of (n + rows_of p) rest) in omega arith

order_row : (n : _) (row : Row_of-Path n) → order_size row ≡ order_size_list (items-the_row-Path n row)
unfolding order_size
order_row n end_of-Path = refl
order_row n (more_of-Path p rest) = ap (λ z. code_size p + z) (order_row _ rest)

any_row : (n : _) (row : Row_of-Path n) → any_size row ≡ any_size_list (items-the_row-Path n row)
unfolding any_size
any_row n end_of-Path = refl
any_row n (more_of-Path p rest) = ap (λ z. (code_size p + 2) + z) (any_row _ rest)

code_any_row : (m : ℕ) (n : _) (row : Row_of-Path n) → code_one_of m row ≡ code_any m (items-the_row-Path n row)
unfolding code_of code_one_of
code_any_row m n end_of-Path = refl
code_any_row m n (more_of-Path p rest) =
    ap (λ z. Fork (length (code_of m p) + 1) ∷ (code_of m p ++ (Skip (length z) ∷ z))) (code_any_row (m + rows_of p) _ rest)

-- how many moves a path has, from its parts
pub size_seq : (v : List Path) → code_size (path.Seq v) ≡ order_size_list v
unfolding code_size
size_seq v = let row = path_row_of (path.Seq v) in order_row row.0 row.1 ∙ ap order_size_list (items_hidden-the_row-Path-0 v)

pub size_alt : (v : List Path) → code_size (path.Alt v) ≡ any_size_list v
unfolding code_size
size_alt v = let row = path_row_of (path.Seq v) in any_row row.0 row.1 ∙ ap any_size_list (items_hidden-the_row-Path-0 v)

pub size_repeat : (p : Path) (least : ℕ) (most : Option ℕ) → code_size (path.Repeat p least most) ≡ repeat_size (code_size p) least most
unfolding code_size hidden hidden-the_row-Path-1
size_repeat p least most = refl

pub code_alt : (m : ℕ) (v : List Path) → code_of m (path.Alt v) ≡ code_any m v
unfolding code_of code_one_of
code_alt m v = let row = path_row_of (path.Seq v) in code_any_row m row.0 row.1 ∙ ap (code_any m) (items_hidden-the_row-Path-0 v)

pub length_any_list : (n : ℕ) (ps : List Path) → length (code_any n ps) ≡ any_size_list ps
length_any_list n [] = refl
length_any_list n (p ∷ ps) =
    let r = length_code n p in let s = length_any_list (n + rows_of p) ps in
    let q = length-append (code_of n p) (Skip (length (code_any (n + rows_of p) ps)) ∷ code_any (n + rows_of p) ps) in omega arith

any_size_drop_next : (ps : List Path) (i : ℕ) (p : Path) → i < length ps → p ≡ get_or ps i p → any_size_list (drop i ps) ≡ (code_size p + 2) + any_size_list (drop (suc i) ps)
any_size_drop_next [] i p h e = absurd (omega arith)
any_size_drop_next (q ∷ ps) zero p h e = ap (λ z. (code_size z + 2) + any_size_list ps) (sym e)
any_size_drop_next (q ∷ ps) (suc i) p h e = any_size_drop_next ps i p (omega arith) e

pub any_size_drop : (ps : List Path) (i : ℕ) (p : Path) → i < length ps → p ≡ get_or ps i p → any_size_list (drop i ps) ≡ (code_size p + 2) + any_size_list (drop (i + 1) ps)
any_size_drop ps i p h e = rw add-one (any_size_drop_next ps i p h e)

order_size_next : (ps : List Path) (i : ℕ) (p : Path) → i < length ps → p ≡ get_or ps i p → order_size_list (take (suc i) ps) ≡ order_size_list (take i ps) + code_size p
order_size_next [] i p h e = absurd (omega arith)
order_size_next (q ∷ ps) zero p h e = let r : code_size p ≡ code_size q = ap code_size e in omega arith
order_size_next (q ∷ ps) (suc i) p h e = let r : order_size_list (take (suc i) ps) ≡ order_size_list (take i ps) + code_size p = order_size_next ps i p (omega arith) e in omega arith

pub order_size_take : (ps : List Path) (i : ℕ) (p : Path) → i < length ps → p ≡ get_or ps i p → order_size_list (take (i + 1) ps) ≡ order_size_list (take i ps) + code_size p
order_size_take ps i p h e = rw add-one (order_size_next ps i p h e)

any_size_next : (ps : List Path) (i : ℕ) (p : Path) → i < length ps → p ≡ get_or ps i p → any_size_list (take (suc i) ps) ≡ any_size_list (take i ps) + (code_size p + 2)
any_size_next [] i p h e = absurd (omega arith)
any_size_next (q ∷ ps) zero p h e = let r : code_size p ≡ code_size q = ap code_size e in omega arith
any_size_next (q ∷ ps) (suc i) p h e = let r : any_size_list (take (suc i) ps) ≡ any_size_list (take i ps) + (code_size p + 2) = any_size_next ps i p (omega arith) e in omega arith

pub any_size_take : (ps : List Path) (i : ℕ) (p : Path) → i < length ps → p ≡ get_or ps i p → any_size_list (take (i + 1) ps) ≡ any_size_list (take i ps) + (code_size p + 2)
any_size_take ps i p h e = rw add-one (any_size_next ps i p h e)

-- one alternative more
any_drop_next : (n : ℕ) (ps : List Path) (i : ℕ) (p : Path) → i < length ps → p ≡ get_or ps i p
    → code_any n (drop i ps) ≡ Fork (length (code_of n p) + 1) ∷ (code_of n p ++ (Skip (length (code_any (n + rows_of p) (drop (suc i) ps))) ∷ code_any (n + rows_of p) (drop (suc i) ps)))
any_drop_next n [] i p h e = absurd (omega arith)
any_drop_next n (q ∷ ps) zero p h e =
    ap (λ z. Fork (length (code_of n z) + 1) ∷ (code_of n z ++ (Skip (length (code_any (n + rows_of z) ps)) ∷ code_any (n + rows_of z) ps))) (sym e)
any_drop_next n (q ∷ ps) (suc i) p h e = any_drop_next n ps i p (omega arith) e

-- the code with one alternative more written out
pub any_written : (old : List Move) (n : ℕ) (ps : List Path) (i : ℕ) (p : Path) (size rest : ℕ) → i < length ps → p ≡ get_or ps i p
    → size ≡ code_size p + 1 → rest ≡ any_size_list (drop (i + 1) ps)
    → (((old ++ Fork size ∷ []) ++ code_of n p) ++ Skip rest ∷ []) ++ code_any (n + rows_of p) (drop (i + 1) ps) ≡ old ++ code_any n (drop i ps)
any_written old n ps i p size rest h e es er =
    let next : List Move = code_any (n + rows_of p) (drop (i + 1) ps) in
    let lp : size ≡ length (code_of n p) + 1 = let q = length_code n p in omega arith in
    let lr : rest ≡ length next = er ∙ sym (length_any_list (n + rows_of p) (drop (i + 1) ps)) in
    let d : code_any n (drop i ps) ≡ Fork (length (code_of n p) + 1) ∷ (code_of n p ++ (Skip (length next) ∷ next)) =
    let at : ℕ → List Move = λ z. code_any (n + rows_of p) (drop z ps) in
    subst (λ (z : ℕ). code_any n (drop i ps) ≡ Fork (length (code_of n p) + 1) ∷ (code_of n p ++ (Skip (length (at z)) ∷ at z))) (let q : suc i ≡ i + 1 = omega arith in q) (any_drop_next n ps i p h e) in
    let shape : (((old ++ Fork size ∷ []) ++ code_of n p) ++ Skip rest ∷ []) ++ next ≡ old ++ (Fork size ∷ (code_of n p ++ (Skip rest ∷ next))) = simp append_assoc in
    shape ∙ ap (λ z. old ++ (Fork z ∷ (code_of n p ++ (Skip rest ∷ next)))) lp ∙ ap (λ z. old ++ (Fork (length (code_of n p) + 1) ∷ (code_of n p ++ (Skip z ∷ next)))) lr ∙ ap (λ z. old ++ z) (sym d)

-- one further turn more
pub turns_written : (old : List Move) (b : List Move) (n left skip : ℕ) → n ≡ suc left → skip ≡ length b + left * (length b + 1)
    → ((old ++ Fork skip ∷ []) ++ b) ++ turns_code b left ≡ old ++ turns_code b n
turns_written old b n left skip en es =
    let l : skip ≡ length b + length (turns_code b left) = let q = length-turns b left in omega arith in
    let shape : ((old ++ Fork skip ∷ []) ++ b) ++ turns_code b left ≡ old ++ (Fork skip ∷ (b ++ turns_code b left)) = simp append_assoc in
    shape ∙ ap (λ z. old ++ (Fork z ∷ (b ++ turns_code b left))) l ∙ ap (λ z. old ++ turns_code b z) (sym en)

-- one turn without a choice more
pub times_written : (old b rest : List Move) (n left : ℕ) → n ≡ suc left → (old ++ b) ++ times_code b left rest ≡ old ++ times_code b n rest
times_written old b rest n left e = append_assoc old b (times_code b left rest) ∙ ap (λ z. old ++ times_code b z rest) (sym e)
