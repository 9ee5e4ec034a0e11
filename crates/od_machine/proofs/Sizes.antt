-- How many instructions a pattern has, and its code in pieces.
use Rattle.std.proofs.Common.{◌≡◌, ℕ, zero, suc, ◌+◌, ◌-◌, ◌*◌, ◌<◌, Bool, true, false, List, [], ◌∷◌, ◌++◌, length, take, drop, refl, sym, ◌∙◌, ap, arith, get_or, add-one, length-append, append_assoc, subst}
use Rattle.std.specs.Prelude.{Option, Some, None, if◌then◌else◌, nat_le}
use denote.Hole.Carrier.{hidden}
use Rattle.od_machine.specs.Code.{constraints, program_of, code_of, code_in_order, code_one_of, code_any, turns_code, endless_code, times_code, repeat_code, repeat_size, code_size, order_size, any_size, order_size_list, any_size_list}
use Rattle.od_matching.proofs.Matching.Built.{row_of}
use Rattle.od_pattern.specs.declared.pattern.Turns.{Turns}
use Rattle.od_pattern.specs.declared.pattern.Surface as surface
use Rattle.od_pattern.specs.declared.pattern.Surface.TheBlock.{hidden-the_row-Surface-1}
use Rattle.od_machine.specs.declared.instruction.Instruction.{Instruction}
use Rattle.od_machine.specs.declared.instruction.Instruction.TheVariants.{Split, Skip, Turn, Turned, Again, Close, Fail, Match}
use Rattle.od_pattern.specs.declared.pattern.Surface.{Surface, Row_of-Surface, end_of-Surface, more_of-Surface, items-the_row-Surface, items_hidden-the_row-Surface-0}
use Rattle.od_pattern.specs.declared.pattern.Surface.TheVariants.{Token, Label, Look, First, Last, Seq', Alt', Repeat', Capture'}

pub length-turns : (lazy : Bool) (b : List Instruction) (n : ℕ) → length (turns_code lazy b n) ≡ n * (length b + 2)
length-turns lazy b zero = omega arith
length-turns lazy b (suc n) =
    let r : length (turns_code lazy b n) ≡ n * (length b + 2) = length-turns lazy b n in
    let q : length (b ++ (Turned ∷ turns_code lazy b n)) ≡ length b + suc (length (turns_code lazy b n)) = length-append b (Turned ∷ turns_code lazy b n) in
    omega arith

length-times : (b : List Instruction) (n : ℕ) (rest : List Instruction) → length (times_code b n rest) ≡ n * length b + length rest
length-times b zero rest = omega arith
length-times b (suc n) rest =
    let r : length (times_code b n rest) ≡ n * length b + length rest = length-times b n rest in
    let q : length (b ++ times_code b n rest) ≡ length b + length (times_code b n rest) = length-append b (times_code b n rest) in
    omega arith

length-repeat : (lazy : Bool) (b : List Instruction) (least : ℕ) (most : Option ℕ) → length (repeat_code lazy b least most) ≡ repeat_size (length b) least most
length-repeat lazy b least None =
    let r = length-times b least (endless_code lazy b) in
    let q : length (b ++ (Again lazy (length b) ∷ [])) ≡ length b + 1 = length-append b (Again lazy (length b) ∷ []) in
    omega arith
length-repeat lazy b least (Some most) = go (nat_le least most)
  where
    go : (c : Bool) → length (if c then times_code b least (turns_code lazy b (most - least)) else Fail ∷ []) ≡ (if c then least * length b + (most - least) * (length b + 2) else 1)
    go true =
        let r = length-times b least (turns_code lazy b (most - least)) in
        let q = length-turns lazy b (most - least) in
        omega arith
    go false = refl

mutual
  unfolding code_of code_in_order code_one_of code_size order_size any_size

  pub length_code : (n : ℕ) (p : Surface) → length (code_of n p) ≡ code_size p
  length_code n (Token c) = refl
  length_code n (Label name) = refl
  length_code n (Look ahead positive c) = refl
  length_code n First = refl
  length_code n Last = refl
  length_code n (Seq' v row) = length_order n row
  length_code n (Alt' v row) = length_any n row
  length_code n (Repeat' v (more_of-Surface body end_of-Surface) turns) = length-repeat turns.lazy (code_of n body) turns.least turns.most ∙ ap (λ z. repeat_size z turns.least turns.most) (length_code n body)
  length_code n (Capture' name v (more_of-Surface body end_of-Surface)) = let r = length_code n body in let q = length-append (code_of n body) (Close ∷ []) in omega arith

  length_order : (n : ℕ) {m : _} (row : Row_of-Surface m) → length (code_in_order n row) ≡ order_size row
  length_order n end_of-Surface = refl
  length_order n (more_of-Surface p rest) =
      let r = length_code n p in let s = length_order (n + constraints p) rest in
      let q = length-append (code_of n p) (code_in_order (n + constraints p) rest) in omega arith

  length_any : (n : ℕ) {m : _} (row : Row_of-Surface m) → length (code_one_of n row) ≡ any_size row
  length_any n end_of-Surface = refl
  length_any n (more_of-Surface p rest) =
      let r = length_code n p in let s = length_any (n + constraints p) rest in
      let q = length-append (code_of n p) (Skip (length (code_one_of (n + constraints p) rest)) ∷ code_one_of (n + constraints p) rest) in omega arith

-- and its program has one more
pub length_program : (p : Surface) → length (program_of p) ≡ code_size p + 1
unfolding program_of
length_program p = let r = length_code 0 p in let q = length-append (code_of 0 p) (Match ∷ []) in omega arith

order_row : (n : _) (row : Row_of-Surface n) → order_size row ≡ order_size_list (items-the_row-Surface n row)
unfolding order_size
order_row n end_of-Surface = refl
order_row n (more_of-Surface p rest) = ap (λ z. code_size p + z) (order_row _ rest)

any_row : (n : _) (row : Row_of-Surface n) → any_size row ≡ any_size_list (items-the_row-Surface n row)
unfolding any_size
any_row n end_of-Surface = refl
any_row n (more_of-Surface p rest) = ap (λ z. (code_size p + 2) + z) (any_row _ rest)

code_any_row : (m : ℕ) (n : _) (row : Row_of-Surface n) → code_one_of m row ≡ code_any m (items-the_row-Surface n row)
unfolding code_one_of
code_any_row m n end_of-Surface = refl
code_any_row m n (more_of-Surface p rest) =
    ap (λ z. Split (length (code_of m p) + 1) ∷ (code_of m p ++ (Skip (length z) ∷ z))) (code_any_row (m + constraints p) _ rest)

-- how many instructions a pattern has, from its parts
pub size_seq : (ps : List Surface) → code_size (surface.Seq ps) ≡ order_size_list ps
unfolding code_size
size_seq ps = let row = row_of (surface.Seq ps) in order_row row.0 row.1 ∙ ap order_size_list (items_hidden-the_row-Surface-0 ps)

pub size_alt : (ps : List Surface) → code_size (surface.Alt ps) ≡ any_size_list ps
unfolding code_size
size_alt ps = let row = row_of (surface.Seq ps) in any_row row.0 row.1 ∙ ap any_size_list (items_hidden-the_row-Surface-0 ps)

pub size_repeat : (p : Surface) (turns : Turns) → code_size (surface.Repeat p turns) ≡ repeat_size (code_size p) turns.least turns.most
unfolding code_size hidden hidden-the_row-Surface-1
size_repeat p turns = refl

pub size_capture : (name : List ℕ) (p : Surface) → code_size (surface.Capture name p) ≡ code_size p + 2
unfolding code_size hidden hidden-the_row-Surface-1
size_capture name p = refl

pub code_alt : (m : ℕ) (ps : List Surface) → code_of m (surface.Alt ps) ≡ code_any m ps
unfolding code_of
code_alt m ps = let row = row_of (surface.Seq ps) in code_any_row m row.0 row.1 ∙ ap (code_any m) (items_hidden-the_row-Surface-0 ps)

pub length_any_list : (n : ℕ) (ps : List Surface) → length (code_any n ps) ≡ any_size_list ps
length_any_list n [] = refl
length_any_list n (p ∷ ps) =
    let r = length_code n p in let s = length_any_list (n + constraints p) ps in
    let q = length-append (code_of n p) (Skip (length (code_any (n + constraints p) ps)) ∷ code_any (n + constraints p) ps) in omega arith

any_size_drop_next : (ps : List Surface) (i : ℕ) (p : Surface) → i < length ps → p ≡ get_or ps i p → any_size_list (drop i ps) ≡ (code_size p + 2) + any_size_list (drop (suc i) ps)
any_size_drop_next [] i p h e = absurd (omega arith)
any_size_drop_next (q ∷ ps) zero p h e = ap (λ z. (code_size z + 2) + any_size_list ps) (sym e)
any_size_drop_next (q ∷ ps) (suc i) p h e = any_size_drop_next ps i p (omega arith) e

pub any_size_drop : (ps : List Surface) (i : ℕ) (p : Surface) → i < length ps → p ≡ get_or ps i p → any_size_list (drop i ps) ≡ (code_size p + 2) + any_size_list (drop (i + 1) ps)
any_size_drop ps i p h e = rw add-one (any_size_drop_next ps i p h e)

order_size_next : (ps : List Surface) (i : ℕ) (p : Surface) → i < length ps → p ≡ get_or ps i p → order_size_list (take (suc i) ps) ≡ order_size_list (take i ps) + code_size p
order_size_next [] i p h e = absurd (omega arith)
order_size_next (q ∷ ps) zero p h e = let r : code_size p ≡ code_size q = ap code_size e in omega arith
order_size_next (q ∷ ps) (suc i) p h e = let r : order_size_list (take (suc i) ps) ≡ order_size_list (take i ps) + code_size p = order_size_next ps i p (omega arith) e in omega arith

pub order_size_take : (ps : List Surface) (i : ℕ) (p : Surface) → i < length ps → p ≡ get_or ps i p → order_size_list (take (i + 1) ps) ≡ order_size_list (take i ps) + code_size p
order_size_take ps i p h e = rw add-one (order_size_next ps i p h e)

any_size_next : (ps : List Surface) (i : ℕ) (p : Surface) → i < length ps → p ≡ get_or ps i p → any_size_list (take (suc i) ps) ≡ any_size_list (take i ps) + (code_size p + 2)
any_size_next [] i p h e = absurd (omega arith)
any_size_next (q ∷ ps) zero p h e = let r : code_size p ≡ code_size q = ap code_size e in omega arith
any_size_next (q ∷ ps) (suc i) p h e = let r : any_size_list (take (suc i) ps) ≡ any_size_list (take i ps) + (code_size p + 2) = any_size_next ps i p (omega arith) e in omega arith

pub any_size_take : (ps : List Surface) (i : ℕ) (p : Surface) → i < length ps → p ≡ get_or ps i p → any_size_list (take (i + 1) ps) ≡ any_size_list (take i ps) + (code_size p + 2)
any_size_take ps i p h e = rw add-one (any_size_next ps i p h e)

-- one alternative more
any_drop_next : (n : ℕ) (ps : List Surface) (i : ℕ) (p : Surface) → i < length ps → p ≡ get_or ps i p
    → code_any n (drop i ps) ≡ Split (length (code_of n p) + 1) ∷ (code_of n p ++ (Skip (length (code_any (n + constraints p) (drop (suc i) ps))) ∷ code_any (n + constraints p) (drop (suc i) ps)))
any_drop_next n [] i p h e = absurd (omega arith)
any_drop_next n (q ∷ ps) zero p h e =
    ap (λ z. Split (length (code_of n z) + 1) ∷ (code_of n z ++ (Skip (length (code_any (n + constraints z) ps)) ∷ code_any (n + constraints z) ps))) (sym e)
any_drop_next n (q ∷ ps) (suc i) p h e = any_drop_next n ps i p (omega arith) e

-- the code with one alternative more written out
pub any_written : (old : List Instruction) (n : ℕ) (ps : List Surface) (i : ℕ) (p : Surface) (size rest : ℕ) → i < length ps → p ≡ get_or ps i p
    → size ≡ code_size p + 1 → rest ≡ any_size_list (drop (i + 1) ps)
    → (((old ++ Split size ∷ []) ++ code_of n p) ++ Skip rest ∷ []) ++ code_any (n + constraints p) (drop (i + 1) ps) ≡ old ++ code_any n (drop i ps)
any_written old n ps i p size rest h e es er =
    let next : List Instruction = code_any (n + constraints p) (drop (i + 1) ps) in
    let lp : size ≡ length (code_of n p) + 1 = let q = length_code n p in omega arith in
    let lr : rest ≡ length next = er ∙ sym (length_any_list (n + constraints p) (drop (i + 1) ps)) in
    let d : code_any n (drop i ps) ≡ Split (length (code_of n p) + 1) ∷ (code_of n p ++ (Skip (length next) ∷ next)) =
    let at : ℕ → List Instruction = λ z. code_any (n + constraints p) (drop z ps) in
    subst (λ (z : ℕ). code_any n (drop i ps) ≡ Split (length (code_of n p) + 1) ∷ (code_of n p ++ (Skip (length (at z)) ∷ at z))) (let q : suc i ≡ i + 1 = omega arith in q) (any_drop_next n ps i p h e) in
    let shape : (((old ++ Split size ∷ []) ++ code_of n p) ++ Skip rest ∷ []) ++ next ≡ old ++ (Split size ∷ (code_of n p ++ (Skip rest ∷ next))) = simp append_assoc in
    shape ∙ ap (λ z. old ++ (Split z ∷ (code_of n p ++ (Skip rest ∷ next)))) lp ∙ ap (λ z. old ++ (Split (length (code_of n p) + 1) ∷ (code_of n p ++ (Skip z ∷ next)))) lr ∙ ap (λ z. old ++ z) (sym d)

-- one further turn more
pub turns_written : (old : List Instruction) (lazy : Bool) (b : List Instruction) (n left skip : ℕ) → n ≡ suc left → skip ≡ length b + (1 + left * (length b + 2))
    → (((old ++ Turn lazy skip ∷ []) ++ b) ++ Turned ∷ []) ++ turns_code lazy b left ≡ old ++ turns_code lazy b n
turns_written old lazy b n left skip en es =
    let l : skip ≡ length b + (1 + length (turns_code lazy b left)) = let q = length-turns lazy b left in omega arith in
    let shape : (((old ++ Turn lazy skip ∷ []) ++ b) ++ Turned ∷ []) ++ turns_code lazy b left ≡ old ++ (Turn lazy skip ∷ (b ++ (Turned ∷ turns_code lazy b left))) = simp append_assoc in
    shape ∙ ap (λ z. old ++ (Turn lazy z ∷ (b ++ (Turned ∷ turns_code lazy b left)))) l ∙ ap (λ z. old ++ turns_code lazy b z) (sym en)

-- one turn without a choice more
pub times_written : (old b rest : List Instruction) (n left : ℕ) → n ≡ suc left → (old ++ b) ++ times_code b left rest ≡ old ++ times_code b n rest
times_written old b rest n left e = append_assoc old b (times_code b left rest) ∙ ap (λ z. old ++ times_code b z rest) (sym e)
