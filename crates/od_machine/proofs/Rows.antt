-- Patterns in a list.
use Rattle.std.proofs.Common.{◌≡◌, ℕ, zero, suc, ◌+◌, ◌<◌, ◌≤◌, List, [], ◌∷◌, ◌++◌, length, take, drop, refl, sym, ◌∙◌, ap, arith, get_or, add-one, length-append}
use denote.Hole.Carrier.{hidden}
use Rattle.od_asked.specs.Asked.{asked_surface, asked_surfaces}
use Rattle.od_machine.specs.Code.{constraints, constraints_list, code_list, code_of, code_in_order, repeat_code}
use Rattle.od_matching.proofs.Matching.Built.{row_of}
use Rattle.od_machine.specs.declared.instruction.Instruction.TheVariants.{Open, Close}
use Rattle.od_pattern.specs.declared.pattern.Turns.{Turns}
use Rattle.od_pattern.specs.declared.pattern.Surface as surface
use Rattle.od_pattern.specs.declared.pattern.Surface.{Surface, Row_of-Surface, end_of-Surface, more_of-Surface, items-the_row-Surface, items_hidden-the_row-Surface-0}
use Rattle.od_pattern.specs.declared.pattern.Surface.TheBlock.{hidden-the_row-Surface-1}

constraints_row : (n : _) (row : Row_of-Surface n) → length (asked_surfaces row) ≡ constraints_list (items-the_row-Surface n row)
unfolding asked_surfaces
constraints_row n end_of-Surface = refl
constraints_row n (more_of-Surface p rest) = length-append (asked_surface p) (asked_surfaces rest) ∙ ap (λ z. constraints p + z) (constraints_row _ rest)

code_row : (m : ℕ) (n : _) (row : Row_of-Surface n) → code_in_order m row ≡ code_list m (items-the_row-Surface n row)
unfolding code_in_order
code_row m n end_of-Surface = refl
code_row m n (more_of-Surface p rest) = ap (λ z. code_of m p ++ z) (code_row (m + constraints p) _ rest)

-- the number of constraints of a pattern from its parts
pub constraints_seq : (ps : List Surface) → constraints (surface.Seq ps) ≡ constraints_list ps
unfolding asked_surface
constraints_seq ps = let row = row_of (surface.Seq ps) in constraints_row row.0 row.1 ∙ ap constraints_list (items_hidden-the_row-Surface-0 ps)

pub constraints_alt : (ps : List Surface) → constraints (surface.Alt ps) ≡ constraints_list ps
unfolding asked_surface
constraints_alt ps = let row = row_of (surface.Seq ps) in constraints_row row.0 row.1 ∙ ap constraints_list (items_hidden-the_row-Surface-0 ps)

pub constraints_repeat : (p : Surface) (turns : Turns) → constraints (surface.Repeat p turns) ≡ constraints p
unfolding asked_surface hidden hidden-the_row-Surface-1
constraints_repeat p turns = refl

pub constraints_capture : (name : List ℕ) (p : Surface) → constraints (surface.Capture name p) ≡ constraints p
unfolding asked_surface hidden hidden-the_row-Surface-1
constraints_capture name p = refl

-- the instructions of a pattern from its parts
pub code_seq : (m : ℕ) (ps : List Surface) → code_of m (surface.Seq ps) ≡ code_list m ps
unfolding code_of
code_seq m ps = let row = row_of (surface.Seq ps) in code_row m row.0 row.1 ∙ ap (code_list m) (items_hidden-the_row-Surface-0 ps)

pub code_repeat : (m : ℕ) (p : Surface) (turns : Turns) → code_of m (surface.Repeat p turns) ≡ repeat_code turns.lazy (code_of m p) turns.least turns.most
unfolding code_of hidden hidden-the_row-Surface-1
code_repeat m p turns = refl

pub code_capture : (m : ℕ) (name : List ℕ) (p : Surface) → code_of m (surface.Capture name p) ≡ Open name ∷ (code_of m p ++ Close ∷ [])
unfolding code_of hidden hidden-the_row-Surface-1
code_capture m name p = refl

constraints_next : (ps : List Surface) (i : ℕ) (p : Surface) → i < length ps → p ≡ get_or ps i p → constraints_list (take (suc i) ps) ≡ constraints_list (take i ps) + constraints p
constraints_next [] i p h e = absurd (omega arith)
constraints_next (q ∷ ps) zero p h e = let r : constraints p ≡ constraints q = ap constraints e in omega arith
constraints_next (q ∷ ps) (suc i) p h e = let r : constraints_list (take (suc i) ps) ≡ constraints_list (take i ps) + constraints p = constraints_next ps i p (omega arith) e in omega arith

pub constraints_take : (ps : List Surface) (i : ℕ) (p : Surface) → i < length ps → p ≡ get_or ps i p → constraints_list (take (i + 1) ps) ≡ constraints_list (take i ps) + constraints p
constraints_take ps i p h e = rw add-one (constraints_next ps i p h e)

pub constraints_at : (ps : List Surface) (i : ℕ) → constraints_list (take i ps) ≤ constraints_list ps
constraints_at [] zero = omega arith
constraints_at [] (suc i) = omega arith
constraints_at (q ∷ ps) zero = omega arith
constraints_at (q ∷ ps) (suc i) = omega (arith, constraints_at ps i)

constraints_drop_next : (ps : List Surface) (i : ℕ) (p : Surface) → i < length ps → p ≡ get_or ps i p → constraints_list (drop i ps) ≡ constraints p + constraints_list (drop (suc i) ps)
constraints_drop_next [] i p h e = absurd (omega arith)
constraints_drop_next (q ∷ ps) zero p h e = ap (λ z. constraints z + constraints_list ps) (sym e)
constraints_drop_next (q ∷ ps) (suc i) p h e = constraints_drop_next ps i p (omega arith) e

pub constraints_drop : (ps : List Surface) (i : ℕ) (p : Surface) → i < length ps → p ≡ get_or ps i p → constraints_list (drop i ps) ≡ constraints p + constraints_list (drop (i + 1) ps)
constraints_drop ps i p h e = rw add-one (constraints_drop_next ps i p h e)

code_drop_next : (n : ℕ) (ps : List Surface) (i : ℕ) (p : Surface) → i < length ps → p ≡ get_or ps i p → code_list n (drop i ps) ≡ code_of n p ++ code_list (n + constraints p) (drop (suc i) ps)
code_drop_next n [] i p h e = absurd (omega arith)
code_drop_next n (q ∷ ps) zero p h e = ap (λ z. code_of n z ++ code_list (n + constraints z) ps) (sym e)
code_drop_next n (q ∷ ps) (suc i) p h e = code_drop_next n ps i p (omega arith) e

pub code_drop : (n : ℕ) (ps : List Surface) (i : ℕ) (p : Surface) → i < length ps → p ≡ get_or ps i p → code_list n (drop i ps) ≡ code_of n p ++ code_list (n + constraints p) (drop (i + 1) ps)
code_drop n ps i p h e = rw add-one (code_drop_next n ps i p h e)
