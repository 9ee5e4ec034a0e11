-- The names of captures, as they are added.
use Rattle.std.proofs.Common.{◌≡◌, ℕ, zero, suc, ◌+◌, ◌<◌, List, [], ◌∷◌, ◌++◌, length, take, get_or, refl, sym, ◌∙◌, ap, subst, arith, add-one, append_assoc, append-nil, String, ◌≤◌, Result, Ok, Err, MatchResult}
use Rattle.std.specs.HashSet.{HashSet}
use Rattle.std.proofs.lemmas.List.{take_all}
use mathlib.Core.Former.{Count}
use denote.Hole.Carrier.{hidden}
use Rattle.od_language.specs.declared.pattern_fault.PatternFault.{PatternFault}
use Rattle.od_language.specs.declared.pattern_fault.PatternFault.TheVariants as fault
use Rattle.od_pattern.specs.declared.pattern.Turns.{Turns}
use Rattle.od_pattern.specs.declared.pattern.Surface as surface
use Rattle.od_pattern.specs.declared.pattern.Surface.{Surface, Row_of-Surface, end_of-Surface, more_of-Surface, items-the_row-Surface, items_hidden-the_row-Surface-0}
use Rattle.od_pattern.specs.declared.pattern.Surface.TheBlock.{hidden-the_row-Surface-1}
use Rattle.od_surface.specs.Again.{Knows}
use Rattle.od_syntax.specs.Events.{captures, captures_of}
use Rattle.od_event_text.specs.Names.{captures_in, Adds}

captures_row : (n : _) (row : Row_of-Surface n) → captures_of row ≡ captures_in (items-the_row-Surface n row)
captures_row n end_of-Surface = refl
captures_row n (more_of-Surface p rest) = ap (λ z. captures p ++ z) (captures_row _ rest)

-- the row of a sequence or an alternation
abbrev row_of : Surface → (n : Count) × Row_of-Surface n
row_of (surface.Seq' _ row) = (_, row)
row_of _ = (_, end_of-Surface)

pub captures_seq : (ps : List Surface) → captures (surface.Seq ps) ≡ captures_in ps
captures_seq ps = let row = row_of (surface.Seq ps) in captures_row row.0 row.1 ∙ ap captures_in (items_hidden-the_row-Surface-0 ps)

pub captures_alt : (ps : List Surface) → captures (surface.Alt ps) ≡ captures_in ps
captures_alt ps = let row = row_of (surface.Seq ps) in captures_row row.0 row.1 ∙ ap captures_in (items_hidden-the_row-Surface-0 ps)

pub captures_repeat : (p : Surface) (turns : Turns) → captures (surface.Repeat p turns) ≡ captures p
unfolding hidden hidden-the_row-Surface-1
captures_repeat p turns = refl

pub captures_capture : (name : List ℕ) (p : Surface) → captures (surface.Capture name p) ≡ name ∷ captures p
unfolding hidden hidden-the_row-Surface-1
captures_capture name p = refl

captures_next : (ps : List Surface) (i : ℕ) (p : Surface) → i < length ps → p ≡ get_or ps i p → captures_in (take (suc i) ps) ≡ captures_in (take i ps) ++ captures p
captures_next [] i p h e = absurd (omega arith)
captures_next (q ∷ ps) zero p h e = append-nil (captures q) ∙ ap captures (sym e)
captures_next (q ∷ ps) (suc i) p h e = ap (λ z. captures q ++ z) (captures_next ps i p (omega arith) e) ∙ sym (append_assoc (captures q) _ _)

pub captures_take : (ps : List Surface) (i : ℕ) (p : Surface) → i < length ps → p ≡ get_or ps i p → captures_in (take (i + 1) ps) ≡ captures_in (take i ps) ++ captures p
captures_take ps i p h e = rw add-one (captures_next ps i p h e)

adds_more : {Y S : Type 0} (a b c : HashSet (String Y) S) (ms ns : List (List ℕ)) → Adds a b ms → Adds b c ns → Adds a c (ms ++ ns)
adds_more a b c ms ns h k before known = subst (Knows c) (append_assoc before ms ns) (k (before ++ ms) (h before known))

-- with the captures of one more pattern, and of all
pub adds_part : {Y S : Type 0} (old set new : HashSet (String Y) S) (ps : List Surface) (i : ℕ) (p : Surface) → i < length ps → p ≡ get_or ps i p → Adds old set (captures_in (take i ps)) → Adds set new (captures p) →
    Adds old new (captures_in (take (i + 1) ps))
adds_part old set new ps i p h e a b = subst (Adds old new) (sym (captures_take ps i p h e)) (adds_more old set new (captures_in (take i ps)) (captures p) a b)

pub adds_all : {Y S : Type 0} (old new : HashSet (String Y) S) (ps : List Surface) (i : ℕ) → length ps ≤ i → Adds old new (captures_in (take i ps)) → Adds old new (captures_in ps)
adds_all old new ps i h a = subst (Adds old new) (ap captures_in (take_all i ps h)) a

abbrev IsRefused : PatternFault → Type 0
IsRefused e = e ≡ fault.NoMemory

pub adds_same : {X Y S : Type 0} (q : Result X PatternFault) (old new : HashSet (String Y) S) (ms ns : List (List ℕ)) → ms ≡ ns → MatchResult q (λ _. Adds old new ms) IsRefused → MatchResult q (λ _. Adds old new ns) IsRefused
adds_same q old new ms ns e h = subst (λ (z : List (List ℕ)). MatchResult q (λ _. Adds old new z) IsRefused) e h

-- the captures inside a capture, behind its name
pub adds_behind : {X Y S : Type 0} (q : Result X PatternFault) (old set new : HashSet (String Y) S) (ms ns ws : List (List ℕ)) → Adds old set ms → ws ≡ ms ++ ns → MatchResult q (λ _. Adds set new ns) IsRefused → MatchResult q (λ _. Adds old new ws) IsRefused
adds_behind (Ok x) old set new ms ns ws a e h = subst (Adds old new) (sym e) (adds_more old set new ms ns a h)
adds_behind (Err x) old set new ms ns ws a e h = h
