-- Steps that the parser of steps takes.
use Rattle.std.proofs.Common.{◌≡◌, ℕ, suc, ◌+◌, ◌-◌, ◌<◌, ◌≤◌, Bool, true, false, if◌then◌else◌, List, [], ◌∷◌, ◌++◌, length, Some, None, Ok, Err, refl, sym, ◌∙◌, ap, arith}
use Rattle.std.proofs.lemmas.Bool.{lt-ltb, le-ltb}
use Rattle.od_pattern.specs.declared.path.Path.{Path}
use Rattle.od_pattern.specs.declared.path.Path.TheVariants as path
use Rattle.od_language.specs.declared.limits.TheConstants.{OPEN_BRACKETS}
use Rattle.od_language.specs.declared.pattern_fault.PatternKind.{PatternKind}
use Rattle.od_language.specs.declared.pattern_fault.PatternKind.TheVariants as kind
use Rattle.od_language.specs.declared.lexeme.Lexeme.{Lexeme}
use Rattle.od_language.specs.declared.lexeme.LexKind.{LexKind}
use Rattle.od_language.specs.declared.lexeme.LexKind.TheVariants.{RoundOpen, Along, Against, AnyAlong, AnyAgainst}
use Rattle.od_language.specs.Alphabet.{plain, kinds}
use Rattle.od_language.specs.Depth.{broken_rule, too_deep}
use Rattle.od_language.specs.Machine.{Outcome, stopped, checked, either_way}
use Rattle.od_syntax.specs.PathMachine.{in_order}
use Rattle.od_syntax.specs.StepsMachine.{State, begun, label, labelled, group, group_start, part, turned, opened, counted, ended}
use Rattle.od_syntax.specs.Told.{Told, lexeme, steps_open, ToldLexeme, untold, told_of, told_from, in_constraint, told, leads_to_steps}
use Rattle.od_path.specs.Steps.{steps_run, told_behind, atom_run, begins_steps, steps_come}

-- the first atom
pub begun_atom : (d : ℕ) (l : List ToldLexeme) → steps_run d begun l ≡ atom_run d [] l
begun_atom d [] = refl
begun_atom d (x ∷ l) = refl

opened_way : (x : Told) (s : List Path) (f : State → Outcome ToldLexeme Path) (g h : PatternKind → Outcome ToldLexeme Path) → begins_steps x ≡ true → either_way (opened s x) f g ≡ either_way (opened s x) f h
opened_way steps_open s f g h e = refl
opened_way (lexeme Along) s f g h e = refl
opened_way (lexeme Against) s f g h e = refl
opened_way (lexeme AnyAlong) s f g h e = refl
opened_way (lexeme AnyAgainst) s f g h e = refl
opened_way x s f g h e = absurd (cc)

closed_way : (x : Told) (s : List Path) (f : State → Outcome ToldLexeme Path) (g : PatternKind → Outcome ToldLexeme Path) → begins_steps x ≡ false → either_way (opened s x) f g ≡ g kind.Expected
closed_way steps_open s f g e = absurd (cc)
closed_way (lexeme Along) s f g e = absurd (cc)
closed_way (lexeme Against) s f g e = absurd (cc)
closed_way (lexeme AnyAlong) s f g e = absurd (cc)
closed_way (lexeme AnyAgainst) s f g e = absurd (cc)
closed_way x s f g e = refl

-- a further atom
pub more_atom : (d : ℕ) (s : List Path) (l : List Lexeme) → steps_come l ≡ true → steps_run d (turned s) (told l) ≡ atom_run d s (told l)
more_atom d s [] e = absurd (cc)
more_atom d s (x ∷ l) e =
    let t : Told = told_of false x.kind (kinds plain l) in
    let more : List ToldLexeme = told_from (in_constraint false x.kind) l in
    opened_way t s (λ u. checked (broken_rule d (untold t)) x.at (steps_run (told_behind d t) u more))
    (λ k. stopped (ended (turned s)) ((record { at = x.at; told = t }) ∷ more) x.at k) (λ k. Err (x.at, k)) e

-- no further atom: the steps end here
pub no_more : (d : ℕ) (s : List Path) (l : List Lexeme) → steps_come l ≡ false → steps_run d (turned s) (told l) ≡ Ok (in_order s, told l)
no_more d s [] e = refl
no_more d s (x ∷ l) e =
    let t : Told = told_of false x.kind (kinds plain l) in
    let more : List ToldLexeme = told_from (in_constraint false x.kind) l in
    closed_way t s (λ u. checked (broken_rule d (untold t)) x.at (steps_run (told_behind d t) u more))
    (λ k. stopped (ended (turned s)) ((record { at = x.at; told = t }) ∷ more) x.at k) e

one_told : (d : ℕ) (s : List Path) (t : Told) (x : Lexeme) (more : List ToldLexeme) → ((p : Path) → counted t p s ≡ opened (s ++ p ∷ []) t) → (p : Path) →
    steps_run d (part p s) ((record { at = x.at; told = t }) ∷ more) ≡ steps_run d (turned (s ++ p ∷ [])) ((record { at = x.at; told = t }) ∷ more)
one_told d s t x more h p =
    ap (λ q. either_way q (λ u. checked (broken_rule d (untold t)) x.at (steps_run (told_behind d t) u more)) (λ k. stopped (Some (in_order (s ++ p ∷ []))) ((record { at = x.at; told = t }) ∷ more) x.at k)) (h p)

-- no quantifier
abbrev pub NoTurns : LexKind → Type 0
NoTurns x = (p : Path) (s : List Path) → counted (lexeme x) p s ≡ opened (s ++ p ∷ []) (lexeme x)

by_if : (b : Bool) (s : List Path) (p : Path) → counted (if b then steps_open else lexeme RoundOpen) p s ≡ opened (s ++ p ∷ []) (if b then steps_open else lexeme RoundOpen)
by_if true s p = refl
by_if false s p = refl

told_turns : (x : LexKind) (more : List LexKind) → NoTurns x → (s : List Path) (p : Path) → counted (told_of false x more) p s ≡ opened (s ++ p ∷ []) (told_of false x more)
told_turns RoundOpen more h s p = by_if (leads_to_steps more) s p
told_turns x more h s p = h p s

pub no_turns : (d : ℕ) (s : List Path) (p : Path) (here l : List Lexeme) (x : Lexeme) → here ≡ x ∷ l → NoTurns x.kind → steps_run d (part p s) (told here) ≡ steps_run d (turned (s ++ p ∷ [])) (told here)
no_turns d s p here l x e h =
    ap (λ z. steps_run d (part p s) (told z)) e
    ∙ one_told d s (told_of false x.kind (kinds plain l)) x (told_from (in_constraint false x.kind) l) (told_turns x.kind (kinds plain l) h s) p
    ∙ sym (ap (λ z. steps_run d (turned (s ++ p ∷ [])) (told z)) e)

-- a bracket that opens steps
bracket_told : (d : ℕ) (s : List Path) (x : Lexeme) (l : List Lexeme) (b : Bool) →
    atom_run d s ((record { at = x.at; told = if b then steps_open else lexeme RoundOpen }) ∷ told_from false l) ≡ (if b then checked (too_deep d) x.at (steps_run (suc d) (group group_start s) (told l)) else Err (x.at, kind.Expected))
bracket_told d s x l true = refl
bracket_told d s x l false = refl

bracket_by : (d : ℕ) (s : List Path) (x : Lexeme) (l : List Lexeme) (b : Bool) (y : LexKind) → leads_to_steps (kinds plain l) ≡ b → x.kind ≡ y → y ≡ RoundOpen →
    atom_run d s (told (x ∷ l)) ≡ (if b then checked (too_deep d) x.at (steps_run (suc d) (group group_start s) (told l)) else Err (x.at, kind.Expected))
bracket_by d s x l b y e h i =
    ap (λ z. atom_run d s ((record { at = x.at; told = told_of false z (kinds plain l) }) ∷ told_from (in_constraint false z) l)) (h ∙ i)
    ∙ ap (λ z. atom_run d s ((record { at = x.at; told = if z then steps_open else lexeme RoundOpen }) ∷ told_from false l)) e
    ∙ bracket_told d s x l b

within : (d : ℕ) → d < OPEN_BRACKETS → too_deep d ≡ None
within d h = ap (λ (b : Bool). if b then None else Some kind.TooDeep) (lt-ltb d OPEN_BRACKETS h)

beyond : (d : ℕ) → OPEN_BRACKETS ≤ d → too_deep d ≡ Some kind.TooDeep
beyond d h = ap (λ (b : Bool). if b then None else Some kind.TooDeep) (le-ltb d OPEN_BRACKETS h)

pub bracket_in : (d : ℕ) (s : List Path) (here l : List Lexeme) (x : Lexeme) → here ≡ x ∷ l → x.kind ≡ RoundOpen → leads_to_steps (kinds plain l) ≡ true → d < OPEN_BRACKETS →
    atom_run d s (told here) ≡ steps_run (d + 1) (group group_start s) (told l)
bracket_in d s here l x e h i n =
    let next : suc d ≡ d + 1 = omega arith in
    ap (λ z. atom_run d s (told z)) e ∙ bracket_by d s x l true x.kind i refl h
    ∙ ap (λ z. checked z x.at (steps_run (suc d) (group group_start s) (told l))) (within d n) ∙ ap (λ z. steps_run z (group group_start s) (told l)) next

pub bracket_deep : (d : ℕ) (s : List Path) (here l : List Lexeme) (x : Lexeme) → here ≡ x ∷ l → x.kind ≡ RoundOpen → leads_to_steps (kinds plain l) ≡ true → OPEN_BRACKETS ≤ d →
    atom_run d s (told here) ≡ Err (x.at, kind.TooDeep)
bracket_deep d s here l x e h i n =
    ap (λ z. atom_run d s (told z)) e ∙ bracket_by d s x l true x.kind i refl h
    ∙ ap (λ z. checked z x.at (steps_run (suc d) (group group_start s) (told l))) (beyond d n)

pub bracket_other : (d : ℕ) (s : List Path) (here l : List Lexeme) (x : Lexeme) → here ≡ x ∷ l → x.kind ≡ RoundOpen → leads_to_steps (kinds plain l) ≡ false →
    atom_run d s (told here) ≡ Err (x.at, kind.Expected)
bracket_other d s here l x e h i = ap (λ z. atom_run d s (told z)) e ∙ bracket_by d s x l false x.kind i refl h

-- behind brackets the depth is as before
pub depth_back : (d : ℕ) (t : State) (l : List ToldLexeme) → steps_run (d + 1 - 1) t l ≡ steps_run d t l
depth_back d t l = ap (λ z. steps_run z t l) (omega arith)

-- two parts or more are a sequence
in_sequence : (ps : List Path) → 2 ≤ length ps → in_order ps ≡ path.Seq ps
in_sequence [] h = absurd (omega arith)
in_sequence (p ∷ []) h = absurd (omega arith)
in_sequence (p ∷ q ∷ ps) h = refl

abbrev read_to : Path → List ToldLexeme → Outcome ToldLexeme Path
read_to p l = Ok (p, l)

pub all_read : (d : ℕ) (s : List Path) (l : List Lexeme) → steps_come l ≡ false → 2 ≤ length s → steps_run d (turned s) (told l) ≡ Ok (path.Seq s, told l)
all_read d s l e h = no_more d s l e ∙ ap (λ p. read_to p (told l)) (in_sequence s h)

pub one_read : (d : ℕ) (p : Path) (l : List Lexeme) → steps_come l ≡ false → steps_run d (turned (p ∷ [])) (told l) ≡ Ok (p, told l)
one_read d p l e = no_more d (p ∷ []) l e

-- no label
abbrev pub NoLabel : LexKind → Type 0
NoLabel x = (b : Bool) (s : List Path) → labelled (lexeme x) b s ≡ Err kind.Expected

label_if : (c b : Bool) (s : List Path) → labelled (if c then steps_open else lexeme RoundOpen) b s ≡ Err kind.Expected
label_if true b s = refl
label_if false b s = refl

told_label : (x : LexKind) (more : List LexKind) → NoLabel x → (b : Bool) (s : List Path) → labelled (told_of false x more) b s ≡ Err kind.Expected
told_label RoundOpen more h b s = label_if (leads_to_steps more) b s
told_label x more h b s = h b s

abbrev only_fault : ℕ → PatternKind → Outcome ToldLexeme Path
only_fault at k = Err (at, k)

pub no_label : (d : ℕ) (b : Bool) (s : List Path) (here l : List Lexeme) (x : Lexeme) → here ≡ x ∷ l → NoLabel x.kind → steps_run d (label b s) (told here) ≡ Err (x.at, kind.Expected)
no_label d b s here l x e h =
    let t : Told = told_of false x.kind (kinds plain l) in
    let more : List ToldLexeme = told_from (in_constraint false x.kind) l in
    ap (λ z. steps_run d (label b s) (told z)) e
    ∙ ap (λ q. either_way q (λ u. checked (broken_rule d (untold t)) x.at (steps_run (told_behind d t) u more)) (λ k. only_fault x.at k)) (told_label x.kind (kinds plain l) h b s)

-- a bracket opens steps where an arrow comes first
come_if : (b : Bool) → begins_steps (if b then steps_open else lexeme RoundOpen) ≡ b
come_if true = refl
come_if false = refl

pub come_bracket : (here l : List Lexeme) (x : Lexeme) → here ≡ x ∷ l → x.kind ≡ RoundOpen → steps_come here ≡ leads_to_steps (kinds plain l)
come_bracket here l x e h = ap steps_come e ∙ ap (λ (z : LexKind). begins_steps (told_of false z (kinds plain l))) h ∙ come_if (leads_to_steps (kinds plain l))
