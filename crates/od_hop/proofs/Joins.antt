-- Steps inside a hop: the machine of hops goes as the machine of steps does, and behind them a surface comes.
use Rattle.std.proofs.Common.{◌≡◌, ℕ, suc, ◌+◌, Bool, true, false, if◌then◌else◌, List, [], ◌∷◌, ◌++◌, drop, Option, Some, None, Result, Ok, Err, refl, sym, ◌∙◌, ap, subst, arith}
use Rattle.od_pattern.specs.declared.pattern.Constraint.{Constraint}
use Rattle.od_pattern.specs.declared.pattern.Surface.{Surface}
use Rattle.od_pattern.specs.declared.path.Path.{Path}
use Rattle.od_pattern.specs.declared.rule.Hop.{Hop}
use Rattle.od_language.specs.declared.pattern_fault.PatternKind.{PatternKind}
use Rattle.od_language.specs.declared.pattern_fault.PatternKind.TheVariants as kind
use Rattle.od_language.specs.declared.lexeme.Lexeme.{Lexeme}
use Rattle.od_language.specs.declared.lexeme.LexKind.{LexKind}
use Rattle.od_language.specs.declared.lexeme.LexKind.TheVariants.{Word, Quoted, Regex, Range, NameOpen, AheadIs, AheadNot, BehindIs, BehindNot, SquareOpen, RoundOpen, RoundClose, At, Along, Against, AnyAlong, AnyAgainst, Question, Star, Plus, Caret, Dollar}
use Rattle.od_language.specs.Alphabet.{plain, kinds}
use Rattle.od_language.specs.Depth.{broken_rule, is_bad_range}
use Rattle.od_language.specs.ConstraintMachine as constraint
use Rattle.od_language.specs.declared.pattern_fault.PatternFault.{PatternFault}
use Rattle.od_language.specs.declared.pattern_fault.PatternFault.TheVariants as fault
use Rattle.od_language.specs.Machine.{◌>>=◌, Outcome, stopped, checked, either_way, first_broken, GoesOn}
use Rattle.od_path.specs.Steps.{told_behind, steps_run, steps_come, begins_steps}
use Rattle.od_path.proofs.Groups.{path_opens, is_inside}
use Rattle.od_path.proofs.Groups as paths
use Rattle.od_path.specs.declared.step.Found.{Found}
use Rattle.od_surface.specs.Reading.{own_rule, place_or}
use Rattle.od_syntax.specs.HopMachine.{State, between, behind, atom_of, alone, joined, to_surface, from_steps, from_surface, to_steps}
use Rattle.od_syntax.specs.PathMachine as path
use Rattle.od_syntax.specs.Rules.{bad_range}
use Rattle.od_syntax.specs.StepsMachine.{begun, label, group, part, turned, opened, labelled, closing, grouped, counted}
use Rattle.od_syntax.specs.StepsMachine as steps
use Rattle.od_syntax.specs.SurfaceMachine as surface
use Rattle.od_syntax.specs.Told.{Told, lexeme, steps_open, ToldLexeme, untold, told_of, told_from, told, in_constraint}
use Rattle.od_syntax.specs.Verdicts.{surface_start}
use Rattle.od_hop.specs.Reading.{hop_run, bare_rule, behind_surface, hop_from, on_behind}

-- how many brackets a state of steps has opened
abbrev pub steps_opens : steps.State → ℕ
steps_opens begun = 0
steps_opens (label b s) = 0
steps_opens (group q s) = suc (path_opens q)
steps_opens (part p s) = 0
steps_opens (turned s) = 0

-- ## Steps open no capture

-- the lexeme opens none
abbrev IsBare : LexKind → Type 0
IsBare (NameOpen name) = ⊥
IsBare x = Unit {0}

-- behind a lexeme that is taken as many brackets are open as the next state says
abbrev Fits : ℕ → Told → Result steps.State PatternKind → Type 0
Fits at x (Ok t) = (told_behind at x ≡ steps_opens t) × IsBare (untold x)
Fits at x (Err k) = Unit {0}

fits_opened : (s : List Path) (x : Told) → Fits 0 x (opened s x)
fits_opened s steps_open = (refl, tt)
fits_opened s (lexeme Along) = (refl, tt)
fits_opened s (lexeme Against) = (refl, tt)
fits_opened s (lexeme AnyAlong) = (refl, tt)
fits_opened s (lexeme AnyAgainst) = (refl, tt)
fits_opened s (lexeme x) = tt

fits_label : (x : Told) (b : Bool) (s : List Path) → Fits 0 x (labelled x b s)
fits_label (lexeme (Word t)) b s = (refl, tt)
fits_label (lexeme (Quoted t)) b s = (refl, tt)
fits_label (lexeme (Regex t)) b s = (refl, tt)
fits_label (lexeme x) b s = tt
fits_label steps_open b s = tt

fits_counted : (x : Told) (p : Path) (s : List Path) → Fits 0 x (counted x p s)
fits_counted (lexeme Question) p s = (refl, tt)
fits_counted (lexeme Star) p s = (refl, tt)
fits_counted (lexeme Plus) p s = (refl, tt)
fits_counted (lexeme (Range n m)) p s = (refl, tt)
fits_counted (lexeme x) p s = fits_opened (s ++ p ∷ []) (lexeme x)
fits_counted steps_open p s = fits_opened (s ++ p ∷ []) steps_open

-- a path opens no capture
abbrev IsErr : {A : Type 0} → Result A PatternKind → Type 0
IsErr (Ok t) = ⊥
IsErr (Err k) = Unit {0}

name_close : (n : List ℕ) (c : Constraint) (o : Option Constraint) (k : constraint.Open) → IsErr (constraint.step_close (NameOpen n) c o k)
name_close n c o constraint.square = tt
name_close n c o (constraint.round m a p k) = tt

name_constraint : (n : List ℕ) (c : constraint.State) → IsErr (constraint.step c (NameOpen n))
name_constraint n constraint.start = tt
name_constraint n constraint.first = tt
name_constraint n (constraint.operand m a o k) = tt
name_constraint n (constraint.named f m a o k) = tt
name_constraint n (constraint.equals f m a o k) = tt
name_constraint n (constraint.after c o k) = name_close n c o k
name_constraint n (constraint.done c) = tt

name_carried : (r : Result constraint.State PatternKind) (a s : List Path) (k : path.Around) → IsErr r → IsErr (path.carried r a s k)
name_carried (Ok t) a s k h = absurd h
name_carried (Err j) a s k h = tt

name_whole : (n : List ℕ) (p : Path) (k : path.Around) → IsErr (path.step_whole (NameOpen n) p k)
name_whole n p path.top = tt
name_whole n p (path.round a s k) = tt

name_path : (n : List ℕ) (q : path.State) → IsErr (path.step q (NameOpen n))
name_path n (path.atom a s k) = tt
name_path n (path.label b a s k) = tt
name_path n (path.inside c a s k) = name_carried (constraint.step c (NameOpen n)) a s k (name_constraint n c)
name_path n (path.part p a s k) = name_whole n (path.any_of (a ++ path.in_order (s ++ p ∷ []) ∷ [])) k
name_path n (path.turned a s k) = name_whole n (path.any_of (a ++ path.in_order s ∷ [])) k
name_path n (path.listed a k) = name_whole n (path.any_of a) k
name_path n (path.whole p k) = name_whole n p k

bare_by : (x : LexKind) (t : path.State) (r : Result path.State PatternKind) → r ≡ Ok t → ((n : List ℕ) → x ≡ NameOpen n → IsErr r) → IsBare x
bare_by (NameOpen n) t r e h = subst IsErr e (h n refl)
bare_by x t r e h = tt

bare_path : (q t : path.State) (x : LexKind) → path.step q x ≡ Ok t → IsBare x
bare_path q t x e = bare_by x t (path.step q x) e (λ n i. subst (λ (z : LexKind). IsErr (path.step q z)) (sym i) (name_path n q))

fits_closing : (x : Told) (o : Option Path) (k : PatternKind) (s : List Path) (q : path.State) (r : Result path.State PatternKind) → paths.Ending q o r → Fits (suc (path_opens q)) x (closing x o k s)
fits_closing (lexeme RoundClose) (Some p) k s q r n = let none = n.0 in (omega (arith, none), tt)
fits_closing x o k s q r n = tt

fits_group : (x : Told) (q : path.State) (r : Result path.State PatternKind) (o : Option Path) (s : List Path) → path.step q (untold x) ≡ r →
    paths.Fits 1 (is_inside q) (path_opens q + 1) (untold x) r → paths.Ending q o r → Fits (suc (path_opens q)) x (grouped r x o s)
fits_group x q (Ok t) o s e f n =
    let same : path_opens q + 1 ≡ suc (path_opens q) = omega arith in
    let next : path_opens t + 1 ≡ suc (path_opens t) = omega arith in
    (ap (λ z. told_behind z x) (sym same) ∙ f.0 ∙ next, bare_path q t (untold x) e)
fits_group x q (Err k) o s e f n = fits_closing x o k s q (Err k) n

fits : (q : steps.State) (x : Told) → Fits (steps_opens q) x (steps.step q x)
fits begun x = fits_opened [] x
fits (label b s) x = fits_label x b s
fits (group q s) x = fits_group x q (path.step q (untold x)) (path.ended q) s refl (paths.fits 1 q (untold x)) (paths.ending q (untold x))
fits (part p s) x = fits_counted x p s
fits (turned s) x = fits_opened s x

-- ## Where steps may end

abbrev Stops : Result steps.State PatternKind → Type 0
Stops (Ok t) = Unit {0}
Stops (Err k) = k ≡ kind.Expected

stops_opened : (s : List Path) (x : Told) → Stops (opened s x)
stops_opened s steps_open = tt
stops_opened s (lexeme Along) = tt
stops_opened s (lexeme Against) = tt
stops_opened s (lexeme AnyAlong) = tt
stops_opened s (lexeme AnyAgainst) = tt
stops_opened s (lexeme x) = refl

stops_counted : (x : Told) (p : Path) (s : List Path) → Stops (counted x p s)
stops_counted (lexeme Question) p s = tt
stops_counted (lexeme Star) p s = tt
stops_counted (lexeme Plus) p s = tt
stops_counted (lexeme (Range n m)) p s = tt
stops_counted (lexeme x) p s = stops_opened (s ++ p ∷ []) (lexeme x)
stops_counted steps_open p s = stops_opened (s ++ p ∷ []) steps_open

abbrev Ending : steps.State → Option Path → Result steps.State PatternKind → Type 0
Ending q None r = Unit {0}
Ending q (Some p) r = (steps_opens q ≡ 0) × Stops r

ending : (q : steps.State) (x : Told) → Ending q (steps.ended q) (steps.step q x)
ending begun x = tt
ending (label b s) x = tt
ending (group q s) x = tt
ending (part p s) x = (refl, stops_counted x p s)
ending (turned s) x = (refl, stops_opened s x)

-- ## A surface behind steps

-- no atom of a surface begins with it
abbrev Starts : Result surface.State PatternKind → Type 0
Starts (Ok t) = Unit {0}
Starts (Err k) = k ≡ kind.Expected

starts_atom : (x : LexKind) → Starts (surface.step_atom x [] [] surface.top)
starts_atom SquareOpen = tt
starts_atom (Word t) = tt
starts_atom (Quoted t) = tt
starts_atom (Regex t) = tt
starts_atom At = tt
starts_atom RoundOpen = tt
starts_atom (NameOpen n) = tt
starts_atom AheadIs = tt
starts_atom AheadNot = tt
starts_atom BehindIs = tt
starts_atom BehindNot = tt
starts_atom Caret = tt
starts_atom Dollar = tt
starts_atom x = refl

starts : (x : Told) → Starts (atom_of x)
starts (lexeme x) = starts_atom x
starts steps_open = refl

to_none : (r : Result steps.State PatternKind) (k : PatternKind) → to_steps r None k ≡ Err k
to_none (Ok t) k = refl
to_none (Err j) k = refl

-- the rule of a lexeme of steps
range_rule : (b : Bool) → first_broken (if b then Some kind.BadRange else None) (if b then Some kind.BadRange else None) ≡ (if b then Some kind.BadRange else None)
range_rule true = refl
range_rule false = refl

same_rule : (again : Option ℕ) (d at : ℕ) (x : LexKind) → IsBare x → first_broken (bad_range [] x) (own_rule again d at x) ≡ broken_rule d x
same_rule again d at (NameOpen n) h = absurd h
same_rule again d at (Range n m) h = range_rule (is_bad_range n m)
same_rule again d at x h = refl

module _ (again : Option ℕ) (h : Hop) where
  -- on in the hop, behind steps
  abbrev pub on : Path × List ToldLexeme → Outcome ToldLexeme Hop
  on y = hop_run again 0 (behind h y.0 surface_start) y.1

  abbrev only_fault : ℕ → PatternKind → Outcome ToldLexeme Hop
  only_fault at k = Err (at, k)

  abbrev go : ℕ → ToldLexeme → List ToldLexeme → State → Outcome ToldLexeme Hop
  go d x l u = checked (bare_rule again d x.at x.told) x.at (hop_run again (told_behind d x.told) u l)

  abbrev none : ToldLexeme → List ToldLexeme → PatternKind → Outcome ToldLexeme Hop
  none x l k = stopped None (x ∷ l) x.at k

  -- where a surface begins
  surface_by : (p : Path) (d : ℕ) (x : ToldLexeme) (l : List ToldLexeme) (r : Result surface.State PatternKind) → d ≡ 0 → Starts r →
      either_way (to_surface h p r kind.Expected) (go d x l) (none x l) ≡ either_way (from_surface (behind h p) r x.told None) (go 0 x l) (none x l)
  surface_by p d x l (Ok u) e s = ap (λ z. go z x l (behind h p u)) e
  surface_by p d x l (Err k) e s = ap (only_fault x.at) (sym s) ∙ sym (ap (λ z. either_way z (go 0 x l) (none x l)) (to_none (opened [] x.told) k))

  surface_told : (p : Path) (at : ℕ) (t : Told) (l : List ToldLexeme) →
      hop_run again 0 (behind h p surface_start) ((record { at = at; told = t }) ∷ l)
      ≡ either_way (from_surface (behind h p) (atom_of t) t None) (go 0 (record { at = at; told = t }) l) (none (record { at = at; told = t }) l)
  surface_told p at (lexeme y) l = refl
  surface_told p at steps_open l = refl

  surface_first : (p : Path) (x : ToldLexeme) (l : List ToldLexeme) →
      hop_run again 0 (behind h p surface_start) (x ∷ l) ≡ either_way (from_surface (behind h p) (atom_of x.told) x.told None) (go 0 x l) (none x l)
  surface_first p x l = surface_told p x.at x.told l

  -- what is said of the lexemes behind
  abbrev Host : List ToldLexeme → steps.State → Type 0
  Host l q = hop_run again (steps_opens q) (between h q) l ≡ (steps_run (steps_opens q) q l >>= on)

  taken : (d at : ℕ) (l : List ToldLexeme) (t : steps.State) (r : Option PatternKind) → d ≡ steps_opens t → Host l t →
      checked r at (hop_run again d (between h t) l) ≡ (checked r at (steps_run d t l) >>= on)
  taken d at l t None e g = ap (λ z. hop_run again z (between h t) l) e ∙ g ∙ ap (λ z. steps_run z t l >>= on) (sym e)
  taken d at l t (Some k) e g = refl

  -- one lexeme
  through : (x : ToldLexeme) (l : List ToldLexeme) (q : steps.State) (r : Result steps.State PatternKind) (o : Option Path) → Fits (steps_opens q) x.told r → Ending q o r → ((t : steps.State) → Host l t) →
      either_way (from_steps h r x.told o) (go (steps_opens q) x l) (none x l)
      ≡ (either_way r (λ t. checked (broken_rule (steps_opens q) (untold x.told)) x.at (steps_run (told_behind (steps_opens q) x.told) t l)) (λ k. stopped o (x ∷ l) x.at k) >>= on)
  through x l q (Ok t) o f n g =
      ap (λ z. checked z x.at (hop_run again (told_behind (steps_opens q) x.told) (between h t) l)) (same_rule again (steps_opens q) x.at (untold x.told) f.1)
      ∙ taken (told_behind (steps_opens q) x.told) x.at l t (broken_rule (steps_opens q) (untold x.told)) f.0 (g t)
  through x l q (Err k) None f n g = refl
  through x l q (Err k) (Some p) f n g =
      ap (λ z. either_way (to_surface h p (atom_of x.told) z) (go (steps_opens q) x l) (none x l)) n.1
      ∙ surface_by p (steps_opens q) x l (atom_of x.told) n.0 (starts x.told) ∙ sym (surface_first p x l)

  at_end : (o : Option Path) → only_fault 0 kind.Expected ≡ (stopped o [] 0 kind.Expected >>= on)
  at_end None = refl
  at_end (Some p) = refl

  -- the machine of hops inside steps
  host : (l : List ToldLexeme) (q : steps.State) → Host l q
  host [] q = at_end (steps.ended q)
  host (x ∷ l) q = through x l q (steps.step q x.told) (steps.ended q) (fits q x.told) (ending q x.told) (host l)

  -- steps that are read
  pub steps_goes : (q : Result Found PatternFault) (here : List ToldLexeme) (ls : List Lexeme) → GoesOn q (steps_run 0 begun here) (λ x. Ok (x.path, told (drop x.to ls))) →
      GoesOn q (hop_run again 0 (between h begun) here) (λ x. hop_run again 0 (behind h x.path surface_start) (told (drop x.to ls)))
  steps_goes (Ok x) here ls e = host here begun ∙ ap (λ z. z >>= on) e
  steps_goes (Err fault.NoMemory) here ls e = tt
  steps_goes (Err (fault.Bad at k)) here ls e = host here begun ∙ ap (λ z. z >>= on) e

  -- ## Where steps come

  comes_by : (t : Told) (f : State → Outcome ToldLexeme Hop) (g j : PatternKind → Outcome ToldLexeme Hop) → begins_steps t ≡ true →
      either_way (to_steps (opened [] t) (Some h) kind.Expected) f g ≡ either_way (from_steps h (opened [] t) t None) f j
  comes_by steps_open f g j e = refl
  comes_by (lexeme Along) f g j e = refl
  comes_by (lexeme Against) f g j e = refl
  comes_by (lexeme AnyAlong) f g j e = refl
  comes_by (lexeme AnyAgainst) f g j e = refl
  comes_by (lexeme x) f g j e = absurd (cc)

  pub to_between : (l : List Lexeme) → steps_come l ≡ true → hop_from again 0 h (told l) ≡ hop_run again 0 (between h begun) (told l)
  to_between [] e = absurd (cc)
  to_between (x ∷ l) e =
      let t = told_of false x.kind (kinds plain l) in
      let y : ToldLexeme = record { at = x.at; told = t } in
      let more = told_from (in_constraint false x.kind) l in
      comes_by t (go 0 y more) (λ k. stopped (Some h) (y ∷ more) x.at k) (none y more) e

  none_by : (t : Told) (f : State → Outcome ToldLexeme Hop) (g : PatternKind → Outcome ToldLexeme Hop) → begins_steps t ≡ false →
      either_way (to_steps (opened [] t) (Some h) kind.Expected) f g ≡ g kind.Expected
  none_by steps_open f g e = absurd (cc)
  none_by (lexeme Along) f g e = absurd (cc)
  none_by (lexeme Against) f g e = absurd (cc)
  none_by (lexeme AnyAlong) f g e = absurd (cc)
  none_by (lexeme AnyAgainst) f g e = absurd (cc)
  none_by (lexeme x) f g e = refl

  -- no further steps: the hop ends here
  pub no_steps : (l : List Lexeme) → steps_come l ≡ false → hop_from again 0 h (told l) ≡ Ok (h, told l)
  no_steps [] e = refl
  no_steps (x ∷ l) e =
      let t = told_of false x.kind (kinds plain l) in
      let y : ToldLexeme = record { at = x.at; told = t } in
      let more = told_from (in_constraint false x.kind) l in
      none_by t (go 0 y more) (λ k. stopped (Some h) (y ∷ more) x.at k) e

  -- choices outside brackets, to which no steps are joined
  pub no_joins : (l : List ToldLexeme) → behind_surface again 0 (Some h) None l ≡ Ok (h, l)
  no_joins [] = refl
  no_joins (x ∷ l) = ap (λ z. either_way z (go 0 x l) (λ k. stopped (Some h) (x ∷ l) x.at k)) (to_none (opened [] x.told) kind.Expected)

-- nor is a hop that ends with them one
pub no_whole : (again : Option ℕ) (l : List Lexeme) → behind_surface again 0 None None (told l) ≡ Err (place_or 0 l, kind.Expected)
no_whole again [] = refl
no_whole again (x ∷ l) =
    let t = told_of false x.kind (kinds plain l) in
    let more = told_from (in_constraint false x.kind) l in
    ap (λ (z : Result State PatternKind). either_way z (λ u. checked (bare_rule again 0 x.at t) x.at (hop_run again (told_behind 0 t) u more)) (λ k. stopped None ((record { at = x.at; told = t }) ∷ more) x.at k))
    (to_none (opened [] t) kind.Expected)

-- ## What a surface tells of the hop

module _ (again : Option ℕ) (o : Outcome ToldLexeme Hop) (single : Bool) (s : Surface) where
  -- steps may follow the first surface
  pub front_single : (l : List ToldLexeme) → single ≡ true → o ≡ on_behind again None single s l → o ≡ hop_from again 0 (alone s) l
  front_single l e g = g ∙ ap (λ z. on_behind again None z s l) e

  -- none may, and it is the hop
  pub front_choices : (l : List ToldLexeme) → single ≡ false → o ≡ on_behind again None single s l → o ≡ Ok (alone s, l)
  front_choices l e g = g ∙ ap (λ z. on_behind again None z s l) e ∙ no_joins again (alone s) l

  -- the same behind steps
  pub behind_single : (h : Hop) (p : Path) (l : List ToldLexeme) → single ≡ true → o ≡ on_behind again (Some (h, p)) single s l → o ≡ hop_from again 0 (joined h p s) l
  behind_single h p l e g = g ∙ ap (λ z. on_behind again (Some (h, p)) z s l) e

  pub behind_choices : (h : Hop) (p : Path) (r : List Lexeme) → single ≡ false → o ≡ on_behind again (Some (h, p)) single s (told r) → o ≡ Err (place_or 0 r, kind.Expected)
  behind_choices h p r e g = g ∙ ap (λ z. on_behind again (Some (h, p)) z s (told r)) e ∙ no_whole again r

abbrev pub no_value : {X : Type 0} → PatternFault → Result X PatternFault
no_value f = Err f

-- a fault that is the machine's
pub refused_there : {X : Type 0} (f : PatternFault) (at : ℕ) (k : PatternKind) (o : Outcome ToldLexeme Hop) (go : X → Outcome ToldLexeme Hop) → f ≡ fault.Bad at k → o ≡ Err (at, k) → GoesOn (no_value {X = X} f) o go
refused_there {X} f at k o go e h = subst (λ (z : PatternFault). GoesOn (no_value {X = X} z) o go) (sym e) h

-- a fault that is passed on
pub passed_on : {X Y : Type 0} (f : PatternFault) (o : Outcome ToldLexeme Hop) (go : X → Outcome ToldLexeme Hop) (to : Y → Outcome ToldLexeme Hop) → GoesOn (no_value {X = X} f) o go → GoesOn (no_value {X = Y} f) o to
passed_on fault.NoMemory o go to h = tt
passed_on (fault.Bad at k) o go to h = h

-- an answer to the same reading
pub led_by : {X : Type 0} (q : Result X PatternFault) (o p : Outcome ToldLexeme Hop) (go : X → Outcome ToldLexeme Hop) → o ≡ p → GoesOn q p go → GoesOn q o go
led_by q o p go e h = subst (λ (z : Outcome ToldLexeme Hop). GoesOn q z go) (sym e) h
