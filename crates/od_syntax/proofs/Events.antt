-- The computed verdicts of event patterns are those of the definitions.
use Rattle.std.proofs.Common.{◌≡◌, ℕ, Bool, true, false, List, [], ◌∷◌, ◌++◌, Option, Some, None, Ok, Err, refl, sym, ◌∙◌, ap, ◌⊎◌, inl, inr}
use Rattle.od_pattern.specs.declared.pattern.Surface.{Surface}
use Rattle.od_pattern.specs.declared.path.Path.{Path}
use Rattle.od_pattern.specs.declared.rule.Argument.{Argument}
use Rattle.od_pattern.specs.declared.rule.EventRule.{EventRule}
use Rattle.od_language.specs.declared.pattern_fault.PatternKind.{PatternKind}
use Rattle.od_language.specs.declared.pattern_fault.PatternKind.TheVariants as kind
use Rattle.od_language.specs.Lexing.{size_of}
use Rattle.od_language.specs.Machine.{◌>>=◌}
use Rattle.od_language.specs.Whole.{OneOf}
use Rattle.od_language.specs.WholeRuns.{Verdict, sized, IsVerdict}
use Rattle.od_language.proofs.Whole.{one_sized}
use Rattle.od_language.proofs.WholeRuns.{Tells, is_verdict, sized_tells}
use Rattle.od_syntax.specs.Events.{captures, Line, own_lines, Head, trigger_line, argument_line, argument, IsTrigger, trigger, IsTriggerFault, unheaded, behind, IsArgument, one, IsArgumentFault, nameless, again, AreArguments, none, more, IsArgumentsFault, here, later, IsEvent, event, IsEventFault, arguments}
use Rattle.od_syntax.specs.Events as events
use Rattle.od_syntax.specs.EventVerdicts.{trigger_by, argument_if, argument_by, arguments_of, event_lines, EventsAreComputed}
use Rattle.od_syntax.specs.Rules.{is_one_of}
use Rattle.od_syntax.specs.Sizes.{event_size}
use Rattle.od_syntax.specs.Texts.{IsSurface, IsSurfaceFault, IsPath, IsPathFault}
use Rattle.od_syntax.specs.Verdicts.{surface_at, path_at}
use Rattle.od_syntax.proofs.Verdicts.{surfaces_are_computed, paths_are_computed}

-- what a verdict says, that is said of it
module _ {C : Type 0} (Value : C → Type 0) (Fault : ℕ → PatternKind → Type 0) where
  tells_by : (v w : Verdict C) → w ≡ v → IsVerdict Value Fault w → Tells Value Fault v
  tells_by (Ok c) w e i = (i.value c).1 e
  tells_by (Err x) w e i = (i.fault x.0 x.1).1 e

-- ## The trigger's line

no_cut : {X : Type 0} → (o : Option X) (x : X) → o ≡ None → o ≡ Some x → ⊥
no_cut o x e h = absurd (cc)

abbrev some_of : {X : Type 0} → X → Option X
some_of x = Some x

same_some : {X : Type 0} → (o : Option X) (x y : X) → o ≡ Some x → o ≡ Some y → x ≡ y
same_some o x y e h = let same : some_of x ≡ some_of y = sym e ∙ h in cc

trigger_value : (line : Line) (o : Option (ℕ × List ℕ)) → trigger_line line ≡ o → (p : Surface) → IsTrigger line p → trigger_by line o ≡ Ok p
trigger_value line None e _ (trigger at text p h i) = absurd (no_cut (trigger_line line) (at, text) e h)
trigger_value line (Some x) e _ (trigger at text p h i) =
    let same = same_some (trigger_line line) x (at, text) e h in
    ap (λ (z : ℕ × List ℕ). surface_at z.0 z.1) same ∙ ((surfaces_are_computed at text).value p).0 i

trigger_fault : (line : Line) (o : Option (ℕ × List ℕ)) → trigger_line line ≡ o → (at : ℕ) (k : PatternKind) → IsTriggerFault line at k → trigger_by line o ≡ Err (at, k)
trigger_fault line None e _ _ (unheaded h) = refl
trigger_fault line None e _ _ (behind at text h place k f) = absurd (no_cut (trigger_line line) (at, text) e h)
trigger_fault line (Some x) e _ _ (unheaded h) = absurd (no_cut (trigger_line line) x h e)
trigger_fault line (Some x) e _ _ (behind at text h place k f) =
    let same = same_some (trigger_line line) x (at, text) e h in
    ap (λ (z : ℕ × List ℕ). surface_at z.0 z.1) same ∙ ((surfaces_are_computed at text).fault place k).0 f

trigger_some : (line : Line) (at : ℕ) (text : List ℕ) → trigger_line line ≡ Some (at, text) → (v : Verdict Surface) → Tells (IsSurface at text) (IsSurfaceFault at text) v →
    Tells (IsTrigger line) (IsTriggerFault line) v
trigger_some line at text e (Ok p) t = trigger at text p e t
trigger_some line at text e (Err x) t = behind at text e x.0 x.1 t

trigger_tells : (line : Line) (o : Option (ℕ × List ℕ)) → trigger_line line ≡ o → Tells (IsTrigger line) (IsTriggerFault line) (trigger_by line o)
trigger_tells line None e = unheaded e
trigger_tells line (Some x) e = trigger_some line x.0 x.1 e (surface_at x.0 x.1) (tells_by (IsSurface x.0 x.1) (IsSurfaceFault x.0 x.1) (surface_at x.0 x.1) (surface_at x.0 x.1) refl (surfaces_are_computed x.0 x.1))

-- ## An argument's line

module _ (names : List (List ℕ)) (line : Line) where
  abbrev Parts : Type 0
  Parts = Head × ℕ × List ℕ

  with_value : (h : Head) (at : ℕ) (text : List ℕ) (p : Path) (b : Bool) → b ≡ false → IsPath at text p → argument_if line h at text b ≡ Ok (argument h p)
  with_value h at text p true e i = absurd (cc)
  with_value h at text p false e i = ap (λ q. q >>= λ z. Ok (argument h z)) (((paths_are_computed at text).value p).0 i)

  argument_value : (o : Option Parts) → argument_line line ≡ o → (a : Argument) → IsArgument names line a → argument_by names line o ≡ Ok a
  argument_value None e _ (one h at text p c n i) = absurd (no_cut (argument_line line) (h, at, text) e c)
  argument_value (Some x) e _ (one h at text p c n i) =
      ap (argument_by names line) (sym e ∙ c) ∙ with_value h at text p (is_one_of names h.name) n i

  with_again : (h : Head) (at : ℕ) (text : List ℕ) (b : Bool) → b ≡ true → argument_if line h at text b ≡ Err (line.at, kind.SameCapture)
  with_again h at text true e = refl
  with_again h at text false e = absurd (cc)

  with_fault : (h : Head) (at : ℕ) (text : List ℕ) (place : ℕ) (k : PatternKind) (b : Bool) → b ≡ false → IsPathFault at text place k → argument_if line h at text b ≡ Err (place, k)
  with_fault h at text place k true e f = absurd (cc)
  with_fault h at text place k false e f = ap (λ q. q >>= λ z. Ok (argument h z)) (((paths_are_computed at text).fault place k).0 f)

  argument_fault : (o : Option Parts) → argument_line line ≡ o → (at : ℕ) (k : PatternKind) → IsArgumentFault names line at k → argument_by names line o ≡ Err (at, k)
  argument_fault None e _ _ (nameless c) = refl
  argument_fault None e _ _ (again h at text c n) = absurd (no_cut (argument_line line) (h, at, text) e c)
  argument_fault None e _ _ (events.behind h at text c n place k f) = absurd (no_cut (argument_line line) (h, at, text) e c)
  argument_fault (Some x) e _ _ (nameless c) = absurd (no_cut (argument_line line) x c e)
  argument_fault (Some x) e _ _ (again h at text c n) =
      ap (argument_by names line) (sym e ∙ c) ∙ with_again h at text (is_one_of names h.name) n
  argument_fault (Some x) e _ _ (events.behind h at text c n place k f) =
      ap (argument_by names line) (sym e ∙ c) ∙ with_fault h at text place k (is_one_of names h.name) n f

  path_tells : (h : Head) (at : ℕ) (text : List ℕ) → argument_line line ≡ Some (h, at, text) → is_one_of names h.name ≡ false → (v : Verdict Path) →
      Tells (IsPath at text) (IsPathFault at text) v → Tells (IsArgument names line) (IsArgumentFault names line) (v >>= λ p. Ok (argument h p))
  path_tells h at text c n (Ok p) t = one h at text p c n t
  path_tells h at text c n (Err x) t = events.behind h at text c n x.0 x.1 t

  if_tells : (h : Head) (at : ℕ) (text : List ℕ) → argument_line line ≡ Some (h, at, text) → (b : Bool) → is_one_of names h.name ≡ b →
      Tells (IsArgument names line) (IsArgumentFault names line) (argument_if line h at text b)
  if_tells h at text c true n = again h at text c n
  if_tells h at text c false n =
      path_tells h at text c n (path_at at text) (tells_by (IsPath at text) (IsPathFault at text) (path_at at text) (path_at at text) refl (paths_are_computed at text))

  argument_tells : (o : Option Parts) → argument_line line ≡ o → Tells (IsArgument names line) (IsArgumentFault names line) (argument_by names line o)
  argument_tells None e = nameless e
  argument_tells (Some x) e = if_tells x.0 x.1 x.2 e (is_one_of names x.0.name) refl

-- ## The arguments

arguments_value : (names : List (List ℕ)) (ls : List Line) (found : List Argument) → AreArguments names ls found → arguments_of names ls ≡ Ok found
arguments_value _ _ _ (none names) = refl
arguments_value _ _ _ (more names line ls a found h r) =
    ap (λ q. q >>= λ b. arguments_of (names ++ b.name ∷ []) ls >>= λ found. Ok (b ∷ found)) (argument_value names line (argument_line line) refl a h)
    ∙ ap (λ q. q >>= λ found. Ok (a ∷ found)) (arguments_value (names ++ a.name ∷ []) ls found r)

arguments_fault : (names : List (List ℕ)) (ls : List Line) (at : ℕ) (k : PatternKind) → IsArgumentsFault names ls at k → arguments_of names ls ≡ Err (at, k)
arguments_fault _ _ _ _ (here names line ls at k f) =
    ap (λ q. q >>= λ b. arguments_of (names ++ b.name ∷ []) ls >>= λ found. Ok (b ∷ found)) (argument_fault names line (argument_line line) refl at k f)
arguments_fault _ _ _ _ (later names line ls a at k h f) =
    ap (λ q. q >>= λ b. arguments_of (names ++ b.name ∷ []) ls >>= λ found. Ok (b ∷ found)) (argument_value names line (argument_line line) refl a h)
    ∙ ap (λ q. q >>= λ found. Ok (a ∷ found)) (arguments_fault (names ++ a.name ∷ []) ls at k f)

abbrev SaysArguments : List (List ℕ) → List Line → Verdict (List Argument) → Type 0
SaysArguments names ls = Tells (AreArguments names ls) (IsArgumentsFault names ls)

rest_tells : (names : List (List ℕ)) (line : Line) (ls : List Line) (a : Argument) → IsArgument names line a → (v : Verdict (List Argument)) →
    SaysArguments (names ++ a.name ∷ []) ls v → SaysArguments names (line ∷ ls) (v >>= λ found. Ok (a ∷ found))
rest_tells names line ls a h (Ok found) t = more names line ls a found h t
rest_tells names line ls a h (Err x) t = later names line ls a x.0 x.1 h t

line_tells : (names : List (List ℕ)) (line : Line) (ls : List Line) → ((a : Argument) → SaysArguments (names ++ a.name ∷ []) ls (arguments_of (names ++ a.name ∷ []) ls)) →
    (v : Verdict Argument) → Tells (IsArgument names line) (IsArgumentFault names line) v →
    SaysArguments names (line ∷ ls) (v >>= λ a. arguments_of (names ++ a.name ∷ []) ls >>= λ found. Ok (a ∷ found))
line_tells names line ls rec (Ok a) t = rest_tells names line ls a t (arguments_of (names ++ a.name ∷ []) ls) (rec a)
line_tells names line ls rec (Err x) t = here names line ls x.0 x.1 t

arguments_tell : (ls : List Line) (names : List (List ℕ)) → SaysArguments names ls (arguments_of names ls)
arguments_tell [] names = none names
arguments_tell (line ∷ ls) names =
    line_tells names line ls (λ a. arguments_tell ls (names ++ a.name ∷ [])) (argument_by names line (argument_line line)) (argument_tells names line (argument_line line) refl)

-- ## The event

abbrev found_with : Surface → Verdict (List Argument) → Verdict EventRule
found_with p v = v >>= λ found. Ok (record { trigger = p; arguments = found })

event_value : (end : ℕ) (ls : List Line) (r : EventRule) → IsEvent ls r → event_lines end ls ≡ Ok r
event_value end _ _ (event line ls p found h r) =
    ap (λ q. q >>= λ z. found_with z (arguments_of (captures z) ls)) (trigger_value line (trigger_line line) refl p h) ∙ ap (found_with p) (arguments_value (captures p) ls found r)

event_fault : (end : ℕ) (ls : List Line) (at : ℕ) (k : PatternKind) → IsEventFault end ls at k → event_lines end ls ≡ Err (at, k)
event_fault end _ _ _ events.IsEventFault.none = refl
event_fault end _ _ _ (events.IsEventFault.trigger line ls at k f) =
    ap (λ q. q >>= λ z. found_with z (arguments_of (captures z) ls)) (trigger_fault line (trigger_line line) refl at k f)
event_fault end _ _ _ (arguments line ls p at k h f) =
    ap (λ q. q >>= λ z. found_with z (arguments_of (captures z) ls)) (trigger_value line (trigger_line line) refl p h) ∙ ap (found_with p) (arguments_fault (captures p) ls at k f)

module _ (end : ℕ) where
  abbrev SaysEvent : List Line → Verdict EventRule → Type 0
  SaysEvent ls = Tells (IsEvent ls) (IsEventFault end ls)

  found_tells : (line : Line) (ls : List Line) (p : Surface) → IsTrigger line p → (v : Verdict (List Argument)) → SaysArguments (captures p) ls v → SaysEvent (line ∷ ls) (found_with p v)
  found_tells line ls p h (Ok found) t = event line ls p found h t
  found_tells line ls p h (Err x) t = arguments line ls p x.0 x.1 h t

  first_tells : (line : Line) (ls : List Line) (v : Verdict Surface) → Tells (IsTrigger line) (IsTriggerFault line) v →
      SaysEvent (line ∷ ls) (v >>= λ p. found_with p (arguments_of (captures p) ls))
  first_tells line ls (Ok p) t = found_tells line ls p t (arguments_of (captures p) ls) (arguments_tell ls (captures p))
  first_tells line ls (Err x) t = events.IsEventFault.trigger line ls x.0 x.1 t

  event_tells : (ls : List Line) → SaysEvent ls (event_lines end ls)
  event_tells [] = events.IsEventFault.none
  event_tells (line ∷ ls) = first_tells line ls (trigger_by line (trigger_line line)) (trigger_tells line (trigger_line line) refl)

-- exactly one answer, where a verdict is computed
module _ {C : Type 0} (Value : C → Type 0) (Fault : ℕ → PatternKind → Type 0) (v : Verdict C) (value : (c : C) → Value c → v ≡ Ok c)
    (fault : (at : ℕ) (k : PatternKind) → Fault at k → v ≡ Err (at, k)) where
  abbrev good : C → Verdict C
  good c = Ok c

  abbrev bad : ℕ → PatternKind → Verdict C
  bad at k = Err (at, k)

  abbrev place_in : ℕ × PatternKind → Verdict C → ℕ × PatternKind
  place_in d (Ok c) = d
  place_in d (Err x) = x

  same_value : (b c : C) → good b ≡ good c → b ≡ c
  same_value b c e = cc

  not_both : (c : C) (at : ℕ) (k : PatternKind) → v ≡ Ok c → v ≡ Err (at, k) → ⊥
  not_both c at k e h = absurd (cc)

  some_of_both : (w : Verdict C) → Tells Value Fault w → ((c : C) × Value c) ⊎ ((at : ℕ) × (k : PatternKind) × Fault at k)
  some_of_both (Ok c) t = inl (c, t)
  some_of_both (Err x) t = inr (x.0, x.1, t)

  one_of : Tells Value Fault v → OneOf Value Fault
  one_of t = record {
    some = some_of_both v t;
    apart = λ c at k w f. not_both c at k (value c w) (fault at k f);
    value = λ b c w z. same_value b c (sym (value b w) ∙ value c z);
    fault = λ p q j k f g. let e : bad p j ≡ bad q k = sym (fault p j f) ∙ fault q k g in
        (ap (λ z. (place_in (p, j) z).0) e, ap (λ z. (place_in (p, j) z).1) e);
  }

pub events_are_computed : EventsAreComputed
events_are_computed cs =
    let ls : List Line = own_lines cs in
    let end : ℕ = size_of cs in
    let t = event_tells end ls in
    let o = one_of (IsEvent ls) (IsEventFault end ls) (event_lines end ls) (event_value end ls) (event_fault end ls) t in
    is_verdict _ _ (one_sized (IsEvent ls) (IsEventFault end ls) event_size o) (sized event_size (event_lines end ls)) (sized_tells (IsEvent ls) (IsEventFault end ls) event_size (event_lines end ls) t)
