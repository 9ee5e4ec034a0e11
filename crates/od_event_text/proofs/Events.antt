-- Event patterns, line by line.
use Rattle.std.proofs.Common.{◌≡◌, ℕ, ◌+◌, Bool, true, false, if◌then◌else◌, List, [], ◌∷◌, ◌++◌, map, length, Option, Some, None, Result, Ok, Err, refl, sym, ◌∙◌, ap, ap₂, subst, arith, append_assoc, append-nil, String, IfOk}
use Rattle.std.specs.HashSet.{HashSet, contains_text}
use Rattle.std.specs.Str.{chars, IsUtf8}
use Rattle.std.proofs.lemmas.List.{map-append}
use Rattle.od_pattern.specs.declared.pattern.Surface.{Surface}
use Rattle.od_pattern.specs.declared.path.Path.{Path}
use Rattle.od_pattern.specs.declared.rule.Argument.{Argument}
use Rattle.od_pattern.specs.declared.rule.EventRule.{EventRule}
use Rattle.od_language.specs.declared.pattern_fault.PatternKind.{PatternKind}
use Rattle.od_language.specs.declared.pattern_fault.PatternKind.TheVariants as kind
use Rattle.od_language.specs.declared.pattern_fault.PatternFault.{PatternFault}
use Rattle.od_language.specs.declared.pattern_fault.PatternFault.TheVariants as fault
use Rattle.od_language.specs.Answers.{IfBad, Refuses}
use Rattle.od_language.specs.Lexing.{size_of}
use Rattle.od_language.specs.Machine.{◌>>=◌, GoesOn}
use Rattle.od_language.specs.Whole.{OneOf}
use Rattle.od_language.specs.WholeRuns.{Verdict, sized}
use Rattle.od_syntax.specs.Events.{captures, Line, Head, pieces, head_of, is_trigger, trigger_cut, trigger_line, argument_cut, behind_head, argument_line, argument, cut_from, IsEventText, IsEventTextFault}
use Rattle.od_syntax.specs.EventVerdicts.{trigger_by, argument_if, argument_by, arguments_of, event_lines, event_of}
use Rattle.od_syntax.specs.Rules.{is_one_of}
use Rattle.od_syntax.specs.Sizes.{counted, path_size, paths_size, event_size}
use Rattle.od_syntax.specs.Verdicts.{path_at}
use Rattle.od_syntax.proofs.Events.{events_are_computed}
use Rattle.od_lex.proofs.Sizes.{bytes_of}
use Rattle.od_path.proofs.Sizes.{counted_sum}
use Rattle.od_surface.specs.Again.{Knows}
use Rattle.od_surface.specs.Answers.{Tells, GivesValue}
use Rattle.od_surface.proofs.Verdicts.{tells_by, tells_value, tells_fault, tells_only_value, tells_only_fault, one_of}
use Rattle.od_event_text.specs.declared.head.Head as program
use Rattle.od_event_text.specs.declared.lines.Part.{Part}
use Rattle.od_event_text.specs.Answers.{pathed, ruled}
use Rattle.od_event_text.specs.Heads.{shown}
use Rattle.od_event_text.specs.Parts.{line_of, cut_of}

-- a value whose fault is another's
abbrev failed : {A : Type 0} → PatternFault → Result A PatternFault
failed e = Err e

abbrev says : {C : Type 0} → ℕ → PatternKind → Verdict C
says at k = Err (at, k)

-- a fault stays on the way to more
pub still_fails : {A B C D : Type 0} (f : A → C) (g : B → D) (e : PatternFault) (v : Verdict C) (on : C → Verdict D) → Tells f (failed e) v → Tells g (failed e) (v >>= on)
still_fails f g fault.NoMemory v on t = tt
still_fails f g (fault.Bad at k) v on t = ap (λ z. z >>= on) t

-- ## The trigger's line

pub trigger_uncut : (line : Part) → cut_from line.at (chars line.text.now) ≡ None → trigger_line (line_of line) ≡ None
trigger_uncut line e = ap trigger_cut e

module _ (line behind : Part) (head cs : List ℕ) (b : Bool) (cut : cut_from line.at (chars line.text.now) ≡ Some (cut_of head behind)) (same : cs ≡ chars head) where
  trigger_by_head : trigger_line (line_of line) ≡ (if is_trigger (pieces cs) then Some (behind.at, chars behind.text.now) else None)
  trigger_by_head = ap trigger_cut cut ∙ ap (λ (z : List ℕ). if is_trigger (pieces z) then Some (behind.at, chars behind.text.now) else None) (sym same)

  pub trigger_found : b ≡ is_trigger (pieces cs) → b ≡ true → trigger_line (line_of line) ≡ Some (behind.at, chars behind.text.now)
  trigger_found e h = trigger_by_head ∙ ap (λ z. if z then Some (behind.at, chars behind.text.now) else None) (sym e ∙ h)

  pub trigger_other : b ≡ is_trigger (pieces cs) → b ≡ false → trigger_line (line_of line) ≡ None
  trigger_other e h = trigger_by_head ∙ ap (λ z. if z then Some (behind.at, chars behind.text.now) else None) (sym e ∙ h)

-- ## An argument's line

pub argument_uncut : (line : Part) → cut_from line.at (chars line.text.now) ≡ None → argument_line (line_of line) ≡ None
argument_uncut line e = ap argument_cut e

module _ (line behind : Part) (text cs : List ℕ) (cut : cut_from line.at (chars line.text.now) ≡ Some (cut_of text behind)) (same : cs ≡ chars text) where
  argument_by_head : (o : Option Head) → o ≡ head_of (pieces cs) → argument_line (line_of line) ≡ behind_head o (cut_of text behind)
  argument_by_head o e = ap argument_cut cut ∙ ap (λ (z : List ℕ). behind_head (head_of (pieces z)) (cut_of text behind)) (sym same) ∙ ap (λ z. behind_head z (cut_of text behind)) (sym e)

  pub argument_found : (h : program.Head) → Some (shown h) ≡ head_of (pieces cs) → argument_line (line_of line) ≡ Some (shown h, behind.at, chars behind.text.now)
  argument_found h e = argument_by_head (Some (shown h)) e

  pub argument_headless : None ≡ head_of (pieces cs) → argument_line (line_of line) ≡ None
  argument_headless e = argument_by_head None e

module _ {A : Type 0} (f : A → Argument) (g : A → Path) where
  -- the fault of a path
  pub path_fails : (e : PatternFault) (head : Head) (at : ℕ) (text : List ℕ) → GoesOn {Y = A} (failed e) (path_at at text) (λ x. Ok (g x)) → Tells f (failed e) (pathed head at text)
  path_fails fault.NoMemory head at text t = tt
  path_fails (fault.Bad at' k) head at text t = ap (λ z. z >>= λ p. Ok (argument head p)) t

pub path_read : (head : Head) (at : ℕ) (text : List ℕ) (p : Path) → path_at at text ≡ Ok p → pathed head at text ≡ Ok (argument head p)
path_read head at text p t = ap (λ z. z >>= λ p. Ok (argument head p)) t

-- whether a name is taken decides
pub name_taken : (before : List (List ℕ)) (line : Line) (h : Head) (at : ℕ) (text : List ℕ) (b : Bool) → argument_line line ≡ Some (h, at, text) → b ≡ is_one_of before h.name → b ≡ true →
    argument_by before line (argument_line line) ≡ Err (line.at, kind.SameCapture)
name_taken before line h at text b e n t = ap (argument_by before line) e ∙ ap (argument_if line h at text) (sym n ∙ t)

pub name_free : (before : List (List ℕ)) (line : Line) (h : Head) (at : ℕ) (text : List ℕ) (b : Bool) → argument_line line ≡ Some (h, at, text) → b ≡ is_one_of before h.name → b ≡ false →
    argument_by before line (argument_line line) ≡ pathed h at text
name_free before line h at text b e n t = ap (argument_by before line) e ∙ ap (argument_if line h at text) (sym n ∙ t)

-- ## The arguments

abbrev names_of : List Argument → List (List ℕ)
names_of found = map (λ (a : Argument). a.name) found

-- what was found, in front of what is left
abbrev with_found : List Argument → Verdict (List Argument) → Verdict (List Argument)
with_found found v = v >>= λ more. Ok (found ++ more)

abbrev some_found : List Argument → Verdict (List Argument)
some_found found = Ok found

shifted : (v : Verdict (List Argument)) (found : List Argument) (a : Argument) → with_found found (v >>= λ more. Ok (a ∷ more)) ≡ with_found (found ++ a ∷ []) v
shifted (Ok more) found a = ap some_found (sym (append_assoc found (a ∷ []) more))
shifted (Err e) found a = refl

none_found : (v : Verdict (List Argument)) → v ≡ with_found [] v
none_found (Ok more) = refl
none_found (Err e) = refl

names_more : (before : List (List ℕ)) (found : List Argument) (a : Argument) → (before ++ names_of found) ++ a.name ∷ [] ≡ before ++ names_of (found ++ a ∷ [])
names_more before found a = append_assoc before (names_of found) (a.name ∷ []) ∙ ap (λ z. before ++ z) (sym (map-append (λ (a : Argument). a.name) found (a ∷ [])))

-- the arguments of lines, of which these were found and those are left
pub record Found {Y S : Type 0} (old new : HashSet (String Y) S) (all left : List Line) (found : List Argument) : Type 0 where
  pub known : (before : List (List ℕ)) → Knows old before → Knows new (before ++ names_of found)
  pub goes : (before : List (List ℕ)) → Knows old before → arguments_of before all ≡ with_found found (arguments_of (before ++ names_of found) left)

pub found_none : {Y S : Type 0} (set : HashSet (String Y) S) (all : List Line) → Found set set all all []
found_none set all = record {
  known = λ before k. subst (Knows set) (sym (append-nil before)) k;
  goes = λ before k. none_found (arguments_of before all) ∙ ap (λ (z : List (List ℕ)). with_found [] (arguments_of z all)) (sym (append-nil before));
}

module _ {Y S : Type 0} (old set new : HashSet (String Y) S) (all left others : List Line) (line : Line) (found : List Argument) (f : Found old set all left found) (next : left ≡ line ∷ others) where
  abbrev on_line : List (List ℕ) → Verdict Argument → Verdict (List Argument)
  on_line names v = with_found found (v >>= λ a. arguments_of (names ++ a.name ∷ []) others >>= λ more. Ok (a ∷ more))

  by_line : (before : List (List ℕ)) → Knows old before → arguments_of before all ≡ on_line (before ++ names_of found) (argument_by (before ++ names_of found) line (argument_line line))
  by_line before k = f.goes before k ∙ ap (λ (z : List Line). with_found found (arguments_of (before ++ names_of found) z)) next

  pub found_more : (a : Argument) → ((before : List (List ℕ)) → Knows set before → argument_by before line (argument_line line) ≡ Ok a) → ((before : List (List ℕ)) → Knows set before → Knows new (before ++ a.name ∷ [])) →
      Found old new all others (found ++ a ∷ [])
  found_more a is grows = record {
    known = λ before k. subst (Knows new) (names_more before found a) (grows (before ++ names_of found) (f.known before k));
    goes = λ before k. by_line before k
        ∙ ap (on_line (before ++ names_of found)) (is (before ++ names_of found) (f.known before k))
        ∙ shifted (arguments_of ((before ++ names_of found) ++ a.name ∷ []) others) found a
        ∙ ap (λ (z : List (List ℕ)). with_found (found ++ a ∷ []) (arguments_of z others)) (names_more before found a);
  }

  pub found_fails : {A B : Type 0} (v : A → Argument) (w : B → List Argument) (e : PatternFault) → ((before : List (List ℕ)) → Knows set before → Tells v (failed e) (argument_by before line (argument_line line))) →
      (before : List (List ℕ)) → Knows old before → Tells w (failed e) (arguments_of before all)
  found_fails v w fault.NoMemory is before k = tt
  found_fails v w (fault.Bad at j) is before k = by_line before k ∙ ap (on_line (before ++ names_of found)) (is (before ++ names_of found) (f.known before k))

pub found_all : {Y S : Type 0} (old new : HashSet (String Y) S) (all left : List Line) (found : List Argument) → Found old new all left found → left ≡ [] → (before : List (List ℕ)) → Knows old before →
    arguments_of before all ≡ Ok found
found_all old new all left found f e before k =
    f.goes before k ∙ ap (λ (z : List Line). with_found found (arguments_of (before ++ names_of found) z)) e ∙ ap some_found (append-nil found)

paths_snoc : (found : List Argument) (a : Argument) → paths_size (found ++ a ∷ []) ≡ paths_size found + path_size a.path
paths_snoc [] a = omega arith
paths_snoc (b ∷ found) a = let e = paths_snoc found a in omega (arith, e)

-- the size with one more path
pub size_more : (whole s t n : ℕ) (found : List Argument) (a : Argument) → s ≡ counted (whole + paths_size found) → t ≡ counted (path_size a.path) → n ≡ counted (s + t) → n ≡ counted (whole + paths_size (found ++ a ∷ []))
size_more whole s t n found a es et en =
    let sum : whole + paths_size found + path_size a.path ≡ whole + paths_size (found ++ a ∷ []) = omega (arith, paths_snoc found a) in
    en ∙ ap₂ (λ x y. counted (x + y)) es et ∙ counted_sum (whole + paths_size found) (path_size a.path) ∙ ap counted sum

-- ## The event

pub rule_fails : {A B : Type 0} (v : A → List Argument) (w : B → EventRule) (e : PatternFault) (p : Surface) (ls : List Line) → Tells v (failed e) (arguments_of (captures p) ls) → Tells w (failed e) (ruled p ls)
rule_fails v w e p ls t = still_fails v w e (arguments_of (captures p) ls) (λ found. Ok (record { trigger = p; arguments = found })) t

pub rule_read : (p : Surface) (ls : List Line) (found : List Argument) → arguments_of (captures p) ls ≡ Ok found → ruled p ls ≡ Ok (record { trigger = p; arguments = found })
rule_read p ls found t = ap (λ z. z >>= λ found. Ok (record { trigger = p; arguments = found })) t

-- no name is taken at first
pub knows_none : {Y S : Type 0} (set : HashSet (String Y) S) → ((q : List ℕ) → contains_text set q ≡ false) → Knows set []
knows_none set h q = h q

pub lines_read : (end : ℕ) (line : Line) (all others : List Line) (p : Surface) → all ≡ line ∷ others → trigger_by line (trigger_line line) ≡ Ok p → event_lines end all ≡ ruled p others
lines_read end line all others p e t = ap (event_lines end) e ∙ ap (λ (z : Verdict Surface). z >>= λ q. ruled q others) t

pub trigger_fails : {A B : Type 0} (v : A → Surface) (w : B → EventRule) (e : PatternFault) (end : ℕ) (line : Line) (all others : List Line) → all ≡ line ∷ others → Tells v (failed e) (trigger_by line (trigger_line line)) →
    Tells w (failed e) (event_lines end all)
trigger_fails v w fault.NoMemory end line all others e t = tt
trigger_fails v w (fault.Bad at k) end line all others e t = ap (event_lines end) e ∙ ap (λ (z : Verdict Surface). z >>= λ q. ruled q others) t

-- a name is still taken behind the path
pub still_known : {A Y S : Type 0} (f : A → List ℕ) (q : Result A PatternFault) (set : HashSet (String Y) S) (before : List (List ℕ)) (name : List ℕ) → IfOk q (λ x. f x ≡ name) → Knows set (before ++ name ∷ []) →
    IfOk q (λ x. Knows set (before ++ f x ∷ []))
still_known f (Ok x) set before name e k = subst (λ (z : List ℕ). Knows set (before ++ z ∷ [])) (sym e) k
still_known f (Err e) set before name i k = tt

-- a text without a line of its own ends too early
no_line : (bs : List ℕ) (all : List Line) → IsUtf8 bs → all ≡ [] → event_lines (size_of (chars bs)) all ≡ says (length bs) kind.Expected
no_line bs all u e = ap (event_lines (size_of (chars bs))) e ∙ ap (λ n. says n kind.Expected) (bytes_of bs u)

pub ends_early : {A : Type 0} (f : A → EventRule) (e : PatternFault) (bs : List ℕ) (all : List Line) → IsUtf8 bs → all ≡ [] → e ≡ fault.Bad (length bs) kind.Expected → Tells f (failed e) (event_lines (size_of (chars bs)) all)
ends_early f e bs all u none is = subst (λ (z : PatternFault). Tells f (failed z) (event_lines (size_of (chars bs)) all)) (sym is) (no_line bs all u none)

-- the answer with its size
pub sized_fails : {A : Type 0} (v : A → EventRule) (e : PatternFault) (w : Verdict EventRule) → Tells v (failed e) w → Tells (λ r. r) (failed e) (sized event_size w)
sized_fails v fault.NoMemory w t = tt
sized_fails v (fault.Bad at k) w t = ap (sized event_size) t

pub sized_tells : (q : Result EventRule PatternFault) (r : EventRule) (w : Verdict EventRule) → w ≡ Ok r → Tells (λ r. r) q (sized event_size (Ok r)) → Tells (λ r. r) q (sized event_size w)
sized_tells q r w e t = tells_by (λ r. r) q (sized event_size w) (sized event_size (Ok r)) (ap (sized event_size) e) t

-- what a text has, which is read so
module _ (cs : List ℕ) (q : Result EventRule PatternFault) (t : Tells (λ r. r) q (event_of cs)) where
  pub event_value : IfOk q (IsEventText cs)
  event_value = tells_value (IsEventText cs) (IsEventTextFault cs) (event_of cs) (events_are_computed cs) q t

  pub event_fault : IfBad q (IsEventTextFault cs)
  event_fault = tells_fault (IsEventText cs) (IsEventTextFault cs) (event_of cs) (events_are_computed cs) q t

  pub event_only_value : (r : EventRule) → IsEventText cs r → GivesValue q r
  event_only_value = tells_only_value (IsEventText cs) (IsEventTextFault cs) (event_of cs) (events_are_computed cs) q t

  pub event_only_fault : (at : ℕ) (k : PatternKind) → IsEventTextFault cs at k → Refuses q at k
  event_only_fault = tells_only_fault (IsEventText cs) (IsEventTextFault cs) (event_of cs) (events_are_computed cs) q t

pub one_event : (cs : List ℕ) → OneOf (IsEventText cs) (IsEventTextFault cs)
one_event cs = one_of (IsEventText cs) (IsEventTextFault cs) (event_of cs) (events_are_computed cs)
