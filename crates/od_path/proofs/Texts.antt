-- Paths as whole texts.
use Rattle.std.proofs.Common.{◌≡◌, ℕ, ◌+◌, Bool, true, false, nat_lt, if◌then◌else◌, List, [], ◌∷◌, drop, Option, Some, None, Result, Ok, Err, refl, sym, ◌∙◌, ap, subst, arith, IfOk}
use Rattle.std.proofs.lemmas.List.{drop-drop}
use Rattle.od_pattern.specs.declared.path.Path.{Path}
use Rattle.od_language.specs.declared.pattern_fault.PatternKind.{PatternKind}
use Rattle.od_language.specs.declared.pattern_fault.PatternKind.TheVariants as kind
use Rattle.od_language.specs.declared.pattern_fault.PatternFault.{PatternFault}
use Rattle.od_language.specs.declared.pattern_fault.PatternFault.TheVariants as fault
use Rattle.od_language.specs.declared.lexeme.Lexeme.{Lexeme}
use Rattle.od_language.specs.declared.lexeme.Miss.{Miss}
use Rattle.od_language.specs.Alphabet.{plain}
use Rattle.od_language.specs.Lexed.{lexed_from}
use Rattle.od_language.specs.Machine.{Outcome, GoesOn}
use Rattle.od_language.specs.WholeRuns.{Verdict, to_the_end, before_stuck}
use Rattle.od_lex.specs.Machine.{place_of}
use Rattle.od_syntax.specs.PathMachine.{Around, top, atom, whole}
use Rattle.od_syntax.specs.Texts.{stuck_at}
use Rattle.od_syntax.specs.Verdicts.{path_at as verdict_at}
use Rattle.od_path.specs.Machine.{run}
use Rattle.od_path.specs.Texts.{unless_stuck}
use Rattle.od_path.proofs.Answers.{runs, ended_there}

abbrev read_to : Path → List Lexeme → Outcome Lexeme Path
read_to p l = Ok (p, l)

-- behind a path stands one lexeme at most
one_left : (p : Path) (l : List Lexeme) → drop 1 l ≡ [] → to_the_end plain (read_to p l) ≡ Ok p
one_left p [] e = refl
one_left p (x ∷ []) e = refl
one_left p (x ∷ y ∷ l) e = absurd (cc)

more_left : (p : Path) (l m : List Lexeme) (y : Lexeme) → drop 1 l ≡ y ∷ m → to_the_end plain (read_to p l) ≡ Err (place_of l, kind.Expected)
more_left p [] m y e = absurd (cc)
more_left p (x ∷ []) m y e = absurd (cc)
more_left p (x ∷ z ∷ l) m y e = refl

at_place : (to : ℕ) (l r : List Lexeme) → drop (to + 1) l ≡ r → drop 1 (drop to l) ≡ r
at_place to l r e = drop-drop 1 to l ∙ ap (λ n. drop n l) (omega arith) ∙ e

read_whole : (p : Path) (to : ℕ) (l : List Lexeme) → run 0 (atom [] [] top) l ≡ run 0 (whole p top) (drop to l) → to_the_end plain (run 0 (atom [] [] top) l) ≡ to_the_end plain (read_to p (drop to l))
read_whole p to l h = ap (to_the_end plain) (h ∙ ended_there 0 p (drop to l))

pub ends_there : (p : Path) (to : ℕ) (l : List Lexeme) → ((k : Around) → run 0 (atom [] [] k) l ≡ run 0 (whole p k) (drop to l)) → drop (to + 1) l ≡ [] →
    to_the_end plain (run 0 (atom [] [] top) l) ≡ Ok p
ends_there p to l h e = read_whole p to l (h top) ∙ one_left p (drop to l) (at_place to l [] e)

pub goes_past : (p : Path) (to : ℕ) (l m : List Lexeme) (y : Lexeme) → ((k : Around) → run 0 (atom [] [] k) l ≡ run 0 (whole p k) (drop to l)) → drop (to + 1) l ≡ y ∷ m →
    to_the_end plain (run 0 (atom [] [] top) l) ≡ Err (place_of (drop to l), kind.Expected)
goes_past p to l m y h e = read_whole p to l (h top) ∙ more_left p (drop to l) m y (at_place to l (y ∷ m) e)

pub fails_before : (l : List Lexeme) (at : ℕ) (k : PatternKind) → ((r : Around) → run 0 (atom [] [] r) l ≡ Err (at, k)) → to_the_end plain (run 0 (atom [] [] top) l) ≡ Err (at, k)
fails_before l at k h = ap (to_the_end plain) (h top)

module _ {Y : Type 0} (path_of : Y → Path) where
  abbrev bad : ℕ → PatternKind → Result Y PatternFault
  bad at k = Err (fault.Bad at k)

  abbrev says : ℕ → PatternKind → Verdict Path
  says at k = Err (at, k)

  earlier : (b : Bool) (at place : ℕ) (k : PatternKind) (v : Verdict Path) → v ≡ (if b then says at k else says place kind.Lex) →
      GoesOn (if b then bad at k else bad place kind.Lex) v (λ x. Ok (path_of x))
  earlier true at place k v e = e
  earlier false at place k v e = e

  stuck_tells : (o : Option ℕ) (q : Result Y PatternFault) (v : Verdict Path) → GoesOn q v (λ x. Ok (path_of x)) → GoesOn (unless_stuck o q) (before_stuck o v) (λ x. Ok (path_of x))
  stuck_tells None q v h = h
  stuck_tells (Some place) (Ok x) v h = ap (before_stuck (Some place)) h
  stuck_tells (Some place) (Err fault.NoMemory) v h = tt
  stuck_tells (Some place) (Err (fault.Bad at k)) v h = earlier (nat_lt at place) at place k (before_stuck (Some place) v) (ap (before_stuck (Some place)) h)

  text_tells : (q : Result Y PatternFault) (at : ℕ) (cs : List ℕ) (l : List Lexeme) (o : Option ℕ) → (lexed_from at cs).0 ≡ l → stuck_at (lexed_from at cs).1 ≡ o →
      GoesOn q (to_the_end plain (run 0 (atom [] [] top) l)) (λ x. Ok (path_of x)) → GoesOn (unless_stuck o q) (verdict_at at cs) (λ x. Ok (path_of x))
  text_tells q at cs l o e i h = subst (λ (v : Verdict Path). GoesOn (unless_stuck o q) v (λ x. Ok (path_of x)))
      (ap (λ z. before_stuck z (to_the_end plain (run 0 (atom [] [] top) l))) (sym i)
      ∙ ap (λ (z : List Lexeme). before_stuck (stuck_at (lexed_from at cs).1) (to_the_end plain (run 0 (atom [] [] top) z))) (sym e)
      ∙ ap (λ z. before_stuck (stuck_at (lexed_from at cs).1) (to_the_end plain z)) (runs 0 (lexed_from at cs).0)) (stuck_tells o q (to_the_end plain (run 0 (atom [] [] top) l)) h)

  -- the answer for lexemes is that for their text
  pub whole_tells : (q r : Result Y PatternFault) (at : ℕ) (cs : List ℕ) (l items : List Lexeme) (f : Option (ℕ × Miss)) → lexed_from at cs ≡ (items, f) → l ≡ items →
      GoesOn q (to_the_end plain (run 0 (atom [] [] top) l)) (λ x. Ok (path_of x)) → r ≡ unless_stuck (stuck_at f) q → GoesOn r (verdict_at at cs) (λ x. Ok (path_of x))
  whole_tells q r at cs l items f c e h i = subst (λ (z : Result Y PatternFault). GoesOn z (verdict_at at cs) (λ x. Ok (path_of x))) (sym i)
      (text_tells q at cs l (stuck_at f) (ap (λ z. z.0) c ∙ sym e) (ap (λ z. stuck_at z.1) c) h)

  abbrev failed : PatternFault → Result Y PatternFault
  failed e = Err e

  pub past_tells : (e : PatternFault) (p : Path) (to : ℕ) (l m : List Lexeme) (y : Lexeme) → ((k : Around) → run 0 (atom [] [] k) l ≡ run 0 (whole p k) (drop to l)) → drop (to + 1) l ≡ y ∷ m →
      e ≡ fault.Bad (place_of (drop to l)) kind.Expected → GoesOn (failed e) (to_the_end plain (run 0 (atom [] [] top) l)) (λ x. Ok (path_of x))
  past_tells e p to l m y h n i = subst (λ (z : PatternFault). GoesOn (failed z) (to_the_end plain (run 0 (atom [] [] top) l)) (λ x. Ok (path_of x))) (sym i) (goes_past p to l m y h n)

  no_value : (P : Y → Type 0) (b : Bool) (at place : ℕ) (k : PatternKind) → IfOk (if b then bad at k else bad place kind.Lex) P
  no_value P true at place k = tt
  no_value P false at place k = tt

  pub still_sized : (P : Y → Type 0) (o : Option ℕ) (q : Result Y PatternFault) → IfOk q P → IfOk (unless_stuck o q) P
  still_sized P None q h = h
  still_sized P (Some place) (Ok x) h = tt
  still_sized P (Some place) (Err fault.NoMemory) h = tt
  still_sized P (Some place) (Err (fault.Bad at k)) h = no_value P (nat_lt at place) at place k
