-- What the parser answers is what a text is read as.
use Rattle.std.proofs.Common.{◌≡◌, ℕ, ◌+◌, ◌<◌, ◌≤◌, Bool, true, false, List, [], ◌∷◌, ◌++◌, take, drop, length, drop-drop, Option, None, Result, Ok, Err, refl, sym, ◌∙◌, ap, subst, arith, IfOk}
use Rattle.std.proofs.lemmas.List.{drop-take, length-take-le, take-append-drop}
use Rattle.od_pattern.specs.declared.pattern.Surface.{Surface}
use Rattle.od_pattern.specs.declared.rule.Hop.{Hop}
use Rattle.od_pattern.specs.declared.rule.HopPart.{HopPart}
use Rattle.od_language.specs.declared.pattern_fault.PatternKind.{PatternKind}
use Rattle.od_language.specs.declared.pattern_fault.PatternKind.TheVariants as kind
use Rattle.od_language.specs.declared.pattern_fault.PatternFault.{PatternFault}
use Rattle.od_language.specs.declared.pattern_fault.PatternFault.TheVariants as fault
use Rattle.od_language.specs.declared.lexeme.Lexeme.{Lexeme}
use Rattle.od_language.specs.declared.lexeme.Miss.{Miss}
use Rattle.od_language.specs.declared.lexeme.LexKind.{LexKind}
use Rattle.od_language.specs.declared.lexeme.LexKind.TheVariants.{Or}
use Rattle.od_language.specs.Depth.{depth_behind}
use Rattle.od_language.specs.Answers.{IfBad, Refuses}
use Rattle.od_language.specs.Lexed.{lexed_from, Lexemes}
use Rattle.od_language.specs.Machine.{◌>>=◌, GoesOn, Outcome, stopped, checked, either_way}
use Rattle.od_language.specs.WholeRuns.{Verdict, to_the_end, before_stuck, sized}
use Rattle.od_lex.specs.Machine.{NoOr}
use Rattle.od_surface.specs.declared.lexemes.Places.{Places}
use Rattle.od_surface.specs.Again.{Marks}
use Rattle.od_surface.specs.Answers.{Tells, GivesValue, unless_stuck}
use Rattle.od_surface.specs.declared.single.Found.{Found}
use Rattle.od_surface.specs.Reading.{Left, left, rule_at, run, place_or}
use Rattle.od_surface.proofs.Counted.{counted_sum}
use Rattle.od_surface.proofs.Verdicts.{tells_value, tells_fault, tells_only_value, tells_only_fault, tells_by, stuck_tells}
use Rattle.od_path.specs.Steps.{steps_come}
use Rattle.od_syntax.specs.HopMachine.{between, alone, joined}
use Rattle.od_syntax.specs.StepsMachine.{begun}
use Rattle.od_syntax.specs.HopVerdicts.{hop_at, hop_of, hop_start}
use Rattle.od_syntax.specs.Sizes.{counted, surface_size, path_size, parts_size, hop_size}
use Rattle.od_syntax.specs.SurfaceMachine.{State, top, listed, whole, step_listed}
use Rattle.od_syntax.specs.Texts.{stuck_at, IsHopText, IsHopTextFault}
use Rattle.od_syntax.specs.Told.{ToldLexeme, told_apart, told}
use Rattle.od_syntax.specs.Verdicts.{surface_start}
use Rattle.od_syntax.proofs.Hops.Verdicts.{hop_texts_are_computed}
use Rattle.od_hop.specs.declared.joints.Joined.{Joined}
use Rattle.od_hop.specs.declared.surface.Piece.{Piece}
use Rattle.od_hop.specs.declared.text.Measured.{Measured}
use Rattle.od_hop.specs.Ends.{before_end}
use Rattle.od_hop.specs.Reading.{hop_run, hop_from, Before, is_behind, into, left_so, on_behind}
use Rattle.od_hop.proofs.Cuts.{cut_is, joined_again}
use Rattle.od_hop.proofs.Hosts.{on, host}
use Rattle.od_hop.proofs.Joins.{to_between, no_steps, front_choices}
use Rattle.od_hop.proofs.Machines.{same_run, go}

-- ## Surfaces

not_or : (x : LexKind) (a : List Surface) → (x ≡ Or → ⊥) → step_listed x a top ≡ Err kind.Expected
not_or Or a h = absurd (h refl)
not_or x a h = refl

-- a surface of one choice
pub one_left : (places : Places) (p : Surface) (r : List Lexeme) → NoOr r → run places 0 (listed (p ∷ []) top) r ≡ Ok (left_so true p, r)
one_left places p [] h = refl
one_left places p (x ∷ r) h =
    ap (λ q. either_way q (λ t. checked (rule_at places.again 0 (listed (p ∷ []) top) x.at x.kind) x.at (run places (depth_behind 0 x.kind) t r)) (λ k. stopped (left 0 (listed (p ∷ []) top)) (x ∷ r) x.at k))
    (not_or x.kind (p ∷ []) h)

-- a surface of several
pub all_left : (places : Places) (p : Surface) (r : List Lexeme) → run places 0 (whole p top) r ≡ Ok (left_so false p, r)
all_left places p [] = refl
all_left places p (x ∷ r) = refl

abbrev read_as : Bool → Surface → ℕ → List Lexeme → Outcome Lexeme Left
read_as single p to ls = Ok (left_so single p, drop to ls)

abbrev IsPieceOf : Found → Bool → Piece → Type 0
IsPieceOf f single x = (x.pattern ≡ f.pattern) × (x.single ≡ single) × (x.size ≡ f.size) × (x.to ≡ f.to)

as_piece : (f : Found) (single : Bool) (x : Piece) (ls : List Lexeme) → IsPieceOf f single x → read_as single f.pattern f.to ls ≡ read_as x.single x.pattern x.to ls
as_piece f single x ls e =
    sym (ap (λ z. read_as z x.pattern x.to ls) e.1 ∙ ap (λ z. read_as single z x.to ls) e.0 ∙ ap (λ z. read_as single f.pattern z ls) e.3)

-- choices that were read
pub piece_choices : (places : Places) (f : Found) (x : Piece) (here there ls : List Lexeme) (s : State) → IsPieceOf f false x → run places 0 surface_start here ≡ run places 0 s there →
    run places 0 s there ≡ run places 0 (whole f.pattern top) (drop f.to ls) → run places 0 surface_start here ≡ Ok (left_so x.single x.pattern, drop x.to ls)
piece_choices places f x here there ls s e h g = h ∙ g ∙ all_left places f.pattern (drop f.to ls) ∙ as_piece f false x ls e

-- one choice
pub piece_one : (places : Places) (f : Found) (x : Piece) (here ls : List Lexeme) → IsPieceOf f true x → run places 0 surface_start here ≡ run places 0 (listed (f.pattern ∷ []) top) (drop f.to ls) → NoOr (drop f.to ls) →
    run places 0 surface_start here ≡ Ok (left_so x.single x.pattern, drop x.to ls)
piece_one places f x here ls e h n = h ∙ one_left places f.pattern (drop f.to ls) n ∙ as_piece f true x ls e

module _ (again : Option ℕ) (m : Before) (places : Places) (same : places.again ≡ again) (from end : ℕ) (before ls : List Lexeme) where
  abbrev Hosted : Type 0
  Hosted = hop_run again 0 (into m surface_start) (told (drop from ls)) ≡ (run places 0 surface_start (drop from before) >>= on again m (drop end ls))

  hosted : end ≡ from + before_end (is_behind m) false 0 (drop from ls) → before ≡ take end ls → places.behind ≡ place_or 0 (drop end ls) → Hosted
  hosted e b behind =
      let here = drop from ls in
      let n = before_end (is_behind m) false 0 here in
      let front : drop from before ≡ take n here = ap (drop from) (b ∙ ap (λ z. take z ls) e) ∙ drop-take from n ls in
      let rest : drop n here ≡ drop end ls = drop-drop n from ls ∙ ap (λ z. drop z ls) (sym e) in
      ap (λ z. hop_run again 0 (into m surface_start) (told z)) (sym (take-append-drop n here))
      ∙ host again m places same (take n here) (drop n here) surface_start tt (cut_is (is_behind m) false 0 here) (behind ∙ ap (place_or 0) (sym rest))
      ∙ ap (λ z. run places 0 surface_start z >>= on again m (drop n here)) (sym front)
      ∙ ap (λ z. run places 0 surface_start (drop from before) >>= on again m z) rest

  up_to_by : (q : Result Piece PatternFault) → Hosted → end ≤ length ls → before ≡ take end ls →
      GoesOn q (run places 0 surface_start (drop from before)) (λ x. Ok (left_so x.single x.pattern, drop x.to before)) → IfOk q (λ x. (from < x.to) × (x.to ≤ length before)) →
      GoesOn q (hop_run again 0 (into m surface_start) (told (drop from ls))) (λ x. on_behind again m x.single x.pattern (told (drop x.to ls)))
  up_to_by (Ok x) h within b g o =
      let long : length before ≡ end = ap length b ∙ length-take-le end ls within in
      let le : x.to ≤ end = omega (arith, o.1, long) in
      h ∙ ap (λ z. z >>= on again m (drop end ls)) g
      ∙ ap (λ z. on_behind again m x.single x.pattern (told z)) (ap (λ z. drop x.to z ++ drop end ls) b ∙ joined_again x.to end ls le)
  up_to_by (Err fault.NoMemory) h within b g o = tt
  up_to_by (Err (fault.Bad at k)) h within b g o = h ∙ ap (λ z. z >>= on again m (drop end ls)) g

  -- a surface that was read up to where it has to end
  pub up_to_goes : (narrow : Bool) (q : Result Piece PatternFault) → narrow ≡ is_behind m → end ≡ from + before_end narrow false 0 (drop from ls) → end ≤ length ls → before ≡ take end ls → places.behind ≡ place_or 0 (drop end ls) →
      GoesOn q (run places 0 surface_start (drop from before)) (λ x. Ok (left_so x.single x.pattern, drop x.to before)) → IfOk q (λ x. (from < x.to) × (x.to ≤ length before)) →
      GoesOn q (hop_run again 0 (into m surface_start) (told (drop from ls))) (λ x. on_behind again m x.single x.pattern (told (drop x.to ls)))
  up_to_goes narrow q mode e within b behind g o = up_to_by q (hosted (e ∙ ap (λ z. from + before_end z false 0 (drop from ls)) mode) b behind) within b g o

-- ## Sizes

parts_snoc : (l : List HopPart) (x : HopPart) → parts_size (l ++ x ∷ []) ≡ parts_size l + (path_size x.path + surface_size x.surface)
parts_snoc [] x = omega arith
parts_snoc (y ∷ l) x = let e = parts_snoc l x in omega (arith, e)

-- a hop of these parts
abbrev pub hop_with : Surface → List HopPart → Hop
hop_with s l = record { first = s; rest = l }

snoc_size : (s : Surface) (l : List HopPart) (x : HopPart) → hop_size (hop_with s (l ++ x ∷ [])) ≡ hop_size (hop_with s l) + (path_size x.path + surface_size x.surface)
snoc_size s l x = let e = parts_snoc l x in omega (arith, e)

-- one part more
pub hop_more : (s : Surface) (l : List HopPart) (x : HopPart) →
    counted (hop_size (hop_with s (l ++ x ∷ []))) ≡ counted (counted (hop_size (hop_with s l)) + counted (path_size x.path + surface_size x.surface))
hop_more s l x = ap counted (snoc_size s l x) ∙ sym (counted_sum (hop_size (hop_with s l)) (path_size x.path + surface_size x.surface))

none_more : (n : ℕ) → n ≡ n + 0
none_more n = omega arith

-- no part
pub hop_alone : (s : Surface) → counted (surface_size s) ≡ counted (hop_size (hop_with s []))
hop_alone s = ap counted (none_more (surface_size s))

-- ## Parts one after another

pub more_size : (s : Surface) (l after : List HopPart) (x : HopPart) (sum n all : ℕ) → all ≡ counted (sum + n) → sum ≡ counted (hop_size (hop_with s l)) → n ≡ counted (path_size x.path + surface_size x.surface) →
    after ≡ l ++ x ∷ [] → all ≡ counted (hop_size (hop_with s after))
more_size s l after x sum n all e f g h =
    e ∙ ap (λ z. counted (z + n)) f ∙ ap (λ z. counted (counted (hop_size (hop_with s l)) + z)) g ∙ sym (hop_more s l x) ∙ ap (λ (z : List HopPart). counted (hop_size (hop_with s z))) (sym h)

module _ (again : Option ℕ) (o : Outcome ToldLexeme Hop) (s : Surface) (l : List HopPart) (here : List Lexeme) (e : o ≡ hop_from again 0 (hop_with s l) (told here)) where
  pub more_goes : (after : List HopPart) (x : HopPart) (there : List Lexeme) → steps_come here ≡ true →
      hop_run again 0 (between (hop_with s l) begun) (told here) ≡ hop_from again 0 (joined (hop_with s l) x.path x.surface) (told there) → after ≡ l ++ x ∷ [] → o ≡ hop_from again 0 (hop_with s after) (told there)
  more_goes after x there c g h = e ∙ to_between again (hop_with s l) here c ∙ g ∙ ap (λ (z : List HopPart). hop_from again 0 (hop_with s z) (told there)) (sym h)

  abbrev whole_with : Surface → Outcome ToldLexeme Hop
  whole_with z = Ok (hop_with z l, told here)

  pub done_goes : (z : Surface) → z ≡ s → steps_come here ≡ false → o ≡ Ok (hop_with z l, told here)
  done_goes z h c = e ∙ no_steps again (hop_with s l) here c ∙ ap whole_with (sym h)

  pub to_joint : steps_come here ≡ true → o ≡ hop_run again 0 (between (hop_with s l) begun) (told here)
  to_joint c = e ∙ to_between again (hop_with s l) here c

abbrev hop_and : Hop → ℕ → List Lexeme → Outcome ToldLexeme Hop
hop_and h to ls = Ok (h, told (drop to ls))

-- a surface alone
pub alone_goes : (again : Option ℕ) (single : Bool) (s : Surface) (x : Joined) (ls : List Lexeme) (size to : ℕ) → (x.hop ≡ alone s) × (x.size ≡ size) × (x.to ≡ to) → single ≡ false →
    on_behind again None single s (told (drop to ls)) ≡ Ok (x.hop, told (drop x.to ls))
alone_goes again single s x ls size to h e =
    front_choices again (on_behind again None single s (told (drop to ls))) single s (told (drop to ls)) e refl
    ∙ sym (ap (λ z. hop_and z x.to ls) h.0 ∙ ap (λ z. hop_and (alone s) z ls) h.2)

-- ## Whole texts

abbrev none_measured : PatternFault → Result Measured PatternFault
none_measured f = Err f

abbrev read_so : Hop → List Lexeme → Outcome ToldLexeme Hop
read_so h r = Ok (h, told r)

two : (h : Hop) (r m : List Lexeme) (x : Lexeme) → drop 1 r ≡ x ∷ m → to_the_end told_apart (read_so h r) ≡ Err (place_or 0 r, kind.Expected)
two h [] m x e = absurd (cc)
two h (y ∷ []) m x e = absurd (cc)
two h (y ∷ z ∷ r) m x e = refl

one : (h : Hop) (r : List Lexeme) → drop 1 r ≡ [] → to_the_end told_apart (read_so h r) ≡ Ok h
one h [] e = refl
one h (y ∷ []) e = refl
one h (y ∷ z ∷ r) e = absurd (cc)

-- another lexeme stands behind the next one
pub not_ended : (o : Outcome ToldLexeme Hop) (h : Hop) (n : ℕ) (l m : List Lexeme) (x : Lexeme) → o ≡ Ok (h, told (drop n l)) → drop (n + 1) l ≡ x ∷ m →
    to_the_end told_apart o ≡ Err (place_or 0 (drop n l), kind.Expected)
not_ended o h n l m x e i = ap (to_the_end told_apart) e ∙ two h (drop n l) m x (drop-drop 1 n l ∙ i)

-- nothing stands behind the next one
pub all_read : (o : Outcome ToldLexeme Hop) (h : Hop) (n : ℕ) (l : List Lexeme) → o ≡ Ok (h, told (drop n l)) → drop (n + 1) l ≡ [] → to_the_end told_apart o ≡ Ok h
all_read o h n l e i = ap (to_the_end told_apart) e ∙ one h (drop n l) (drop-drop 1 n l ∙ i)

pub refused_so : (f g : PatternFault) (v : Verdict Hop) → f ≡ g → Tells (λ x. x.hop) (none_measured g) v → Tells (λ x. x.hop) (none_measured f) v
refused_so f g v e t = subst (λ (z : PatternFault). Tells (λ x. x.hop) (none_measured z) v) (sym e) t

-- what characters at a place are read as, by the parser's machine
verdict_is : (at : ℕ) (cs : List ℕ) (l items : List Lexeme) (f : Option (ℕ × Miss)) (again : Option ℕ) → lexed_from at cs ≡ (items, f) → l ≡ items → Marks again [] l →
    hop_at at cs ≡ before_stuck (stuck_at f) (to_the_end told_apart (hop_run again 0 hop_start (told l)))
verdict_is at cs l items f again e same m =
    ap (λ (z : Lexemes). before_stuck (stuck_at z.1) (to_the_end told_apart (go [] hop_start (told z.0)))) e
    ∙ ap (λ (z : List Lexeme). before_stuck (stuck_at f) (to_the_end told_apart (go [] hop_start (told z)))) (sym same)
    ∙ ap (λ o. before_stuck (stuck_at f) (to_the_end told_apart o)) (sym (same_run again l m))

-- the answer at a place
pub hop_tells : (at : ℕ) (cs : List ℕ) (l items : List Lexeme) (f : Option (ℕ × Miss)) (again : Option ℕ) (q answer : Result Measured PatternFault) →
    lexed_from at cs ≡ (items, f) → l ≡ items → Marks again [] l → q ≡ unless_stuck (stuck_at f) answer →
    Tells (λ x. x.hop) answer (to_the_end told_apart (hop_run again 0 hop_start (told l))) → Tells (λ x. x.hop) q (hop_at at cs)
hop_tells at cs l items f again q answer e same m is t =
    subst (λ (z : Result Measured PatternFault). Tells (λ x. x.hop) z (hop_at at cs)) (sym is)
    (tells_by (λ x. x.hop) (unless_stuck (stuck_at f) answer) (hop_at at cs) (before_stuck (stuck_at f) (to_the_end told_apart (hop_run again 0 hop_start (told l))))
    (verdict_is at cs l items f again e same m)
    (stuck_tells (λ x. x.hop) (stuck_at f) answer (to_the_end told_apart (hop_run again 0 hop_start (told l))) t))

-- the answer with its size
pub sized_tells : (q : Result Hop PatternFault) (m : Measured) (v : Verdict Hop) → v ≡ Ok m.hop → Tells (λ p. p) q (sized hop_size (Ok m.hop)) → Tells (λ p. p) q (sized hop_size v)
sized_tells q m v e t = tells_by (λ p. p) q (sized hop_size v) (sized hop_size (Ok m.hop)) (ap (sized hop_size) e) t

abbrev none_read : PatternFault → Result Hop PatternFault
none_read f = Err f

pub sized_fails : (f : PatternFault) (v : Verdict Hop) → Tells (λ x. x.hop) (none_measured f) v → Tells (λ p. p) (none_read f) (sized hop_size v)
sized_fails fault.NoMemory v t = tt
sized_fails (fault.Bad at k) v t = ap (sized hop_size) t

-- what a text has, which is read so
module _ (cs : List ℕ) (q : Result Hop PatternFault) (t : Tells (λ p. p) q (hop_of cs)) where
  pub hop_value : IfOk q (IsHopText cs)
  hop_value = tells_value (IsHopText cs) (IsHopTextFault cs) (hop_of cs) (hop_texts_are_computed cs) q t

  pub hop_fault : IfBad q (IsHopTextFault cs)
  hop_fault = tells_fault (IsHopText cs) (IsHopTextFault cs) (hop_of cs) (hop_texts_are_computed cs) q t

  pub hop_only_value : (p : Hop) → IsHopText cs p → GivesValue q p
  hop_only_value = tells_only_value (IsHopText cs) (IsHopTextFault cs) (hop_of cs) (hop_texts_are_computed cs) q t

  pub hop_only_fault : (at : ℕ) (k : PatternKind) → IsHopTextFault cs at k → Refuses q at k
  hop_only_fault = tells_only_fault (IsHopText cs) (IsHopTextFault cs) (hop_of cs) (hop_texts_are_computed cs) q t
