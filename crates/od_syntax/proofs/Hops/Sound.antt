-- What takes the machine to its end is a word of the grammar.
use Rattle.std.proofs.Common.{◌≡◌, ℕ, Bool, true, false, if◌then◌else◌, List, [], ◌∷◌, ◌++◌, Option, Some, None, Result, Ok, Err, refl, sym, ◌∙◌, ap, subst, append_assoc, append-nil}
use Rattle.od_pattern.specs.declared.pattern.Surface.{Surface}
use Rattle.od_pattern.specs.declared.path.Path.{Path}
use Rattle.od_pattern.specs.declared.rule.HopPart.{HopPart}
use Rattle.od_pattern.specs.declared.rule.Hop.{Hop}
use Rattle.od_language.specs.declared.pattern_fault.PatternKind.{PatternKind}
use Rattle.od_language.specs.declared.pattern_fault.PatternKind.TheVariants as kind
use Rattle.od_language.specs.declared.lexeme.LexKind.{LexKind}
use Rattle.od_language.specs.Machine.{◌>>=◌, steps}
use Rattle.od_language.proofs.Machine.{steps_one}
use Rattle.od_syntax.specs.HopMachine.{State, first, between, behind, alone, joined, bars, to_steps, from_surface, to_surface, from_steps, atom_of, wide_step, one_step, step, ended, alone_if, joined_if}
use Rattle.od_syntax.specs.Hops.{Steps, Concat, all, HopParts, last, more, Hops}
use Rattle.od_syntax.specs.Hops as hops
use Rattle.od_syntax.specs.StepsMachine as path
use Rattle.od_syntax.specs.SurfaceMachine as surface
use Rattle.od_syntax.specs.Told.{Told, lexeme, steps_open, as_told}
use Rattle.od_syntax.proofs.Hops.Complete.{cut_steps}
use Rattle.od_syntax.proofs.Steps.Sound as path_sound
use Rattle.od_syntax.proofs.Surfaces.Single.{is_single, IsSingleBy, by_step}
use Rattle.od_syntax.proofs.Surfaces.Sound as surface_sound

as_told_more : (v : List LexKind) (x : LexKind) → as_told (v ++ x ∷ []) ≡ as_told v ++ lexeme x ∷ []
as_told_more [] x = refl
as_told_more (y ∷ v) x = ap (λ z. lexeme y ∷ z) (as_told_more v x)

abbrev some_hop : Hop → Option Hop
some_hop h = Some h

same_hop : (g h : Hop) → some_hop g ≡ some_hop h → g ≡ h
same_hop g h e = cc

-- steps, whatever follows
any_steps : (v : List Told) (p : Path) (m : List Told) → Steps v p [] → Steps (v ++ m) p m
any_steps v p m u = let c = cut_steps v p [] u in subst (λ (z : List Told). Steps (z ++ m) p m) (sym (c.1 ∙ append-nil c.0)) (c.2 m)

module _ (may : Surface → Option ℕ → Bool) where
  abbrev start : surface.State
  start = surface.atom [] [] surface.top

  abbrev with_parts : Hop → List HopPart → Hop
  with_parts h parts = record { first = h.first; rest = h.rest ++ parts }

  -- n is a hop behind which parts may come
  abbrev pub Front : List Told → Hop → Type 0
  Front n h = (parts : List HopPart) (l : List Told) → HopParts may l parts [] → Hops may (n ++ l) (with_parts h parts) []

  -- what was read
  abbrev pub Holds : List Told → State → Type 0
  Holds w (first q) = (v : List LexKind) × (w ≡ as_told v) × (steps (surface.step may) start v ≡ Ok q)
  Holds w (between h q) = (n v : List Told) × (w ≡ n ++ v) × Front n h × (steps path.step path.begun v ≡ Ok q)
  Holds w (behind h p q) = (n v : List Told) × (u : List LexKind) × (w ≡ n ++ (v ++ as_told u)) × Front n h × Steps v p [] ×
      (steps (surface.step may) start u ≡ Ok q) × (is_single q ≡ true)

  abbrev Good : List Told → Result State PatternKind → Type 0
  Good w (Ok t) = Holds w t
  Good w (Err k) = Unit {0}

  -- a surface without choices
  concat : (u : List LexKind) (q : surface.State) (r : Surface) (l : List Told) → steps (surface.step may) start u ≡ Ok q → surface.joins q ≡ Some r → Concat may (as_told u ++ l) r l
  concat u q r l e j =
      let c = surface_sound.choice_of may u q r (surface_sound.holds may u q e) j in
      subst (λ (z : Surface). Concat may (as_told u ++ l) z l) (sym c.1) (all u c.0 l c.2)

  front_first : (v : List LexKind) (q : surface.State) (r : Surface) → steps (surface.step may) start v ≡ Ok q → surface.joins q ≡ Some r → Front (as_told v) (alone r)
  front_first v q r e j parts l k = hops.joined (as_told v ++ l) r l parts [] (concat v q r l e j) k

  front_behind : (n v : List Told) (u : List LexKind) (h : Hop) (p : Path) (q : surface.State) (r : Surface) → Front n h → Steps v p [] →
      steps (surface.step may) start u ≡ Ok q → surface.joins q ≡ Some r → Front (n ++ (v ++ as_told u)) (joined h p r)
  front_behind n v u h p q r f i e j parts l k =
      let m = as_told u ++ l in
      let whole = f (record { path = p; surface = r } ∷ parts) (v ++ m) (more (v ++ m) p m r l parts [] (any_steps v p m i) (concat u q r l e j) k) in
      let words = append_assoc n (v ++ as_told u) l ∙ ap (λ z. n ++ z) (append_assoc v (as_told u) l) in
      subst (λ (z : List Told). Hops may z (with_parts (joined h p r) parts) []) (sym words)
      (subst (λ (z : List HopPart). Hops may (n ++ (v ++ m)) (record { first = h.first; rest = z }) []) (sym (append_assoc h.rest (record { path = p; surface = r } ∷ []) parts)) whole)

  -- from a hop to steps
  good_to_steps : (w : List Told) (x : Told) (h : Hop) (k : PatternKind) (z : Result path.State PatternKind) → path.opened [] x ≡ z → Front w h →
      Good (w ++ x ∷ []) (to_steps z (Some h) k)
  good_to_steps w x h k (Ok t) e f = (w, x ∷ [], refl, f, ap (λ z. z >>= λ u. Ok u) e)
  good_to_steps w x h k (Err j) e f = tt

  no_hop : (w : List Told) (x : Told) (k : PatternKind) (z : Result path.State PatternKind) → Good (w ++ x ∷ []) (to_steps z None k)
  no_hop w x k (Ok t) = tt
  no_hop w x k (Err j) = tt

  good_alone : (w : List Told) (x : Told) (v : List LexKind) (q : surface.State) (k : PatternKind) (o : Option Surface) → w ≡ as_told v → steps (surface.step may) start v ≡ Ok q →
      surface.joins q ≡ o → Good (w ++ x ∷ []) (to_steps (path.opened [] x) (alone_if o) k)
  good_alone w x v q k None i e j = no_hop w x k (path.opened [] x)
  good_alone w x v q k (Some r) i e j =
      good_to_steps w x (alone r) k (path.opened [] x) refl (subst (λ (z : List Told). Front z (alone r)) (sym i) (front_first v q r e j))

  good_first : (w : List Told) (q : surface.State) (x : Told) (z : Result surface.State PatternKind) → Holds w (first q) → wide_step may q x ≡ z →
      Good (w ++ x ∷ []) (from_surface first z x (alone_if (surface.joins q)))
  good_first w q (lexeme y) (Ok t) (v, i, e) h = (
    v ++ y ∷ [],
    ap (λ z. z ++ lexeme y ∷ []) i ∙ sym (as_told_more v y),
    steps_one (surface.step may) v start q y (Ok t) e h,
  )
  good_first w q steps_open (Ok t) k h = absurd (cc)
  good_first w q x (Err k) (v, i, e) h = good_alone w x v q k (surface.joins q) i e refl

  is_single_by : (b : Bool) (t : surface.State) (z : Result surface.State PatternKind) → IsSingleBy b z → z ≡ Ok t → is_single t ≡ b
  is_single_by b t z i e = subst (IsSingleBy b) e i

  -- from steps to a surface
  good_to_surface : (w : List Told) (h : Hop) (q : path.State) (p : Path) (x : Told) (k : PatternKind) (z : Result surface.State PatternKind) → Holds w (between h q) →
      path.ended q ≡ Some p → atom_of x ≡ z → Good (w ++ x ∷ []) (to_surface h p z k)
  good_to_surface w h q p (lexeme y) k (Ok t) (n, v, i, f, e) j a = (
    n,
    v,
    y ∷ [],
    ap (λ z. z ++ lexeme y ∷ []) i ∙ append_assoc n v (lexeme y ∷ []),
    f,
    path_sound.word_of v q p (path_sound.holds v q e) j,
    ap (λ z. z >>= λ u. Ok u) a,
    is_single_by true t (surface.step may start y) (by_step may start y) a,
  )
  good_to_surface w h q p steps_open k (Ok t) r j a = absurd (cc)
  good_to_surface w h q p x k (Err b) r j a = tt

  good_leaving : (w : List Told) (h : Hop) (q : path.State) (x : Told) (k : PatternKind) (o : Option Path) → Holds w (between h q) → path.ended q ≡ o → Good (w ++ x ∷ []) (from_steps h (Err k) x o)
  good_leaving w h q x k None r e = tt
  good_leaving w h q x k (Some p) r e = good_to_surface w h q p x k (atom_of x) r e refl

  good_between : (w : List Told) (h : Hop) (q : path.State) (x : Told) (z : Result path.State PatternKind) → Holds w (between h q) → path.step q x ≡ z →
      Good (w ++ x ∷ []) (from_steps h z x (path.ended q))
  good_between w h q x (Ok t) (n, v, i, f, e) s =
      (n, v ++ x ∷ [], ap (λ z. z ++ x ∷ []) i ∙ append_assoc n v (x ∷ []), f, steps_one path.step v path.begun q x (Ok t) e s)
  good_between w h q x (Err k) r s = good_leaving w h q x k (path.ended q) r refl

  -- in a surface behind steps
  good_joined : (w : List Told) (x : Told) (h : Hop) (p : Path) (q : surface.State) (k : PatternKind) (o : Option Surface) → Holds w (behind h p q) → surface.joins q ≡ o →
      Good (w ++ x ∷ []) (to_steps (path.opened [] x) (joined_if h p o) k)
  good_joined w x h p q k None r j = no_hop w x k (path.opened [] x)
  good_joined w x h p q k (Some s) (n, v, u, i, f, a, e, b) j =
      good_to_steps w x (joined h p s) k (path.opened [] x) refl (subst (λ (z : List Told). Front z (joined h p s)) (sym i) (front_behind n v u h p q s f a e j))

  not_barred : (bar : Bool) (z : Result surface.State PatternKind) (t : surface.State) → (if bar then Err kind.Expected else z) ≡ Ok t → (bar ≡ false) × (z ≡ Ok t)
  not_barred true z t e = absurd (cc)
  not_barred false z t e = (refl, e)

  still_single : (q t : surface.State) (y : LexKind) → is_single q ≡ true → bars q y ≡ false → surface.step may q y ≡ Ok t → is_single t ≡ true
  still_single q t y s b e =
      is_single_by (if bars q y then false else is_single q) t (surface.step may q y) (by_step may q y) e
      ∙ ap (λ z. if z then false else is_single q) b ∙ s

  good_behind : (w : List Told) (h : Hop) (p : Path) (q : surface.State) (x : Told) (z : Result surface.State PatternKind) → Holds w (behind h p q) → one_step may q x ≡ z →
      Good (w ++ x ∷ []) (from_surface (behind h p) z x (joined_if h p (surface.joins q)))
  good_behind w h p q (lexeme y) (Ok t) (n, v, u, i, f, a, e, s) j =
      let b = not_barred (bars q y) (surface.step may q y) t j in (
        n,
        v,
        u ++ y ∷ [],
        ap (λ z. z ++ lexeme y ∷ []) i ∙ append_assoc n (v ++ as_told u) (lexeme y ∷ [])
            ∙ ap (λ z. n ++ z) (append_assoc v (as_told u) (lexeme y ∷ []) ∙ ap (λ z. v ++ z) (sym (as_told_more u y))),
        f,
        a,
        steps_one (surface.step may) u start q y (Ok t) e b.1,
        still_single q t y s b.0 b.1,
      )
  good_behind w h p q steps_open (Ok t) r j = absurd (cc)
  good_behind w h p q x (Err k) r j = good_joined w x h p q k (surface.joins q) r refl

  good : (w : List Told) (s : State) (x : Told) → Holds w s → Good (w ++ x ∷ []) (step may s x)
  good w (first q) x h = good_first w q x (wide_step may q x) h refl
  good w (between h q) x r = good_between w h q x (path.step q x) r refl
  good w (behind h p q) x r = good_behind w h p q x (one_step may q x) r refl

  good_then : (w l : List Told) (q : Result State PatternKind) (t : State) → Good w q → ((s : State) → Holds w s → steps (step may) s l ≡ Ok t → Holds (w ++ l) t) →
      (q >>= λ s. steps (step may) s l) ≡ Ok t → Holds (w ++ l) t
  good_then w l (Ok s) t h f e = f s h e
  good_then w l (Err k) t h f e = absurd (cc)

  abbrev taken : State → Result State PatternKind
  taken s = Ok s

  same_state : (s t : State) → taken s ≡ taken t → s ≡ t
  same_state s t e = cc

  stays_good : (w l : List Told) (s t : State) → Holds w s → steps (step may) s l ≡ Ok t → Holds (w ++ l) t
  stays_good w [] s t h e = subst (λ (z : List Told). Holds z t) (sym (append-nil w)) (subst (Holds w) (same_state s t e) h)
  stays_good w (x ∷ l) s t h e =
      subst (λ (z : List Told). Holds z t) (append_assoc w (x ∷ []) l)
      (good_then (w ++ x ∷ []) l (step may s x) t (good w s x h) (λ z. stays_good (w ++ x ∷ []) l z t) e)

  pub holds : (w : List Told) (t : State) → steps (step may) (first start) w ≡ Ok t → Holds w t
  holds w t e = stays_good [] w (first start) t ([], refl, refl) e

  word_alone : (w : List Told) (v : List LexKind) (q : surface.State) (h : Hop) (o : Option Surface) → w ≡ as_told v → steps (surface.step may) start v ≡ Ok q →
      surface.ended q ≡ o → alone_if o ≡ Some h → Hops may w h []
  word_alone w v q h None i e j r = absurd (cc)
  word_alone w v q h (Some s) i e j r =
      let u = surface_sound.word_of may v q s (surface_sound.holds may v q e) j in
      subst (λ (z : Hop). Hops may w z []) (same_hop (alone s) h r)
      (subst (λ (z : List Told). Hops may z (alone s) []) (append-nil (as_told v) ∙ sym i) (hops.alone v s [] u))

  word_joined : (w : List Told) (h : Hop) (p : Path) (q : surface.State) (g : Hop) (o : Option Surface) → Holds w (behind h p q) → surface.joins q ≡ o → joined_if h p o ≡ Some g →
      Hops may w g []
  word_joined w h p q g None r j e = absurd (cc)
  word_joined w h p q g (Some s) (n, v, u, i, f, a, t, b) j e =
      let m = as_told u ++ [] in
      let k : HopParts may (v ++ m) (record { path = p; surface = s } ∷ []) [] = last (v ++ m) p m s [] (any_steps v p m a) (concat u q s [] t j) in
      subst (λ (z : Hop). Hops may w z []) (same_hop (joined h p s) g e)
      (subst (λ (z : List Told). Hops may z (joined h p s) []) (ap (λ z. n ++ (v ++ z)) (append-nil (as_told u)) ∙ sym i) (f (record { path = p; surface = s } ∷ []) (v ++ m) k))

  pub word_of : (w : List Told) (t : State) (h : Hop) → Holds w t → ended t ≡ Some h → Hops may w h []
  word_of w (first q) h (v, i, e) r = word_alone w v q h (surface.ended q) i e refl r
  word_of w (between g q) h k r = absurd (cc)
  word_of w (behind g p q) h k r = word_joined w g p q h (surface.joins q) k refl r
