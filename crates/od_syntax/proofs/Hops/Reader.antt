-- Why a lexeme is not taken, where any body may be repeated; and the machine reads the grammar.
use Rattle.std.proofs.Common.{◌≡◌, ℕ, Bool, true, false, if◌then◌else◌, List, [], ◌∷◌, Option, Some, None, Result, Ok, Err, refl, sym, ◌∙◌, ap, inl, inr, ◌⊎◌}
use Rattle.od_pattern.specs.declared.path.Path.{Path}
use Rattle.od_pattern.specs.declared.rule.Hop.{Hop}
use Rattle.od_language.specs.declared.pattern_fault.PatternKind.{PatternKind}
use Rattle.od_language.specs.declared.pattern_fault.PatternKind.TheVariants as kind
use Rattle.od_language.specs.declared.lexeme.LexKind.{LexKind}
use Rattle.od_language.specs.declared.lexeme.LexKind.TheVariants.{Word, Equal, End}
use Rattle.od_language.specs.Alphabet.{plain}
use Rattle.od_language.specs.Machine.{◌>>=◌, steps, IsReader, Refusal}
use Rattle.od_syntax.specs.HopMachine.{State, first, between, behind, bars, to_steps, from_surface, to_surface, from_steps, atom_of, wide_step, one_step, ended, alone_if, joined_if}
use Rattle.od_syntax.specs.HopMachine as machine
use Rattle.od_syntax.specs.Hops.{Hops, rule_untold}
use Rattle.od_syntax.specs.Rules.{capture_or_own}
use Rattle.od_syntax.specs.Sizes.{may_always}
use Rattle.od_syntax.specs.StepsMachine as path
use Rattle.od_syntax.specs.SurfaceMachine as surface
use Rattle.od_syntax.specs.Told.{Told, lexeme, steps_open, told_apart, untold}
use Rattle.od_syntax.proofs.Hops.Complete.{hop_goes, never_bars}
use Rattle.od_syntax.proofs.Hops.Sound.{holds, word_of}
use Rattle.od_syntax.proofs.Hops.Closing.{begins_word}
use Rattle.od_syntax.proofs.Steps.Closing as path_closing
use Rattle.od_syntax.proofs.Surfaces.Reader as surface_reader

abbrev step : State → Told → Result State PatternKind
step = machine.step may_always

abbrev own_step : surface.State → LexKind → Result surface.State PatternKind
own_step = surface.step may_always

abbrev error : PatternKind → Result State PatternKind
error k = Err k

abbrev kind_or : PatternKind → Result State PatternKind → PatternKind
kind_or j (Ok t) = j
kind_or j (Err k) = k

same_error : (j k : PatternKind) → error j ≡ error k → j ≡ k
same_error j k e = ap (kind_or j) e

abbrev field_of : List ℕ → List Told
field_of other = lexeme (Word other) ∷ lexeme Equal ∷ []

abbrev NoWord : Told → Type 0
NoWord x = (name : List ℕ) → x ≡ lexeme (Word name) → ⊥

-- why a surface does not take a lexeme
abbrev OwnRefusal : surface.State → Told → PatternKind → Type 0
OwnRefusal q x k = ((k ≡ kind.Expected) × NoWord x) ⊎ ((y : LexKind) × (x ≡ lexeme y) × Refusal plain own_step q y k)

abbrev wide : surface.State → Told → Result surface.State PatternKind
wide = wide_step may_always

abbrev one : surface.State → Told → Result surface.State PatternKind
one = one_step may_always

abbrev surface_error : PatternKind → Result surface.State PatternKind
surface_error k = Err k

same_surface_error : (j k : PatternKind) → surface_error j ≡ surface_error k → j ≡ k
same_surface_error j k e = cc

wide_refusal : (q : surface.State) (x : Told) (k : PatternKind) → wide q x ≡ Err k → OwnRefusal q x k
wide_refusal q (lexeme y) k e = inr (y, refl, surface_reader.refusal q y k e)
wide_refusal q steps_open k e = inl (sym (same_surface_error kind.Expected k e), λ name w. absurd (cc))

one_refusal_by : (q : surface.State) (y : LexKind) (k : PatternKind) (b : Bool) → bars q y ≡ b → (if b then Err kind.Expected else own_step q y) ≡ surface_error k → OwnRefusal q (lexeme y) k
one_refusal_by q y k true b e =
    inl (sym (same_surface_error kind.Expected k e), λ name w. let n = never_bars (Word name) (λ k. refl) q in let m : y ≡ Word name = ap untold w in let o = sym (ap (bars q) m ∙ n) ∙ b in absurd (cc))
one_refusal_by q y k false b e = inr (y, refl, surface_reader.refusal q y k e)

one_refusal : (q : surface.State) (x : Told) (k : PatternKind) → one q x ≡ Err k → OwnRefusal q x k
one_refusal q (lexeme y) k e = one_refusal_by q y k (bars q y) refl e
one_refusal q steps_open k e = inl (sym (same_surface_error kind.Expected k e), λ name w. absurd (cc))

one_word : (q : surface.State) (t : List ℕ) → one q (lexeme (Word t)) ≡ own_step q (Word t)
one_word q t = ap (λ z. if z then Err kind.Expected else own_step q (Word t)) (never_bars (Word t) (λ k. refl) q)

one_equal : (q : surface.State) → one q (lexeme Equal) ≡ own_step q Equal
one_equal q = ap (λ z. if z then Err kind.Expected else own_step q Equal) (never_bars Equal (λ k. refl) q)

-- in a surface of a hop
module _ (within : surface.State → State) (own : surface.State → Told → Result surface.State PatternKind) (so_far : surface.State → Option Hop)
    (goes : (q : surface.State) (x : Told) → step (within q) x ≡ from_surface within (own q x) x (so_far q))
    (word : (q : surface.State) (t : List ℕ) → own q (lexeme (Word t)) ≡ own_step q (Word t))
    (equal : (q : surface.State) → own q (lexeme Equal) ≡ own_step q Equal)
    (refused : (q : surface.State) (x : Told) (k : PatternKind) → own q x ≡ Err k → OwnRefusal q x k) where
  on_word : (q : surface.State) (t : List ℕ) → step (within q) (lexeme (Word t)) ≡ from_surface within (own_step q (Word t)) (lexeme (Word t)) (so_far q)
  on_word q t = goes q (lexeme (Word t)) ∙ ap (λ z. from_surface within z (lexeme (Word t)) (so_far q)) (word q t)

  on_equal : (q : surface.State) → step (within q) (lexeme Equal) ≡ from_surface within (own_step q Equal) (lexeme Equal) (so_far q)
  on_equal q = goes q (lexeme Equal) ∙ ap (λ z. from_surface within z (lexeme Equal) (so_far q)) (equal q)

  abbrev surface_kind_or : PatternKind → Result surface.State PatternKind → PatternKind
  surface_kind_or j (Ok t) = j
  surface_kind_or j (Err k) = k

  equal_err : (o : Option Hop) (z : Result surface.State PatternKind) (i : PatternKind) → (z >>= λ u. Ok u) ≡ surface_error i → (from_surface within z (lexeme Equal) o >>= λ u. Ok u) ≡ error i
  equal_err o (Ok u) i e = absurd (cc)
  equal_err o (Err k) i e = ap error (same_surface_error k i e)

  equal_ok : (o : Option Hop) (z : Result surface.State PatternKind) (t : surface.State) → (z >>= λ u. Ok u) ≡ Ok t → (v : State) × ((from_surface within z (lexeme Equal) o >>= λ u. Ok u) ≡ Ok v)
  equal_ok o (Ok u) t e = (within u, refl)
  equal_ok o (Err k) t e = absurd (cc)

  word_err : (o : Option Hop) (other : List ℕ) (z : Result surface.State PatternKind) (i : PatternKind) → (z >>= λ u. steps own_step u (Equal ∷ [])) ≡ surface_error i →
      (from_surface within z (lexeme (Word other)) o >>= λ u. steps step u (lexeme Equal ∷ [])) ≡ error i
  word_err o other (Ok u) i e = ap (λ z. z >>= λ v. Ok v) (on_equal u) ∙ equal_err (so_far u) (own_step u Equal) i e
  word_err o other (Err k) i e = ap error (same_surface_error k i e)

  word_ok : (o : Option Hop) (other : List ℕ) (z : Result surface.State PatternKind) (t : surface.State) → (z >>= λ u. steps own_step u (Equal ∷ [])) ≡ Ok t →
      (v : State) × ((from_surface within z (lexeme (Word other)) o >>= λ u. steps step u (lexeme Equal ∷ [])) ≡ Ok v)
  word_ok o other (Ok u) t e = let r = equal_ok (so_far u) (own_step u Equal) t e in (r.0, ap (λ z. z >>= λ v. Ok v) (on_equal u) ∙ r.1)
  word_ok o other (Err k) t e = absurd (cc)

  field_err : (q : surface.State) (other : List ℕ) (i : PatternKind) → steps own_step q (Word other ∷ Equal ∷ []) ≡ Err i → steps step (within q) (field_of other) ≡ error i
  field_err q other i e = ap (λ z. z >>= λ v. steps step v (lexeme Equal ∷ [])) (on_word q other) ∙ word_err (so_far q) other (own_step q (Word other)) i e

  field_ok : (q : surface.State) (other : List ℕ) (t : surface.State) → steps own_step q (Word other ∷ Equal ∷ []) ≡ Ok t → (v : State) × (steps step (within q) (field_of other) ≡ Ok v)
  field_ok q other t e =
      let r = word_ok (so_far q) other (own_step q (Word other)) t e in (r.0, ap (λ z. z >>= λ v. steps step v (lexeme Equal ∷ [])) (on_word q other) ∙ r.1)

  to_steps_kind : (a : Result path.State PatternKind) (o : Option Hop) (k j : PatternKind) → to_steps a o k ≡ error j → k ≡ j
  to_steps_kind (Ok t) (Some h) k j e = absurd (cc)
  to_steps_kind (Ok t) None k j e = same_error k j e
  to_steps_kind (Err i) o k j e = same_error k j e

  refusal_of : (q : surface.State) (x : Told) (k j : PatternKind) → k ≡ j → OwnRefusal q x k → Refusal told_apart step (within q) x j
  refusal_of q x k j e (inl (is, n)) = inl (sym e ∙ is, λ name other w. absurd (n name w))
  refusal_of q x k j e (inr (y, here, inl (is, n))) =
      inl (sym e ∙ is, λ name other w. let i = n name other (ap untold (sym here ∙ w)) in (i.0, field_err q other i.0 i.1))
  refusal_of q x k j e (inr (y, here, inr (name, other, t, w, is, o))) =
      let v = field_ok q other t o in inr (name, other, v.0, here ∙ ap lexeme w, sym e ∙ is, v.1)

  refusal_by : (q : surface.State) (x : Told) (j : PatternKind) (z : Result surface.State PatternKind) → own q x ≡ z → from_surface within z x (so_far q) ≡ error j →
      Refusal told_apart step (within q) x j
  refusal_by q x j (Ok t) h e = absurd (cc)
  refusal_by q x j (Err k) h e = refusal_of q x k j (to_steps_kind (path.opened [] x) (so_far q) k j e) (refused q x k h)

  refusal_within : (q : surface.State) (x : Told) (j : PatternKind) → step (within q) x ≡ Err j → Refusal told_apart step (within q) x j
  refusal_within q x j e = refusal_by q x j (own q x) refl (sym (goes q x) ∙ e)

-- in steps of a hop
abbrev path_error : PatternKind → Result path.State PatternKind
path_error k = Err k

same_path_error : (j k : PatternKind) → path_error j ≡ path_error k → j ≡ k
same_path_error j k e = cc

leaves_equal : (h : Hop) (k : PatternKind) (o : Option Path) → from_steps h (Err k) (lexeme Equal) o ≡ error k
leaves_equal h k None = refl
leaves_equal h k (Some p) = refl

leaves_end : (h : Hop) (k : PatternKind) (o : Option Path) → from_steps h (Err k) (lexeme End) o ≡ error k
leaves_end h k None = refl
leaves_end h k (Some p) = refl

steps_equal_err : (h : Hop) (o : Option Path) (z : Result path.State PatternKind) (i : PatternKind) → (z >>= λ u. Ok u) ≡ path_error i →
    (from_steps h z (lexeme Equal) o >>= λ u. Ok u) ≡ error i
steps_equal_err h o (Ok u) i e = absurd (cc)
steps_equal_err h o (Err k) i e = ap (λ z. z >>= λ u. Ok u) (leaves_equal h k o) ∙ ap error (same_path_error k i e)

steps_equal_ok : (h : Hop) (o : Option Path) (z : Result path.State PatternKind) (t : path.State) → (z >>= λ u. Ok u) ≡ Ok t →
    (v : State) × ((from_steps h z (lexeme Equal) o >>= λ u. Ok u) ≡ Ok v)
steps_equal_ok h o (Ok u) t e = (between h u, refl)
steps_equal_ok h o (Err k) t e = absurd (cc)

steps_word_err : (h : Hop) (other : List ℕ) (z : Result path.State PatternKind) (i : PatternKind) → (z >>= λ u. steps path.step u (lexeme Equal ∷ [])) ≡ path_error i →
    (from_steps h z (lexeme (Word other)) None >>= λ u. steps step u (lexeme Equal ∷ [])) ≡ error i
steps_word_err h other (Ok u) i e = steps_equal_err h (path.ended u) (path.step u (lexeme Equal)) i e
steps_word_err h other (Err k) i e = ap error (same_path_error k i e)

steps_word_ok : (h : Hop) (other : List ℕ) (z : Result path.State PatternKind) (t : path.State) → (z >>= λ u. steps path.step u (lexeme Equal ∷ [])) ≡ Ok t →
    (v : State) × ((from_steps h z (lexeme (Word other)) None >>= λ u. steps step u (lexeme Equal ∷ [])) ≡ Ok v)
steps_word_ok h other (Ok u) t e = steps_equal_ok h (path.ended u) (path.step u (lexeme Equal)) t e
steps_word_ok h other (Err k) t e = absurd (cc)

-- where the steps may not end
refusal_open : (h : Hop) (q : path.State) (x : Told) (k j : PatternKind) → k ≡ j → path.ended q ≡ None → Refusal told_apart path.step q x k → Refusal told_apart step (between h q) x j
refusal_open h q x k j e o (inl (is, n)) =
    inl (
      sym e ∙ is,
      λ name other w. let i = n name other w in (
        i.0,
        ap (λ z. from_steps h (path.step q (lexeme (Word other))) (lexeme (Word other)) z >>= λ u. steps step u (lexeme Equal ∷ [])) o
            ∙ steps_word_err h other (path.step q (lexeme (Word other))) i.0 i.1,
      ),
    )
refusal_open h q x k j e o (inr (name, other, t, w, is, f)) =
    let v = steps_word_ok h other (path.step q (lexeme (Word other))) t f in
    inr (
      name,
      other,
      v.0,
      w,
      sym e ∙ is,
      ap (λ z. from_steps h (path.step q (lexeme (Word other))) (lexeme (Word other)) z >>= λ u. steps step u (lexeme Equal ∷ [])) o ∙ v.1,
    )

-- where a surface may follow, every word is taken
refusal_done : (h : Hop) (q : path.State) (x : Told) (k j : PatternKind) → k ≡ j → NoWord x → Refusal told_apart path.step q x k → Refusal told_apart step (between h q) x j
refusal_done h q x k j e n (inl (is, f)) = inl (sym e ∙ is, λ name other w. absurd (n name w))
refusal_done h q x k j e n (inr (name, other, t, w, is, f)) = absurd (n name w)

no_word_at : (x : Told) (k : PatternKind) → atom_of x ≡ Err k → NoWord x
no_word_at x k e name w = let f : atom_of (lexeme (Word name)) ≡ Err k = sym (ap atom_of w) ∙ e in absurd (cc)

refusal_atom : (h : Hop) (q : path.State) (p : Path) (x : Told) (k j : PatternKind) (z : Result surface.State PatternKind) → path.step q x ≡ Err k → atom_of x ≡ z →
    to_surface h p z k ≡ error j → Refusal told_apart step (between h q) x j
refusal_atom h q p x k j (Ok t) s a e = absurd (cc)
refusal_atom h q p x k j (Err i) s a e = refusal_done h q x k j (same_error k j e) (no_word_at x i a) (path_closing.refusal q x k s)

refusal_ended : (h : Hop) (q : path.State) (x : Told) (k j : PatternKind) (o : Option Path) → path.step q x ≡ Err k → path.ended q ≡ o → from_steps h (Err k) x o ≡ error j →
    Refusal told_apart step (between h q) x j
refusal_ended h q x k j None s o e = refusal_open h q x k j (same_error k j e) o (path_closing.refusal q x k s)
refusal_ended h q x k j (Some p) s o e = refusal_atom h q p x k j (atom_of x) s refl e

refusal_between : (h : Hop) (q : path.State) (x : Told) (j : PatternKind) (z : Result path.State PatternKind) → path.step q x ≡ z → from_steps h z x (path.ended q) ≡ error j →
    Refusal told_apart step (between h q) x j
refusal_between h q x j (Ok t) s e = absurd (cc)
refusal_between h q x j (Err k) s e = refusal_ended h q x k j (path.ended q) s refl e

refusal : (s : State) (x : Told) (j : PatternKind) → step s x ≡ Err j → Refusal told_apart step s x j
refusal (first q) x j e =
    refusal_within first wide (λ q. alone_if (surface.joins q)) (λ q x. refl) (λ q t. refl) (λ q. refl) wide_refusal q x j e
refusal (between h q) x j e = refusal_between h q x j (path.step q x) refl e
refusal (behind h p q) x j e =
    refusal_within (behind h p) one (λ q. joined_if h p (surface.joins q)) (λ q x. refl) one_word one_equal one_refusal q x j e

at_end : (s : State) → step s (lexeme End) ≡ error kind.Expected
at_end (first q) = ap (λ z. from_surface first z (lexeme End) (alone_if (surface.joins q))) (surface_reader.at_end q)
at_end (between h q) = ap (λ z. from_steps h z (lexeme End) (path.ended q)) (path_closing.at_end q) ∙ leaves_end h kind.Expected (path.ended q)
at_end (behind h p q) =
    ap (λ z. from_surface (behind h p) (if z then Err kind.Expected else own_step q End) (lexeme End) (joined_if h p (surface.joins q))) (never_bars End (λ k. refl) q)
    ∙ ap (λ z. from_surface (behind h p) z (lexeme End) (joined_if h p (surface.joins q))) (surface_reader.at_end q)

not_end : (s t : State) → step s (lexeme End) ≡ Ok t → ⊥
not_end s t e = let n : step s (lexeme End) ≡ Err kind.Expected = at_end s in absurd (cc)

-- the rules of single lexemes
abbrev pub LexemeRules : List Told → Told → PatternKind → Type 0
LexemeRules f x k = rule_untold capture_or_own f x ≡ Some k

abbrev pub start : State
start = first (surface.atom [] [] surface.top)

pub reader : IsReader told_apart (Hops may_always) LexemeRules start step (rule_untold capture_or_own) ended
reader = record {
  word = hop_goes may_always;
  means = λ f s h i e. word_of may_always f s h (holds may_always f s i) e;
  begins = begins_word may_always;
  breaks = λ f s x k h b. b;
  broken = λ f s x k h b. b;
  refusal = refusal;
  no_end = not_end;
}
