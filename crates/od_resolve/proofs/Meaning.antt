-- What resolved needs mean.
use Rattle.std.proofs.Common.{◌≡◌, ℕ, zero, suc, ◌+◌, Bool, true, false, List, [], ◌∷◌, ◌++◌, length, take, refl, sym, ap, ap₂, ◌∙◌, subst, arith, ◌<◌, get_or}
use Rattle.std.specs.Prelude.{◌&&◌, ◌||◌, Option, Some, None, slice_get}
use Rattle.std.specs.List.{list_any, list_all, flat_map}
use mathlib.Core.Former.{Count}
use Rattle.od_text.specs.Lists.{Each}
use Rattle.od_text.proofs.Lists.{Each-left, Each-right}
use Rattle.od_document.specs.declared.sentence.Sentence.{Sentence}
use Rattle.od_extraction.specs.declared.mention.Labelled.{Labelled}
use Rattle.od_index.specs.Terms.{Term}
use Rattle.od_need.proofs.Incoming.{label-comes-in}
use Rattle.od_need.specs.Occurs.{occurs, all_occur, some_occurs, some_label}
use Rattle.od_need.specs.declared.need.Need as need
use Rattle.od_need.specs.declared.need.Need.{Need, Row_of-Need, end_of-Need, more_of-Need, items-the_row-Need, items_hidden-the_row-Need-0}
use Rattle.od_pattern.specs.declared.pattern.Field.{Field}
use Rattle.od_pattern.specs.declared.pattern.Field.TheVariants.{Incoming}
use Rattle.od_pattern.specs.declared.pattern.Value.{Value}
use Rattle.od_pattern.specs.declared.pattern.Value.TheVariants.{Plain, Regex}
use Rattle.od_constraint.specs.Fitting.{AreFitting}
use Rattle.od_constraint.specs.Runners.{HaveAll}
use Rattle.od_plan.proofs.Built.{and-true, or-false, and-assoc, or-assoc, wanted-everywhere, wanted-nowhere, wanted-label}
use Rattle.od_resolve.proofs.Leaves.{fitting-stand}
use Rattle.od_need.specs.Expressions.{expressions_needed, expressions_of_needs}
use Rattle.od_plan.specs.Means.{stands_in, Means, MeansAll, MeansAny, PartsMeanAll, PartsMeanAny, AreOneOf}
use Rattle.od_plan.specs.Wanted.{wanted}
use Rattle.od_plan.specs.declared.wanted.Wanted as want
use Rattle.od_plan.specs.declared.wanted.Wanted.{Wanted}

-- ## Needs that are built from their parts

abbrev row_of : Need → (n : Count) × Row_of-Need n
row_of (need.And' _ row) = (_, row)
row_of _ = (_, end_of-Need)

module _ (s : Sentence) (m : List Labelled) where
  all-row : (n : _) (row : Row_of-Need n) → all_occur s m row ≡ list_all (occurs s m) (items-the_row-Need n row)
  unfolding all_occur
  all-row n end_of-Need = refl
  all-row n (more_of-Need x rest) = ap (λ b. occurs s m x && b) (all-row _ rest)

  occurs-and : (ns : List Need) → occurs s m (need.And ns) ≡ list_all (occurs s m) ns
  unfolding occurs
  occurs-and ns = let row = row_of (need.And ns) in all-row row.0 row.1 ∙ ap (list_all (occurs s m)) (items_hidden-the_row-Need-0 ns)

  some-row : (n : _) (row : Row_of-Need n) → some_occurs s m row ≡ list_any (occurs s m) (items-the_row-Need n row)
  unfolding some_occurs
  some-row n end_of-Need = refl
  some-row n (more_of-Need x rest) = ap (λ b. occurs s m x || b) (some-row _ rest)

  occurs-or : (ns : List Need) → occurs s m (need.Or ns) ≡ list_any (occurs s m) ns
  unfolding occurs
  occurs-or ns = let row = row_of (need.And ns) in some-row row.0 row.1 ∙ ap (list_any (occurs s m)) (items_hidden-the_row-Need-0 ns)

expressions-row : (n : _) (row : Row_of-Need n) → expressions_of_needs row ≡ flat_map expressions_needed (items-the_row-Need n row)
unfolding expressions_of_needs
expressions-row n end_of-Need = refl
expressions-row n (more_of-Need x rest) = ap (λ es. expressions_needed x ++ es) (expressions-row _ rest)

pub expressions-and : (ns : List Need) → expressions_needed (need.And ns) ≡ flat_map expressions_needed ns
unfolding expressions_needed
expressions-and ns = let row = row_of (need.And ns) in expressions-row row.0 row.1 ∙ ap (flat_map expressions_needed) (items_hidden-the_row-Need-0 ns)

pub expressions-or : (ns : List Need) → expressions_needed (need.Or ns) ≡ flat_map expressions_needed ns
unfolding expressions_needed
expressions-or ns = let row = row_of (need.And ns) in expressions-row row.0 row.1 ∙ ap (flat_map expressions_needed) (items_hidden-the_row-Need-0 ns)

pub expressions-regex : (field : Field) (e : List ℕ) → expressions_needed (need.Regex field e) ≡ e ∷ []
unfolding expressions_needed
expressions-regex field e = refl

pub expressions-edge : (v : Value) → expressions_needed (need.Edge v) ≡ Rattle.od_asked.specs.Expressions.expression_of v
unfolding expressions_needed
expressions-edge v = refl

-- ## Leaves

pub means-true : (table : List Term) → Means table need.True want.Everywhere
unfolding occurs
means-true table s labels has = wanted-everywhere _ _

pub means-term : (table : List Term) (field : Field) (text : List ℕ) (ns : List ℕ) (w : Wanted) → AreFitting table field (Plain text) ns → AreOneOf ns w → Means table (need.Term field text) w
unfolding occurs
means-term table field text ns w fit one s labels has = one (stands_in table s) (some_label labels) ∙ fitting-stand table s field (Plain text) ns has fit

pub means-regex : (table : List Term) (field : Field) (e : List ℕ) (ns : List ℕ) (w : Wanted) → AreFitting table field (Regex e) ns → AreOneOf ns w → Means table (need.Regex field e) w
unfolding occurs
means-regex table field e ns w fit one s labels has = one (stands_in table s) (some_label labels) ∙ fitting-stand table s field (Regex e) ns has fit

pub means-edge : (table : List Term) (v : Value) (ns : List ℕ) (w : Wanted) → AreFitting table Incoming v ns → AreOneOf ns w → Means table (need.Edge v) w
unfolding occurs
means-edge table v ns w fit one s labels has = one (stands_in table s) (some_label labels) ∙ fitting-stand table s Incoming v ns has fit ∙ sym (label-comes-in s v)

pub means-label : (table : List Term) (name : List ℕ) → Means table (need.Label name) (want.Label name)
unfolding occurs
means-label table name s labels has = wanted-label _ _ name

pub means-and : (table : List Term) (ns : List Need) (w : Wanted) → MeansAll table ns w → Means table (need.And ns) w
means-and table ns w h s labels has = h s labels has ∙ sym (occurs-and s labels ns)

pub means-or : (table : List Term) (ns : List Need) (w : Wanted) → MeansAny table ns w → Means table (need.Or ns) w
means-or table ns w h s labels has = h s labels has ∙ sym (occurs-or s labels ns)

-- ## Parts

all-last : {X : Type 0} (test : X → Bool) (xs : List X) (k : ℕ) (x : X) → slice_get xs k ≡ Some x → list_all test (take (suc k) xs) ≡ (list_all test (take k xs) && test x)
all-last test [] k x e = absurd (let q : ◌≡◌ {A = Option _} None (Some x) = e in cc)
all-last test (y ∷ xs) zero x e = let q : y ≡ x = (let p : Some y ≡ Some x = e in cc) in and-true (test y) ∙ ap test q
all-last test (y ∷ xs) (suc k) x e = ap (λ b. test y && b) (all-last test xs k x e) ∙ sym (and-assoc (test y) _ _)

any-last : {X : Type 0} (test : X → Bool) (xs : List X) (k : ℕ) (x : X) → slice_get xs k ≡ Some x → list_any test (take (suc k) xs) ≡ (list_any test (take k xs) || test x)
any-last test [] k x e = absurd (let q : ◌≡◌ {A = Option _} None (Some x) = e in cc)
any-last test (y ∷ xs) zero x e = let q : y ≡ x = (let p : Some y ≡ Some x = e in cc) in or-false (test y) ∙ ap test q
any-last test (y ∷ xs) (suc k) x e = ap (λ b. test y || b) (any-last test xs k x e) ∙ sym (or-assoc (test y) _ _)

pub parts-all : (table : List Term) (ns : List Need) (k : ℕ) (n : Need) (ws new : List Wanted) (w : Wanted) → slice_get ns k ≡ Some n → PartsMeanAll table (take k ns) ws → Means table n w
    → ((stands : ℕ → Bool) (labelled : List ℕ → Bool) → list_all (wanted stands labelled) new ≡ (list_all (wanted stands labelled) ws && wanted stands labelled w))
    → PartsMeanAll table (take (k + 1) ns) new
parts-all table ns k n ws new w at parts one put s labels has =
    let q : suc k ≡ k + 1 = omega arith in
    put (stands_in table s) (some_label labels) ∙ ap₂ (λ a b. a && b) (parts s labels has) (one s labels has)
    ∙ sym (all-last (occurs s labels) ns k n at) ∙ ap (λ m. list_all (occurs s labels) (take m ns)) q

pub parts-any : (table : List Term) (ns : List Need) (k : ℕ) (n : Need) (ws new : List Wanted) (w : Wanted) → slice_get ns k ≡ Some n → PartsMeanAny table (take k ns) ws → Means table n w
    → ((stands : ℕ → Bool) (labelled : List ℕ → Bool) → list_any (wanted stands labelled) new ≡ (list_any (wanted stands labelled) ws || wanted stands labelled w))
    → PartsMeanAny table (take (k + 1) ns) new
parts-any table ns k n ws new w at parts one put s labels has =
    let q : suc k ≡ k + 1 = omega arith in
    put (stands_in table s) (some_label labels) ∙ ap₂ (λ a b. a || b) (parts s labels has) (one s labels has)
    ∙ sym (any-last (occurs s labels) ns k n at) ∙ ap (λ m. list_any (occurs s labels) (take m ns)) q

fails-at : {X : Type 0} (test : X → Bool) (xs : List X) (k : ℕ) (x : X) → slice_get xs k ≡ Some x → test x ≡ false → list_all test xs ≡ false
fails-at test [] k x e h = absurd (let q : ◌≡◌ {A = Option _} None (Some x) = e in cc)
fails-at test (y ∷ xs) zero x e h = let q : y ≡ x = (let p : Some y ≡ Some x = e in cc) in ap (λ b. b && list_all test xs) (ap test q ∙ h)
fails-at test (y ∷ xs) (suc k) x e h = ap (λ b. test y && b) (fails-at test xs k x e h) ∙ and-false (test y)
  where
    and-false : (b : Bool) → (b && false) ≡ false
    and-false true = refl
    and-false false = refl

holds-at : {X : Type 0} (test : X → Bool) (xs : List X) (k : ℕ) (x : X) → slice_get xs k ≡ Some x → test x ≡ true → list_any test xs ≡ true
holds-at test [] k x e h = absurd (let q : ◌≡◌ {A = Option _} None (Some x) = e in cc)
holds-at test (y ∷ xs) zero x e h = let q : y ≡ x = (let p : Some y ≡ Some x = e in cc) in ap (λ b. b || list_any test xs) (ap test q ∙ h)
holds-at test (y ∷ xs) (suc k) x e h = ap (λ b. test y || b) (holds-at test xs k x e h) ∙ or-true (test y)
  where
    or-true : (b : Bool) → (b || true) ≡ true
    or-true true = refl
    or-true false = refl

pub nowhere-all : (table : List Term) (ns : List Need) (k : ℕ) (n : Need) → slice_get ns k ≡ Some n → Means table n want.Nowhere → MeansAll table ns want.Nowhere
nowhere-all table ns k n at one s labels has =
    wanted-nowhere _ _ ∙ sym (fails-at (occurs s labels) ns k n at (sym (one s labels has) ∙ wanted-nowhere _ _))

pub everywhere-any : (table : List Term) (ns : List Need) (k : ℕ) (n : Need) → slice_get ns k ≡ Some n → Means table n want.Everywhere → MeansAny table ns want.Everywhere
everywhere-any table ns k n at one s labels has =
    wanted-everywhere _ _ ∙ sym (holds-at (occurs s labels) ns k n at (sym (one s labels has) ∙ wanted-everywhere _ _))

-- ## Runners

-- what each need asks is among what all of them ask
pub each-at : {X Y : Type 0} (P : Y → Type 0) (f : X → List Y) (xs : List X) (k : ℕ) (x : X) → slice_get xs k ≡ Some x → Each P (flat_map f xs) → Each P (f x)
each-at P f [] k x e h = absurd (let q : ◌≡◌ {A = Option _} None (Some x) = e in cc)
each-at P f (y ∷ xs) zero x e h = let q : y ≡ x = (let p : Some y ≡ Some x = e in cc) in subst (λ z. Each P (f z)) q (Each-left P (f y) (flat_map f xs) h)
each-at P f (y ∷ xs) (suc k) x e h = each-at P f xs k x e (Each-right P (f y) (flat_map f xs) h)

pub item-there : {X : Type 0} (xs : List X) (k : ℕ) (x : X) → k < length xs → x ≡ get_or xs k x → slice_get xs k ≡ Some x
item-there [] k x lt e = absurd (omega (arith, lt))
item-there (y ∷ xs) zero x lt e = ap Some (sym e)
item-there (y ∷ xs) (suc k) x lt e = item-there xs k x (omega (arith, lt)) e

pub have_and : {R : Type 0} (runners : List (List ℕ × R)) (n : Need) (ns ms : List Need) → n ≡ need.And ns → ms ≡ ns → HaveAll runners (expressions_needed n) → HaveAll runners (flat_map expressions_needed ms)
have_and runners n ns ms is same has = subst (HaveAll runners) (ap expressions_needed is ∙ expressions-and ns ∙ ap (flat_map expressions_needed) (sym same)) has

pub have_or : {R : Type 0} (runners : List (List ℕ × R)) (n : Need) (ns ms : List Need) → n ≡ need.Or ns → ms ≡ ns → HaveAll runners (expressions_needed n) → HaveAll runners (flat_map expressions_needed ms)
have_or runners n ns ms is same has = subst (HaveAll runners) (ap expressions_needed is ∙ expressions-or ns ∙ ap (flat_map expressions_needed) (sym same)) has

-- one of the elements up to the next place
pub any-next : {X : Type 0} (test : X → Bool) (xs : List X) (k : ℕ) (x : X) → slice_get xs k ≡ Some x → list_any test (take (k + 1) xs) ≡ (list_any test (take k xs) || test x)
any-next test xs k x e = let q : suc k ≡ k + 1 = omega arith in subst (λ m. list_any test (take m xs) ≡ (list_any test (take k xs) || test x)) q (any-last test xs k x e)

pub item-got : {X : Type 0} (xs : List X) (k : ℕ) (d : X) → k < length xs → slice_get xs k ≡ Some (get_or xs k d)
item-got [] k d lt = absurd (omega (arith, lt))
item-got (y ∷ xs) zero d lt = refl
item-got (y ∷ xs) (suc k) d lt = item-got xs k d (omega (arith, lt))
