-- Each kind of step keeps the rule.
use Rattle.std.proofs.Common.{◌≡◌, ℕ, zero, suc, ◌+◌, ◌%◌, ◌^◌, ◌<◌, ◌≤◌, eqb, ◌≢◌, Bool, true, false, List, [], ◌∷◌, ◌++◌, length, get_or, set, sym, refl, ap, ◌∙◌, subst, ⊎_elim, arith, append_assoc, append-nil, length-append, eq-eqb, ne_eqb, Option, Some, MatchBool, unwrap_or}
use mathlib.Core.Logic.{dite}
use mathlib.Core.Option.{Option as Place, some, none, some-injective, some-ne-none}
use native.Mathlib.Decide.{ℕ_discrete}
use lib.ListN.{get_elem?}
use lib.Seq.{set-get_or}
use Rattle.std.proofs.Math.Nat.{mod-add-mod}
use Rattle.std.proofs.lemmas.Bool.Decides.{nat_tests}
use Rattle.atomic_table.specs.Table.{State, Me, step, keeps, takes, gives, Allows, Splits, Joins}
use Rattle.atomic_table.proofs.Lists.{at_set, set_again, set_here, set_else, at_snoc, at_longer, one_turn}
use Rattle.od_text.specs.Lists.{Each}
use Rattle.od_text.proofs.Lists.{Each-weaker, Each-both, Each-append}
use Rattle.od_mark.specs.declared.mark.Mark.{Mark}
use Rattle.od_mark.specs.declared.origin.Origin.{Origin}
use Rattle.od_turn.specs.declared.view.PassView.{PassView}
use Rattle.od_turn.specs.declared.view.SeatView.{SeatView}
use Rattle.od_turn.specs.declared.view.Stage.{Stage}
use Rattle.od_turn.specs.declared.view.Stage.TheVariants.{Idle, Waiting, InTurn}
use Rattle.od_turn.specs.Rule.{total, indicator, below, stage_has_ticket, stage_tickets, has_ticket, ticket_count, pass_count, is_numbered, numbered, Continues, NamesOther, IsPassNumber, NamesPass, PassFits, StageFits, SeatFits, IsInTurn, SlotFits, IsOrderly}
use Rattle.od_turn.specs.Steps.{at_stage, draws, serves, Precedes, Comes, looks, raised_view, raises, but_first, only_first, kept_back, issued, collected, spent_view}
use Rattle.od_turn.specs.Passes.{AtMostOneOf, AddsAtMostOne, ticket_in}
use Rattle.od_turn.proofs.Totals.{total_set, total_snoc, total_append, total_one, total_two, total_le}

seats_stay : (K : ℕ → SeatView → Type 0) (vs : List SeatView) (me : ℕ) (w : SeatView) → K me w → ((j : ℕ) (d : SeatView) → j ≢ me → get_elem? vs j ≡ some d → K j d)
    → (j : ℕ) (d : SeatView) → get_elem? (set vs me w) j ≡ some d → K j d
seats_stay K vs me w mine others j d e = ⊎_elim (λ (t : (j ≡ me) × (w ≡ d)). subst (λ (x : ℕ × SeatView). K x.0 x.1) (λ i. (sym t.0 i, t.1 i)) mine)
    (λ (t : (j ≢ me) × (get_elem? vs j ≡ some d)). others j d t.0 t.1) (at_set vs me j w d e)

-- one more number below
pub below_more : (t n : ℕ) → below t (n + 1) ≡ below t n + indicator (eqb n t)
below_more t n = grind (arith, nat_tests)

below_one : (t n : ℕ) → below t n ≤ 1
below_one t n = grind (arith, nat_tests)

below_in : (t n : ℕ) → 0 < below t n → t < n
below_in t n h = grind (arith, nat_tests)

below_out : (t n : ℕ) → below t n ≡ 0 → n ≤ t
below_out t n h = grind (arith, nat_tests)

indicator_same : (t : ℕ) → indicator (eqb t t) ≡ 1
indicator_same t = ap indicator (eq-eqb t t refl)

out_le : (busy : Bool) (serving : ℕ) (log : List Mark) (ks : List PassView) (st : Stage) → StageFits busy serving log ks st → stage_tickets st ≤ length ks
out_le busy serving log ks Idle h = omega arith
out_le busy serving log ks (Waiting t) h = omega arith
out_le busy serving log ks (InTurn t held) h = let a = h.0 in omega arith

-- who is in turn has the ticket that is served
turn_has : (busy : Bool) (serving : ℕ) (log : List Mark) (ks : List PassView) (st : Stage) → StageFits busy serving log ks st → IsInTurn st → stage_has_ticket serving st ≡ 1
turn_has busy serving log ks Idle h i = absurd i
turn_has busy serving log ks (Waiting t) h i = absurd i
turn_has busy serving log ks (InTurn t held) h i = ap indicator (eq-eqb t serving h.2)

-- what a seat that is not in turn knows holds at any other state
stays_fit : (busy busy' : Bool) (serving serving' : ℕ) (log log' : List Mark) (ks : List PassView) (st : Stage) → (IsInTurn st → ⊥) → StageFits busy serving log ks st → StageFits busy' serving' log' ks st
stays_fit busy busy' serving serving' log log' ks Idle n h = tt
stays_fit busy busy' serving serving' log log' ks (Waiting t) n h = h
stays_fit busy busy' serving serving' log log' ks (InTurn t held) n h = absurd (n tt)

in_turn_busy : (busy : Bool) (serving : ℕ) (log : List Mark) (ks : List PassView) (st : Stage) → StageFits busy serving log ks st → IsInTurn st → busy ≡ true
in_turn_busy busy serving log ks Idle h i = absurd i
in_turn_busy busy serving log ks (Waiting t) h i = absurd i
in_turn_busy busy serving log ks (InTurn t held) h i = h.1

abbrev slot_value : {V : Type 0} → V → List (ℕ × Option V) → V
slot_value x [] = x
slot_value x (p ∷ ps) = unwrap_or p.1 x

at_below : {A : Type 0} (l : List A) (i : ℕ) (a : A) → get_elem? l i ≡ some a → i < length l
at_below [] i a e = absurd (some-ne-none a (sym e))
at_below (x ∷ xs) zero a e = omega arith
at_below (x ∷ xs) (suc i) a e = let h = at_below xs i a e in omega arith

pub other_seat : (vs : List SeatView) (id j : ℕ) (v u : SeatView) → get_elem? vs id ≡ some v → get_elem? vs j ≡ some u → IsInTurn u.stage → (IsInTurn v.stage → ⊥) → j ≢ id
other_seat vs id j v u at there i n e = n (subst (λ (x : SeatView). IsInTurn x.stage) (some-injective u v (sym there ∙ (ap (get_elem? vs) e ∙ at))) i)

continues_more : (P : Mark → Type 0) (seen log more log' : List Mark) → Continues P seen log → log' ≡ log ++ more → Each P more → Continues P seen log'
continues_more P seen log more log' h e each = (h.0 ++ more, e ∙ (ap (λ (l : List Mark). l ++ more) h.1 ∙ append_assoc seen h.0 more), Each-append P h.0 more h.2 each)

one_each : (P : Mark → Type 0) (n : ℕ) → ((m : Mark) → m.caller ≡ n → P m) → (more : List Mark) → AtMostOneOf n more → Each P more
one_each P n f [] h = tt
one_each P n f (m ∷ []) h = (f m h, tt)
one_each P n f (m ∷ (m' ∷ ms)) h = absurd h

none_numbered : (n : ℕ) (ks : List PassView) → total (is_numbered n) ks ≡ 0 → Each (λ k. k.number ≢ n) ks
none_numbered n [] h = tt
none_numbered n (k ∷ ks) h = ((λ e. let a : indicator (eqb k.number n) ≡ 1 = ap indicator (eq-eqb k.number n e) in absurd (omega arith)), none_numbered n ks (omega arith))

cut_total : (f : PassView → ℕ) (ks : List PassView) → total f (but_first ks) + total f (only_first ks) ≡ total f ks
cut_total f [] = omega arith
cut_total f (k ∷ ks) = omega arith

cut_length : (ks : List PassView) → length (but_first ks) + length (only_first ks) ≡ length ks
cut_length [] = omega arith
cut_length (k ∷ ks) = omega arith

each_but_first : (P : PassView → Type 0) (ks : List PassView) → Each P ks → Each P (but_first ks)
each_but_first P [] h = tt
each_but_first P (k ∷ ks) h = h.1

each_only_first : (P : PassView → Type 0) (ks : List PassView) → Each P ks → Each P (only_first ks)
each_only_first P [] h = tt
each_only_first P (k ∷ ks) h = (h.0, tt)

module _ {V : Type 0} (marks : V → List Mark) (origin : V → Origin) (callers : ℕ) (o : Origin) (base : List Mark) where
  abbrev S : Type 0
  S = Option V

  abbrev St : Type 0
  St = State S SeatView

  abbrev M : Type 0
  M = Me S SeatView

  abbrev Rule : St → Type 0
  Rule = IsOrderly marks origin callers o base

  slot_away : (b : Bool) (log : List Mark) (homes : List (Place S)) → SlotFits marks origin callers o base b log homes → b ≡ true → homes ≡ none ∷ []
  slot_away true log homes h e = h
  slot_away false log homes h e = absurd (cc (e))

  slot_out : (b : Bool) (log : List Mark) (homes : List (Place S)) → b ≡ true → homes ≡ none ∷ [] → SlotFits marks origin callers o base b log homes
  slot_out true log homes e h = h
  slot_out false log homes e h = absurd (cc (e))

  pub slot_there : (b : Bool) (log : List Mark) (homes : List (Place S)) → SlotFits marks origin callers o base b log homes → (b ≡ true → ⊥) → (x : V) × (homes ≡ some (Some x) ∷ []) × (marks x ≡ log) × (origin x ≡ o)
  slot_there true log homes h n = absurd (n refl)
  slot_there false log homes h n = h

  -- no two seats have one ticket
  not_both : (s : St) (r : Rule s) (t i j : ℕ) (v w : SeatView) → j ≢ i → get_elem? s.views i ≡ some v → get_elem? s.views j ≡ some w → has_ticket t v ≡ 1 → has_ticket t w ≡ 1 → ⊥
  not_both s r t i j v w n at there hv hw = let both = total_two (has_ticket t) s.views i j v w n at there in let e = r.each t in let b = below_one t r.next in absurd (omega arith)

  pub draw_allowed : (slots id : ℕ) (me : M) → me.0.stage ≡ Idle → 0 < length me.0.passes → Allows Rule slots id me 0 (λ n. (n + 1) % 2 ^ 64) (draws (step slots 0 1 0 none) me)
  draw_allowed slots id me idle some_pass s r _ at _ = let v : SeatView = me.0 in let w : SeatView = at_stage v.passes (Waiting r.next) in
      let has_none : (t : ℕ) → has_ticket t v ≡ 0 = λ t. ap (stage_has_ticket t) idle in
      let out_none : ticket_count v ≡ 0 = ap stage_tickets idle in (
        w,
        keeps,
        tt,
        record {
          next = r.next + 1;
          serving = r.serving;
          log = r.log;
          busy = r.busy;
          few = r.few;
          words = ap (λ (ws : List ℕ). set ws 0 ((get_or ws 0 0 + 1) % 2 ^ 64)) r.words ∙ ap (λ (n : ℕ). n ∷ r.serving % 2 ^ 64 ∷ length r.log ∷ []) (mod-add-mod r.next (2 ^ 64) 1);
          out = let h = total_set ticket_count s.views id v w at in let p = r.out in omega arith;
          each = λ t. let h = total_set (has_ticket t) s.views id v w at in let p = r.each t in let q = below_more t r.next in let z = has_none t in omega arith;
          slot = r.slot;
          turn = λ b. let h = r.turn b in let n = other_seat s.views id h.0 v h.1 at h.2 h.3 (subst (λ (st : Stage). IsInTurn st → ⊥) (sym idle) (λ x. x)) in (h.0, h.1, set_else s.views id h.0 w n ∙ h.2, h.3);
          seats = seats_stay (λ _. SeatFits callers o r.busy r.serving r.log) s.views id w ((r.seats id v at).0, some_pass) (λ j d _. r.seats j d);
          all = let h = total_set pass_count s.views id v w at in let p = r.all in omega arith;
          apart = λ n. let h = total_set (numbered n) s.views id v w at in let p = r.apart n in omega arith;
          added = r.added;
        },
        (r.next, refl, ap (λ (ws : List ℕ). get_or ws 0 0) r.words),
      )

  pub look_allowed : (slots id : ℕ) (me : M) (t0 : ℕ) → me.0.stage ≡ Waiting t0 → Allows Rule slots id me 1 (λ n. n) (looks marks origin (step slots 1 0 0 none) me)
  look_allowed slots id me t0 is s r _ at _ = let v : SeatView = me.0 in let n : ℕ = get_or s.words 1 0 in
      let found : n ≡ r.serving % 2 ^ 64 = ap (λ (ws : List ℕ). get_or ws 1 0) r.words in
      dite (ℕ_discrete n (t0 % 2 ^ 64))
      (λ hit.
      let mine : has_ticket t0 v ≡ 1 = ap (stage_has_ticket t0) is ∙ indicator_same t0 in
      let some_pass : 0 < length v.passes = subst (StageFits r.busy r.serving r.log v.passes) is (r.seats id v at).1 in
      let one = total_one (has_ticket t0) s.views id v at in
      let e = r.each t0 in
      let b = below_one t0 r.next in
      let before : t0 < r.next = below_in t0 r.next (omega arith) in
      let after : r.serving ≤ t0 = below_out t0 r.serving (omega arith) in
      let le = total_le ticket_count pass_count s.views (λ j u e. out_le r.busy r.serving r.log u.passes u.stage (r.seats j u e).1) in
      let few = r.few in let out = r.out in let all = r.all in
      let now : r.serving ≡ t0 = one_turn r.serving t0 (2 ^ 64) after (omega arith) (sym found ∙ hit) in
      let calm : r.busy ≡ true → ⊥ = λ busy. let h = r.turn busy in
      let n' = other_seat s.views id h.0 v h.1 at h.2 h.3 (subst (λ (st : Stage). IsInTurn st → ⊥) (sym is) (λ x. x)) in
      not_both s r r.serving id h.0 v h.1 n' at h.2 (subst (λ (k : ℕ). has_ticket k v ≡ 1) (sym now) mine) (turn_has r.busy r.serving r.log h.1.passes h.1.stage (r.seats h.0 h.1 h.2).1 h.3) in
      let there = slot_there r.busy r.log s.homes r.slot calm in
      let x : V = there.0 in
      let w : SeatView = at_stage v.passes (InTurn t0 (marks x)) in
      let has_same : (t : ℕ) → has_ticket t v ≡ has_ticket t w = λ t. ap (stage_has_ticket t) is in
      let out_same : ticket_count v ≡ ticket_count w = ap stage_tickets is in (
        w,
        takes 0 (Some x),
        ap (λ (hs : List (Place S)). get_elem? hs 0) there.1,
        record {
          next = r.next;
          serving = r.serving;
          log = r.log;
          busy = true;
          few = r.few;
          words = set-get_or s.words 1 0 ∙ r.words;
          out = let h = total_set ticket_count s.views id v w at in omega arith;
          each = λ t. let h = total_set (has_ticket t) s.views id v w at in let p = r.each t in let z = has_same t in omega arith;
          slot = ap (λ (hs : List (Place S)). set hs 0 none) there.1;
          turn = λ _. (id, w, set_here s.views id w (at_below s.views id v at), tt);
          seats = seats_stay (λ _. SeatFits callers o true r.serving r.log) s.views id w ((r.seats id v at).0, (some_pass, refl, sym now, there.2))
              (λ j d _ e. ((r.seats j d e).0, stays_fit r.busy true r.serving r.serving r.log r.log d.passes d.stage (λ i. calm (in_turn_busy r.busy r.serving r.log d.passes d.stage (r.seats j d e).1 i)) (r.seats j d e).1));
          all = let h = total_set pass_count s.views id v w at in omega arith;
          apart = λ n. let h = total_set (numbered n) s.views id v w at in let p = r.apart n in omega arith;
          added = r.added;
        },
        λ t is'. let same : t0 ≡ t = ap ticket_in (sym is ∙ is') in
            subst (λ (k : ℕ). MatchBool (eqb n (k % 2 ^ 64)) (Comes marks origin k me (w, (0, Some x) ∷ me.1)) ((w, (0, Some x) ∷ me.1) ≡ me)) same
            (subst (λ (b : Bool). MatchBool b (Comes marks origin t0 me (w, (0, Some x) ∷ me.1)) ((w, (0, Some x) ∷ me.1) ≡ me)) (sym (eq-eqb n (t0 % 2 ^ 64) hit))
            (x, refl, Each-weaker (PassFits callers o r.log) (Precedes marks origin x) (λ k f. (there.3 ∙ sym f.1, (f.2.0, there.2 ∙ f.2.1, f.2.2))) v.passes (r.seats id v at).0)),
      ))
      (λ miss. (
        v,
        keeps,
        tt,
        subst (λ (z : List ℕ × List SeatView). Rule record { words = z.0; homes = s.homes; views = z.1 }) (λ i. (sym (set-get_or s.words 1 0) i, sym (set_again s.views id v at) i)) r,
        λ t is'. let same : t0 ≡ t = ap ticket_in (sym is ∙ is') in
            subst (λ (k : ℕ). MatchBool (eqb n (k % 2 ^ 64)) (Comes marks origin k me me) (me ≡ me)) same
            (subst (λ (b : Bool). MatchBool b (Comes marks origin t0 me me) (me ≡ me)) (sym (ne_eqb n (t0 % 2 ^ 64) miss)) refl),
      ))

  -- the seat in turn, with the value x in its slot
  abbrev turning : PassView → ℕ → List Mark → V → M
  turning k t held x = (at_stage (k ∷ []) (InTurn t held), (0, Some x) ∷ [])

  -- no_pass else is in turn
  alone : (s : St) (r : Rule s) (id j : ℕ) (v d : SeatView) → j ≢ id → get_elem? s.views id ≡ some v → IsInTurn v.stage → get_elem? s.views j ≡ some d → IsInTurn d.stage → ⊥
  alone s r id j v d n at i e i' = not_both s r r.serving id j v d n at e (turn_has r.busy r.serving r.log v.passes v.stage (r.seats id v at).1 i) (turn_has r.busy r.serving r.log d.passes d.stage (r.seats j d e).1 i')

  pub raise_allowed : (slots id : ℕ) (k : PassView) (t : ℕ) (held : List Mark) (x : V) (a : ℕ) → AddsAtMostOne k.number held (marks x) → length held + a ≡ length (marks x) → length (marks x) < 2 ^ 64
      → Allows Rule slots id (turning k t held x) 2 (λ n. (n + a) % 2 ^ 64) (raises marks (step slots 2 a 0 none) (turning k t held x))
  raise_allowed slots id k t held x a adds more small s r _ at _ = let v : SeatView = at_stage (k ∷ []) (InTurn t held) in let w : SeatView = raised_view (marks x) v in
      let fits = r.seats id v at in
      let f = fits.0.0 in
      let is : held ≡ r.log = fits.1.3 in
      let longer : marks x ≡ r.log ++ adds.0 = adds.1 ∙ ap (λ (l : List Mark). l ++ adds.0) is in
      let sum : length r.log + a ≡ length (marks x) = ap (λ (l : List Mark). length l + a) (sym is) ∙ more in
      let once : numbered k.number v ≡ 1 = let h = indicator_same k.number in omega arith in
      let rest_fit : (j : ℕ) (d : SeatView) → j ≢ id → get_elem? s.views j ≡ some d → SeatFits callers o r.busy r.serving (marks x) d = λ j d n e.
      let two = total_two (numbered k.number) s.views id j v d n at e in let most = r.apart k.number in let b = below_one k.number (callers + 1) in (
        Each-both (λ k'. k'.number ≢ k.number) (PassFits callers o r.log) (PassFits callers o (marks x))
            (λ k' ne g. (g.0, g.1, continues_more (NamesOther k'.number) k'.seen r.log adds.0 (marks x) g.2 longer (one_each (NamesOther k'.number) k.number (λ m e f. ne (sym f ∙ e)) adds.0 adds.2)))
            d.passes (none_numbered k.number d.passes (omega arith)) (r.seats j d e).0,
        stays_fit r.busy r.busy r.serving r.serving r.log (marks x) d.passes d.stage (alone s r id j v d n at tt e) (r.seats j d e).1,
      ) in (
        w,
        keeps,
        tt,
        record {
          next = r.next;
          serving = r.serving;
          log = marks x;
          busy = r.busy;
          few = r.few;
          words = ap (λ (ws : List ℕ). set ws 2 ((get_or ws 2 0 + a) % 2 ^ 64)) r.words ∙ ap (λ (n : ℕ). r.next % 2 ^ 64 ∷ r.serving % 2 ^ 64 ∷ n ∷ []) (let n : (length r.log + a) % 2 ^ 64 ≡ length (marks x) = omega arith in n);
          out = let h = total_set ticket_count s.views id v w at in let p = r.out in omega arith;
          each = λ u. let h = total_set (has_ticket u) s.views id v w at in let p = r.each u in omega arith;
          slot = slot_out r.busy (marks x) s.homes fits.1.1 (slot_away r.busy r.log s.homes r.slot fits.1.1);
          turn = λ _. (id, w, set_here s.views id w (at_below s.views id v at), tt);
          seats = seats_stay (λ _. SeatFits callers o r.busy r.serving (marks x)) s.views id w
              (((f.0, f.1, ([], sym (append-nil (marks x)), tt)), tt), (fits.1.0, fits.1.1, fits.1.2, refl)) rest_fit;
          all = let h = total_set pass_count s.views id v w at in let p = r.all in omega arith;
          apart = λ n. let h = total_set (numbered n) s.views id v w at in let p = r.apart n in omega arith;
          added = continues_more (NamesPass callers) base r.log adds.0 (marks x) r.added longer
              (one_each (NamesPass callers) k.number (λ m e. subst (IsPassNumber callers) (sym e) f.0) adds.0 adds.2);
        },
        λ y e. let same : x ≡ y = ap (slot_value x) e in ap (λ (z : V). (raised_view (marks z) v, (0, Some x) ∷ [])) same,
      )

  pub serve_allowed : (slots id : ℕ) (k : PassView) (t : ℕ) (held : List Mark) (x : V) → marks x ≡ held → origin x ≡ k.origin
      → Allows Rule slots id (turning k t held x) 1 (λ n. (n + 1) % 2 ^ 64) (serves (step slots 1 1 0 none) (turning k t held x))
  serve_allowed slots id k t held x whole from s r _ at _ = let v : SeatView = at_stage (k ∷ []) (InTurn t held) in let w : SeatView = at_stage (k ∷ []) Idle in
      let fits = r.seats id v at in
      let f = fits.0.0 in
      let away = slot_away r.busy r.log s.homes r.slot fits.1.1 in (
        w,
        gives,
        tt,
        record {
          next = r.next;
          serving = r.serving + 1;
          log = r.log;
          busy = false;
          few = r.few;
          words = ap (λ (ws : List ℕ). set ws 1 ((get_or ws 1 0 + 1) % 2 ^ 64)) r.words ∙ ap (λ (n : ℕ). r.next % 2 ^ 64 ∷ n ∷ length r.log ∷ []) (mod-add-mod r.serving (2 ^ 64) 1);
          out = let h = total_set ticket_count s.views id v w at in let p = r.out in omega arith;
          each = λ u. let h = total_set (has_ticket u) s.views id v w at in let p = r.each u in let q = below_more u r.serving in
              let same : indicator (eqb t u) ≡ indicator (eqb r.serving u) = ap (λ (n : ℕ). indicator (eqb n u)) fits.1.2 in omega arith;
          slot = (x, ap (λ (hs : List (Place S)). set hs 0 (some (Some x))) away, whole ∙ fits.1.3, from ∙ f.1);
          turn = λ e. absurd (cc (e));
          seats = seats_stay (λ _. SeatFits callers o false (r.serving + 1) r.log) s.views id w (fits.0, tt)
              (λ j d n e. ((r.seats j d e).0, stays_fit r.busy false r.serving (r.serving + 1) r.log r.log d.passes d.stage (alone s r id j v d n at tt e) (r.seats j d e).1));
          all = let h = total_set pass_count s.views id v w at in let p = r.all in omega arith;
          apart = λ n. let h = total_set (numbered n) s.views id v w at in let p = r.apart n in omega arith;
          added = r.added;
        },
        refl,
      )

  pub split_allowed : (id : ℕ) (v : SeatView) → v.stage ≡ Idle → Splits Rule id v (kept_back v) (issued v)
  split_allowed id v idle s r at = let left : SeatView = kept_back v in let right : SeatView = issued v in let vs : List SeatView = set s.views id left in
      let fits = r.seats id v at in
      let sum : (f : SeatView → ℕ) → f left + f right ≡ f v → total f (vs ++ right ∷ []) ≡ total f s.views = λ f e. let h = total_set f s.views id v left at in let p = total_snoc f vs right in omega arith in
      let still : (u : SeatView) → IsInTurn u.stage → u.stage ≡ Idle → ⊥ = λ u i e. subst IsInTurn e i in
      record {
        next = r.next;
        serving = r.serving;
        log = r.log;
        busy = r.busy;
        few = r.few;
        words = r.words;
        out = let h = sum ticket_count (omega arith) in let p = r.out in omega arith;
        each = λ t. let h = sum (has_ticket t) (omega arith) in let p = r.each t in omega arith;
        slot = r.slot;
        turn = λ b. let h = r.turn b in let n = other_seat s.views id h.0 v h.1 at h.2 h.3 (λ i. still v i idle) in
            (h.0, h.1, at_longer vs (right ∷ []) h.0 h.1 (set_else s.views id h.0 left n ∙ h.2), h.3);
        seats = λ j d e. ⊎_elim
            (seats_stay (λ _. SeatFits callers o r.busy r.serving r.log) s.views id left (each_but_first (PassFits callers o r.log) v.passes fits.0, subst (StageFits r.busy r.serving r.log (but_first v.passes)) (sym idle) tt) (λ i u _. r.seats i u) j d)
            (λ (t : right ≡ d). subst (SeatFits callers o r.busy r.serving r.log) t (each_only_first (PassFits callers o r.log) v.passes fits.0, tt))
            (at_snoc vs right d j e);
        all = let h = sum pass_count (cut_length v.passes) in let p = r.all in omega arith;
        apart = λ n. let h = sum (numbered n) (cut_total (is_numbered n) v.passes) in let p = r.apart n in omega arith;
        added = r.added;
      }

  pub join_allowed : (id : ℕ) (v : SeatView) (other : ℕ) (w : SeatView) → v.stage ≡ Idle → w.stage ≡ Idle → Joins Rule id v other w (collected v w) spent_view
  join_allowed id v other w idle idle' s r at apart' there = let both : SeatView = collected v w in let vs : List SeatView = set s.views id both in
      let there' : get_elem? s.views other ≡ some w = sym (set_else s.views id other both apart') ∙ there in
      let sum : (f : SeatView → ℕ) → f both ≡ f w + f v → f spent_view ≡ 0 → total f (set vs other spent_view) ≡ total f s.views = λ f e z. let h = total_set f s.views id v both at in let p = total_set f vs other w spent_view there in omega arith in
      let still : (u : SeatView) → IsInTurn u.stage → u.stage ≡ Idle → ⊥ = λ u i e. subst IsInTurn e i in
      record {
        next = r.next;
        serving = r.serving;
        log = r.log;
        busy = r.busy;
        few = r.few;
        words = r.words;
        out = let z : ticket_count w ≡ 0 = ap stage_tickets idle' in let h = sum ticket_count (omega arith) refl in let p = r.out in omega arith;
        each = λ t. let z : has_ticket t w ≡ 0 = ap (stage_has_ticket t) idle' in let h = sum (has_ticket t) (omega arith) refl in let p = r.each t in omega arith;
        slot = r.slot;
        turn = λ b. let h = r.turn b in
            let n = other_seat s.views id h.0 v h.1 at h.2 h.3 (λ i. still v i idle) in
            let m = other_seat s.views other h.0 w h.1 there' h.2 h.3 (λ i. still w i idle') in
            (h.0, h.1, set_else vs other h.0 spent_view m ∙ (set_else s.views id h.0 both n ∙ h.2), h.3);
        seats = seats_stay (λ _. SeatFits callers o r.busy r.serving r.log) vs other spent_view (tt, tt) (λ i u _.
            seats_stay (λ _. SeatFits callers o r.busy r.serving r.log) s.views id both
            (Each-append (PassFits callers o r.log) w.passes v.passes (r.seats other w there').0 (r.seats id v at).0, subst (StageFits r.busy r.serving r.log (w.passes ++ v.passes)) (sym idle) tt) (λ l x _. r.seats l x) i u);
        all = let q = length-append w.passes v.passes in let h = sum pass_count q refl in let p = r.all in omega arith;
        apart = λ n. let h = sum (numbered n) (total_append (is_numbered n) w.passes v.passes) refl in let p = r.apart n in omega arith;
        added = r.added;
      }

  pub raise_allowed_at : (slots id : ℕ) (m : M) (k : PassView) (t : ℕ) (held : List Mark) (x : V) (a : ℕ) → m ≡ turning k t held x → AddsAtMostOne k.number held (marks x) → length held + a ≡ length (marks x) → length (marks x) < 2 ^ 64
      → Allows Rule slots id m 2 (λ n. (n + a) % 2 ^ 64) (raises marks (step slots 2 a 0 none) m)
  raise_allowed_at slots id m k t held x a e adds more small = subst (λ (m : M). Allows Rule slots id m 2 (λ n. (n + a) % 2 ^ 64) (raises marks (step slots 2 a 0 none) m)) (sym e) (raise_allowed slots id k t held x a adds more small)

  pub serve_allowed_at : (slots id : ℕ) (m : M) (k : PassView) (t : ℕ) (held : List Mark) (x : V) → m ≡ turning k t held x → marks x ≡ held → origin x ≡ k.origin
      → Allows Rule slots id m 1 (λ n. (n + 1) % 2 ^ 64) (serves (step slots 1 1 0 none) m)
  serve_allowed_at slots id m k t held x e whole from = subst (λ (m : M). Allows Rule slots id m 1 (λ n. (n + 1) % 2 ^ 64) (serves (step slots 1 1 0 none) m)) (sym e) (serve_allowed slots id k t held x whole from)
