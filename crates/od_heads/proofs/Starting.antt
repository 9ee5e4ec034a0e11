-- The grammar at a place, and a session that runs it.
use Rattle.std.proofs.Common.{◌≡◌, ℕ, ◌<◌, arith, Result, Ok, Err, List, [], length, Option, Some, slice_get, sym, ap, ◌∙◌, subst}
use Rattle.std.specs.Prelude.{IsSomeAnd, IfOk}
use Rattle.std.specs.Arc.{arc_value}
use Rattle.std.specs.List.{AllZip}
use Rattle.od_heads.specs.Ready.{CanRun, IsReady}
use Rattle.od_heads.specs.declared.ready.Ready.{Ready}
use Rattle.od_heads.proofs.Seeing.{grammar_with, read-as}
use Rattle.od_heads.proofs.Zips.{zip_at}
use Rattle.od_index.specs.Views.{Seen}
use Rattle.od_matching.specs.Rounds.Standing.{standing}
use Rattle.od_pattern.specs.declared.grammar.Grammar.{Grammar}
use Rattle.od_pattern.specs.declared.grammar.Head.{Head}
use Rattle.od_pattern.specs.declared.rule.Rule.{Rule}
use Rattle.od_extraction.specs.declared.mention.Mention.{Mention}
use Rattle.od_rounds.specs.Running.{Running}
use Rattle.od_session.specs.Grammars.{grammar_of, room_with}
use Rattle.od_session.proofs.Accepted.{grammar_of-read}
use Rattle.od_grammars.specs.Grammars.{grammar_read}

-- a session of rules behind rounds that added these lists
abbrev pub resumed : List Rule → Seen → ℕ → List (List Mention) → Running
resumed rules seen limit lists = record { rules = rules; seen = seen; limit = limit; at = standing lists }

module _ {R : Type 0} (pattern : R → List ℕ) where
  -- with the same rules, which can be run, a grammar is still that of the head
  pub ready-still : (head : Head) (old new : Ready R) → arc_value new.rules ≡ arc_value old.rules → CanRun pattern (arc_value new.rules) new.runners → IsReady pattern head old → IsReady pattern head new
  ready-still head old new same can ready = record {
    grammar = ready.grammar ∙ ap (λ (rules : List Rule). Some (grammar_with head head.text rules)) (sym same);
    can_run = can;
  }

  -- what was built of the text of a head is its grammar made ready
  pub ready-made : (seen : List (List ℕ)) (head : Head) (text : List ℕ) (room : ℕ) (rules : List Rule) (one : Ready R) → text ≡ head.text → room ≡ room_with seen
      → grammar_read head.kind text room ≡ Ok (grammar_with head text rules) → arc_value one.rules ≡ rules → CanRun pattern rules one.runners → IsReady pattern head one
  ready-made seen head text room rules one same left read are can = record {
    grammar = grammar_of-read head.kind head.text (room_with seen) (grammar_with head head.text rules) (omega arith) (read-as seen head text room rules same left read)
        ∙ ap (λ (rs : List Rule). Some (grammar_with head head.text rs)) (sym are);
    can_run = subst (λ (rs : List Rule). CanRun pattern rs one.runners) (sym are) can;
  }

  -- the rules at a place can be run
  pub can-run-at : (heads : List Head) (ready : List (Ready R)) (place : ℕ) → AllZip (IsReady pattern) heads ready → place < length heads
      → IsSomeAnd (slice_get ready place) (λ one. CanRun pattern (arc_value one.rules) one.runners)
  can-run-at heads ready place zip less =
      let at = zip_at (IsReady pattern) heads ready place zip less in
      subst (λ (o : Option (Ready R)). IsSomeAnd o (λ one. CanRun pattern (arc_value one.rules) one.runners)) (sym at.3) at.4.can_run

  -- a session of the rules at a place is one of the grammar of the head there
  pub runs-at : (heads : List Head) (ready : List (Ready R)) (place : ℕ) (s : Running) (seen : Seen) (limit : ℕ) (lists : List (List Mention)) → AllZip (IsReady pattern) heads ready → place < length heads
      → IsSomeAnd (slice_get ready place) (λ one. s ≡ resumed (arc_value one.rules) seen limit lists)
      → IsSomeAnd (slice_get heads place) (λ head. (grammar : Grammar) × (grammar_of head.kind head.text ≡ Some grammar) × (s ≡ resumed grammar.rules seen limit lists))
  runs-at heads ready place s seen limit lists zip less is =
      let at = zip_at (IsReady pattern) heads ready place zip less in
      let one : s ≡ resumed (arc_value at.1.rules) seen limit lists = subst (λ (o : Option (Ready R)). IsSomeAnd o (λ one. s ≡ resumed (arc_value one.rules) seen limit lists)) at.3 is in
      subst (λ (o : Option Head). IsSomeAnd o (λ head. (grammar : Grammar) × (grammar_of head.kind head.text ≡ Some grammar) × (s ≡ resumed grammar.rules seen limit lists))) (sym at.2)
      (grammar_with at.0 at.0.text (arc_value at.1.rules), at.4.grammar, one)

  -- the same where one could be opened
  pub runs-ok : {E : Type 0} (heads : List Head) (ready : List (Ready R)) (place : ℕ) (r : Result Running E) (seen : Seen) (limit : ℕ) (lists : List (List Mention)) → AllZip (IsReady pattern) heads ready → place < length heads
      → IfOk r (λ s. IsSomeAnd (slice_get ready place) (λ one. s ≡ resumed (arc_value one.rules) seen limit lists))
      → IfOk r (λ s. IsSomeAnd (slice_get heads place) (λ head. (grammar : Grammar) × (grammar_of head.kind head.text ≡ Some grammar) × (s ≡ resumed grammar.rules seen limit lists)))
  runs-ok heads ready place (Ok s) seen limit lists zip less is = runs-at heads ready place s seen limit lists zip less is
  runs-ok heads ready place (Err e) seen limit lists zip less is = tt
