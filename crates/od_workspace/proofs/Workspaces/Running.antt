-- What a session that runs tells of its state, and what stays of that.
use Rattle.std.proofs.Common.{◌≡◌, ◌≢◌, ℕ, ◌+◌, ◌≤◌, ◌<◌, List, [], ◌∷◌, ◌++◌, length, take, filter, flat_map, Option, Some, refl, sym, ap, ◌∙◌, subst, arith, take_all, length-take, length-append}
use Rattle.std.specs.List.{enumerate_from}
use Rattle.std.proofs.lemmas.List.{length_push, take-append-le}
use Rattle.od_document.specs.declared.doc.Doc.{Doc}
use Rattle.od_extraction.specs.declared.mention.Mention.{Mention}
use Rattle.od_extraction.specs.declared.mention.RoundResult.TheVariants.{Found}
use Rattle.od_extraction.specs.declared.phase.Phase.TheVariants.{Going}
use Rattle.od_extraction.specs.Joined.{joined}
use Rattle.od_index.specs.Segments.{Tiles}
use Rattle.od_extraction.specs.Mentions.{distinct}
use Rattle.od_extraction.specs.Weight.{most_weight}
use Rattle.od_index.specs.Sites.{Site, sites}
use Rattle.od_index.specs.Views.{Seen, sites_seen}
use Rattle.od_matching.specs.Rounds.Phases.{phase, greatest_first}
use Rattle.od_matching.specs.Rounds.Round.{round, round_over, walk_over, items_over}
use Rattle.od_matching.specs.Rounds.Sites.{runs_in}
use Rattle.od_matching.specs.Rounds.Standing.{standing, with_round, next_round, phase_at}
use Rattle.od_matching.proofs.Rounds.Kept.{seen-is-round}
use Rattle.od_matching.proofs.Rounds.Weights.{length-le-weight}
use Rattle.od_matching.proofs.Rounds.Stands.{round-is-next, standing-goes-on, phase-is-at}
use Rattle.od_model.proofs.Histories.Sound.{grammar-is, going-below}
use Rattle.od_pattern.specs.declared.grammar.Grammar.{Grammar}
use Rattle.od_pattern.specs.declared.grammar.Head.{Head}
use Rattle.od_pattern.specs.declared.rule.Rule.{Rule}
use Rattle.od_rounds.specs.Running.{Running}
use Rattle.od_session.specs.declared.object.SessionState.{SessionState}
use Rattle.od_session.specs.declared.object.TheConstants.{SESSION_ROUNDS}
use Rattle.od_session.specs.Grammars.{grammar_of}
use Rattle.od_session.specs.Parts.{grammar_at, phase_with, round_at}
use Rattle.od_session.proofs.After.{distinct-after, light-after}
use Rattle.od_workspace.specs.Workspaces.Sessions.{IsRunning}

-- of a grammar a round asks the rules alone
by-rules : (ss : List Site) (g other : Grammar) (r : ℕ) (old : List Mention) → g.rules ≡ other.rules → round_over ss g r old ≡ round_over ss other r old
unfolding round_over
by-rules ss g other r old same =
    ap (λ (rules : List Rule). walk_over (distinct old) (flat_map (λ rule. items_over ss (distinct old) rule) (filter (λ n. runs_in r n.1.priority) (enumerate_from 1 rules)))) same

-- a session that is opened over all documents
pub runs-new : (docs : List Doc) (name : List ℕ) (head : Head) (limit caller : ℕ) (grammar : Grammar) (view : Seen) → grammar_of head.kind head.text ≡ Some grammar → limit ≤ SESSION_ROUNDS
    → Tiles view.segments docs → view.documents ≡ length docs
    → IsRunning docs (record { name = name; kind = head.kind; text = head.text; documents = length docs; limit = limit; rounds = []; holder = Some caller }) (record { rules = grammar.rules; seen = view; limit = limit; at = standing [] })
runs-new docs name head limit caller grammar view reads limited tiled documents = record {
  grammar = grammar;
  reads = reads;
  rules_are = refl;
  within = omega arith;
  tiled = subst (Tiles view.segments) (sym (take_all (length docs) docs (omega arith))) tiled;
  documents_are = documents;
  limit_is = refl;
  stands = refl;
  differ = refl;
  light = omega arith;
  few = omega arith;
  limited = limited;
}

module _ (docs : List Doc) (s : SessionState) (r : Running) (h : IsRunning docs s r) where
  same-grammar : grammar_at s ≡ h.grammar
  same-grammar = grammar-is s h.grammar h.reads

  -- its phase is that of the state
  pub phase-told : phase_at (greatest_first r.rules) r.limit r.at ≡ phase_with s s.rounds
  phase-told = told s.rounds h.stands
    where
      told : (lists : List (List Mention)) → r.at ≡ standing lists → phase_at (greatest_first r.rules) r.limit r.at ≡ phase_with s lists
      told lists is =
          ap (λ a. phase_at (greatest_first r.rules) r.limit a) is
          ∙ sym (phase-is-at (greatest_first r.rules) r.limit lists)
          ∙ ap (λ n. phase (greatest_first r.rules) n lists) h.limit_is
          ∙ ap (λ (rules : List Rule). phase (greatest_first rules) s.limit lists) (sym h.rules_are)
          ∙ ap (λ (g : Grammar). phase (greatest_first g.rules) s.limit lists) (sym same-grammar)

  -- what it sees are the documents of the state
  all-seen : take r.seen.documents (take s.documents docs) ≡ take s.documents docs
  all-seen =
      ap (λ n. take n (take s.documents docs)) h.documents_are
      ∙ take_all s.documents (take s.documents docs) (omega (arith, length-take s.documents docs))

  -- its next round is that of the state
  pub round-told : (g : Grammar) → g.rules ≡ r.rules → next_round (sites_seen r.seen) g r.at ≡ round_at docs s
  round-told g is =
      ap (λ a. next_round (sites_seen r.seen) g a) h.stands
      ∙ sym (round-is-next (sites_seen r.seen) g s.rounds)
      ∙ seen-is-round r.seen (take s.documents docs) g (length s.rounds + 1) (joined s.rounds) h.tiled
      ∙ ap (λ (ds : List Doc). round ds g (length s.rounds + 1) (joined s.rounds)) all-seen
      ∙ same-rules
    where
      same-rules : round (take s.documents docs) g (length s.rounds + 1) (joined s.rounds) ≡ round_at docs s
      same-rules = by-rules (sites (take s.documents docs)) g (grammar_at s) (length s.rounds + 1) (joined s.rounds) (is ∙ sym h.rules_are ∙ ap (λ (x : Grammar). x.rules) (sym same-grammar))

  -- where it goes on, there is room for one round more
  pub room-told : phase_with s s.rounds ≡ Going → r.at.rounds < r.limit
  room-told going =
      let few = h.few in
      let apart : length s.rounds ≢ s.limit = going-below (greatest_first (grammar_at s).rules) s.limit s.rounds going in
      let count : r.at.rounds ≡ length s.rounds = ap (λ a. a.rounds) h.stands in
      let limit = h.limit_is in
      omega (arith, few, apart, count, limit)

  -- its mentions are those of the state
  pub known-told : r.at.known ≡ joined s.rounds
  known-told = ap (λ a. a.known) h.stands ∙ h.differ

  -- they are few
  pub known-few : length (joined s.rounds) ≤ most_weight
  known-few = let less = length-le-weight (joined s.rounds) in let light = h.light in omega (arith, less, light)

  -- with a document more
  pub runs-more : (more : List Doc) → IsRunning (docs ++ more) s r
  runs-more more = record {
    grammar = h.grammar;
    reads = h.reads;
    rules_are = h.rules_are;
    within = let within = h.within in omega (arith, within, length-append docs more);
    tiled = subst (Tiles r.seen.segments) (sym (take-append-le s.documents docs more h.within)) h.tiled;
    documents_are = h.documents_are;
    limit_is = h.limit_is;
    stands = h.stands;
    differ = h.differ;
    light = h.light;
    few = h.few;
    limited = h.limited;
  }

  -- with another holder
  pub runs-held : (holder : Option ℕ) → IsRunning docs (record s { holder = holder }) r
  runs-held holder = record {
    grammar = h.grammar;
    reads = h.reads;
    rules_are = h.rules_are;
    within = h.within;
    tiled = h.tiled;
    documents_are = h.documents_are;
    limit_is = h.limit_is;
    stands = h.stands;
    differ = h.differ;
    light = h.light;
    few = h.few;
    limited = h.limited;
  }

  -- ## A round more

  module _ (added : List Mention) (finds : round_at docs s ≡ Found added) where
    -- the session finds the same
    pub found-told : next_round (sites_seen r.seen) h.grammar r.at ≡ Found added
    found-told = round-told h.grammar h.rules_are ∙ finds

    stands-after : with_round r.at added ≡ standing (s.rounds ++ added ∷ [])
    stands-after =
        ap (λ a. with_round a added) h.stands
        ∙ sym (standing-goes-on (sites_seen r.seen) h.grammar s.rounds added (ap (λ a. next_round (sites_seen r.seen) h.grammar a) (sym h.stands) ∙ found-told))

    -- its phase is then that of the state
    pub phase-after : phase_at (greatest_first r.rules) r.limit (with_round r.at added) ≡ phase_with s (s.rounds ++ added ∷ [])
    phase-after =
        ap (λ a. phase_at (greatest_first r.rules) r.limit a) stands-after
        ∙ sym (phase-is-at (greatest_first r.rules) r.limit (s.rounds ++ added ∷ []))
        ∙ ap (λ n. phase (greatest_first r.rules) n (s.rounds ++ added ∷ [])) h.limit_is
        ∙ ap (λ (rules : List Rule). phase (greatest_first rules) s.limit (s.rounds ++ added ∷ [])) (sym h.rules_are)
        ∙ ap (λ (g : Grammar). phase (greatest_first g.rules) s.limit (s.rounds ++ added ∷ [])) (sym same-grammar)

    -- and it goes on as the state does
    pub runs-on : phase_with s s.rounds ≡ Going → IsRunning docs (record s { rounds = s.rounds ++ added ∷ [] }) (record r { at = with_round r.at added })
    runs-on going = record {
      grammar = h.grammar;
      reads = h.reads;
      rules_are = h.rules_are;
      within = h.within;
      tiled = h.tiled;
      documents_are = h.documents_are;
      limit_is = h.limit_is;
      stands = stands-after;
      differ = distinct-after docs s added finds h.differ;
      light = light-after docs s added finds h.differ h.light;
      few = let few = h.few in let below = going-below (greatest_first (grammar_at s).rules) s.limit s.rounds going in omega (arith, few, below, length_push s.rounds added);
      limited = h.limited;
    }
