-- Where rounds stand, as one state.
use Rattle.std.proofs.Common.{◌≡◌, ℕ, ◌+◌, List, [], ◌∷◌, ◌++◌, length, take, drop, Bool, false, cond, refl, sym, ap, ap₂, ◌∙◌, append_assoc, take-append-drop}
use Rattle.std.specs.Prelude.{nat_lt, ◌==◌}
use Rattle.std.proofs.lemmas.List.{drop-append-le, length_push}
use Rattle.std.proofs.lemmas.List.Sums.{fold-append}
use Rattle.od_pattern.specs.declared.grammar.Grammar.{Grammar}
use Rattle.od_extraction.specs.declared.mention.Mention.{Mention}
use Rattle.od_extraction.specs.declared.mention.RoundResult.{RoundResult}
use Rattle.od_extraction.specs.declared.mention.RoundResult.TheVariants.{Found, TooMany}
use Rattle.od_extraction.specs.Joined.{joined}
use Rattle.od_extraction.specs.Mentions.{is_among, distinct}
use Rattle.od_extraction.specs.Weight.{weight, most_weight}
use Rattle.od_matching.specs.Rounds.Laws.{RoundIsNext, StandingGoesOn, PhaseIsAt, MetInState}
use Rattle.od_matching.specs.Rounds.Phases.{phase, ends_empty}
use Rattle.od_matching.specs.Rounds.Round.{items_in, walk_over, round_over}
use Rattle.od_matching.specs.Rounds.Sites.{Site}
use Rattle.od_matching.specs.Rounds.Standing.{Standing}
use Rattle.od_matching.proofs.Rounds.Joined.{joined-snoc}
use Rattle.od_matching.proofs.Rounds.New.{distinct-twice}
use Rattle.od_matching.proofs.Rounds.Walks.{distinct-after}

-- against mentions without repeats it is the same round
pub round-distinct : (ss : List Site) (g : Grammar) (r : ℕ) (old : List Mention) → round_over ss g r (distinct old) ≡ round_over ss g r old
unfolding round_over
round-distinct ss g r old = ap (λ known. walk_over known (items_in ss g r known)) (distinct-twice old)

pub round-is-next : RoundIsNext
round-is-next ss g lists = sym (round-distinct ss g (length lists + 1) (joined lists))

abbrev make : ℕ → Bool → List Mention → Standing
make rounds quiet known = record { rounds = rounds; quiet = quiet; known = known }

-- whether the last list is empty
last-decides : (lists : List (List Mention)) (new : List Mention) → ends_empty (lists ++ new ∷ []) ≡ (length new == 0)
last-decides lists new = fold-append (λ (b : Bool) (l : List Mention). length l == 0) false lists (new ∷ [])

pub standing-goes-on : StandingGoesOn
standing-goes-on ss g lists new e =
    let found : round_over ss g (length lists + 1) (joined lists) ≡ Found new = round-is-next ss g lists ∙ e in
    let known : distinct (joined (lists ++ new ∷ [])) ≡ distinct (joined lists) ++ new =
    ap distinct (joined-snoc lists new) ∙ distinct-after ss g (length lists + 1) (joined lists) new found in
    ap (λ n. make n (ends_empty (lists ++ new ∷ [])) (distinct (joined (lists ++ new ∷ [])))) (length_push lists new)
    ∙ ap₂ (make (length lists + 1)) (last-decides lists new) known

pub phase-is-at : PhaseIsAt
unfolding phase
phase-is-at first limit lists = refl

-- ## Mention by mention

pub met-in-state : MetInState
met-in-state mark state m h =
    let all : take mark state ++ drop mark state ≡ state = take-append-drop mark state in
    let more : take mark state ++ (drop mark state ++ m ∷ []) ≡ state ++ m ∷ [] = sym (append_assoc (take mark state) (drop mark state) (m ∷ [])) ∙ ap (λ ms. ms ++ m ∷ []) all in
    let found : drop mark state ++ m ∷ [] ≡ drop mark (state ++ m ∷ []) = sym (drop-append-le mark state (m ∷ []) h) in
    let weighed' : (ms new : List Mention) → RoundResult = λ ms new. cond (nat_lt most_weight (weight ms)) (TooMany (weight ms)) (Found new) in
    ap₂ (λ b r. cond b (Found (drop mark state)) r) (ap (λ ms. is_among ms m) all) (ap₂ weighed' more found)
