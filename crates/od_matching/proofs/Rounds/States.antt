-- States of mentions.
use Rattle.std.proofs.Common.{◌≡◌, ◌+◌, List, [], ◌∷◌, ◌++◌, length, Bool, true, false, cond, refl, ap, ◌∙◌, arith}
use Rattle.std.proofs.lemmas.List.Sums.{fold-append}
use Rattle.od_extraction.specs.declared.mention.Mention.{Mention}
use Rattle.od_extraction.specs.Mentions.{is_among, with_new}
use Rattle.od_extraction.specs.Weight.{weight}
use Rattle.od_index.specs.Ascending.{pair_cmp}
use Rattle.od_index.proofs.Orders.{one-ascending, pairs-exact}
use Rattle.od_index.proofs.Placed.{ascending-is}
use Rattle.od_matching.specs.Rounds.Laws.{StatesGrow, WeightGrows, OneListOfSentences, SentencesAreComputed}
use Rattle.od_matching.specs.Rounds.States.{IsState, places_with}
use Rattle.od_matching.proofs.Rounds.Weights.{weight-append}

with-more : (state : List Mention) (m : Mention) (b : Bool) → is_among state m ≡ b → IsState state → IsState (cond b state (state ++ m ∷ []))
with-more state m true e h = h
with-more state m false e h = fold-append with_new [] state (m ∷ []) ∙ ap (λ l. with_new l m) h ∙ ap (λ b. cond b state (state ++ m ∷ [])) e

pub states-grow : StatesGrow
states-grow state m h = with-more state m (is_among state m) refl h

weight-with : (state : List Mention) (m : Mention) (b : Bool) → weight (cond b state (state ++ m ∷ [])) ≡ cond b (weight state) (weight state + (1 + length m.parts))
weight-with state m true = refl
weight-with state m false = weight-append state (m ∷ []) ∙ (omega arith)

pub weight-grows : WeightGrows
weight-grows state m = weight-with state m (is_among state m)

pub one-list : OneListOfSentences
one-list label ms a b p q = one-ascending pair_cmp pairs-exact (places_with label ms) a b p q

pub sentences-computed : SentencesAreComputed
sentences-computed label ms = ascending-is pair_cmp pairs-exact (places_with label ms)
