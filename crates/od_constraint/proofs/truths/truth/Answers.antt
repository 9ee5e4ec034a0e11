use Rattle.std.proofs.Common.{◌≡◌, ◌∙◌, Bool, [], ◌∷◌, ap, sym, subst, append-nil, List, rules}
use Rattle.std.specs.Global.{Vec}
use Rattle.od_asked.specs.Asked.{at_tokens}
use Rattle.od_asked.specs.Tables.{truths}
use Rattle.od_document.specs.declared.sentence.Sentence.{Sentence}
use Rattle.od_index.specs.Terms.{Term}
use Rattle.od_constraint.specs.Asking.{Asking}
use Rattle.od_constraint.specs.declared.hits.Hits.{Hits}
use Rattle.od_constraint.specs.declared.steps.Step.{Step}
use Rattle.od_constraint.specs.Rows.{rows_of, stacked}
use Rattle.od_constraint.specs.Steps.{Part, AreStepsOf, parts}
use Rattle.od_constraint.proofs.PartRows.{parts_row}
use Rattle.od_constraint.proofs.StackLemmas.{only_row}
use Rattle.od_constraint.proofs.truths.truth.Goals as goal

-- the steps as they are read, over the sentence's table
read_steps : (a : Asking) (table : List Term) (hits read_hits : List Hits) (steps read : List Step) → a.table ≡ table → read_hits ≡ hits → read ≡ steps
    → AreStepsOf a.table hits steps (parts a.constraint) [] → AreStepsOf table read_hits read (parts a.constraint) []
read_steps a table hits read_hits steps read e f g own =
    subst (λ (t : List Term). AreStepsOf t read_hits read (parts a.constraint) []) e
    (subst (λ (h : List Hits). AreStepsOf a.table h read (parts a.constraint) []) (sym f) (subst (λ (s : List Step). AreStepsOf a.table hits s (parts a.constraint) []) (sym g) own))

-- the rows that they leave
whole : (s : Sentence) (a : Asking) (table : List Term) (hits read_hits : List Hits) (steps read : List Step) (rows : List (Vec Bool)) → a.table ≡ table → read_hits ≡ hits → read ≡ steps
    → AreStepsOf a.table hits steps (parts a.constraint) [] → ((ps : List Part) → AreStepsOf table read_hits read ps [] → stacked rows ≡ rows_of s ps)
    → stacked rows ≡ truths s (at_tokens a.constraint) ∷ []
whole s a table hits read_hits steps read rows e f g own walked =
    walked (parts a.constraint) (read_steps a table hits read_hits steps read e f g own)
    ∙ ap (rows_of s) (sym (append-nil (parts a.constraint))) ∙ parts_row s a.constraint []

pub walk-requires : goal.walk-requires
walk-requires c =
    let asked = c.args.resolved.now in
    let inside = c.resolved.inside in
    let own = subst (λ (v : Asking). AreStepsOf v.table inside.hits.items inside.steps.items (parts v.constraint) []) c.resolved.view_is c.resolved.invariant in
    (parts asked.constraint, read_steps asked _ _ _ _ _ c.requires c.deref-2.ensures.value c.deref.ensures.value own)

pub unreachable-requires : goal.unreachable-requires
unreachable-requires c =
    let s = c.args.sentence.now.sentence in
    let asked = c.args.resolved.now in
    let inside = c.resolved.inside in
    let own = subst (λ (v : Asking). AreStepsOf v.table inside.hits.items inside.steps.items (parts v.constraint) []) c.resolved.view_is c.resolved.invariant in
    let rows = c.in_ok-rows.rows.items in
    let all : stacked rows ≡ truths s (at_tokens asked.constraint) ∷ [] = whole s asked _ _ _ _ _ rows c.requires c.deref-2.ensures.value c.deref.ensures.value own c.in_ok-rows.ensures in
    let none : rows ≡ [] = search rules in
    let not_one : [] ≡ truths s (at_tokens asked.constraint) ∷ [] = sym (ap stacked none) ∙ all in
    absurd (cc)

pub returns : goal.returns
returns c =
    let s = c.args.sentence.now.sentence in
    let asked = c.args.resolved.now in
    let inside = c.resolved.inside in
    let own = subst (λ (v : Asking). AreStepsOf v.table inside.hits.items inside.steps.items (parts v.constraint) []) c.resolved.view_is c.resolved.invariant in
    let rows = c.in_ok-rows.rows.items in
    let all : stacked rows ≡ truths s (at_tokens asked.constraint) ∷ [] = whole s asked _ _ _ _ _ rows c.requires c.deref-2.ensures.value c.deref.ensures.value own c.in_ok-rows.ensures in
    only_row rows c.pop.new.self.items c.in-Some.row (truths s (at_tokens asked.constraint)) c.in-Some.ensures.items all
