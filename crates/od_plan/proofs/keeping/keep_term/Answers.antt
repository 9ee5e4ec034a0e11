use Rattle.std.proofs.Common.{◌≡◌, ℕ, List, ◌∙◌, ap, sym}
use Rattle.std.specs.Prelude.{Option, None, slice_get}
use Rattle.od_search.specs.Posted.{has_posting}
use Rattle.od_plan.specs.Found.{is_posted, list_or_none}
use Rattle.od_plan.proofs.Filters.{none-kept}
use Rattle.od_plan.proofs.keeping.keep_term.Goals as goal

pub returns-in-None : goal.returns-in-None
returns-in-None c =
    let none : slice_get c.args.lists.now c.args.number ≡ None = sym c.in-None.ensures in
    c.new.ensures.items
    ∙ none-kept (is_posted c.args.lists.now c.args.number) (λ i. ap (λ (o : Option (List (ℕ × ℕ))). has_posting (list_or_none o) i) none) c.args.sentences.now
