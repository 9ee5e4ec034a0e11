-- A caller's own marks.
use Rattle.std.proofs.Common.{ℕ, ◌≡◌, ◌==◌, Bool, cond, List, [], ◌∷◌, ◌++◌, ap, ◌∙◌, refl, ne_eqb, append-nil}
use Rattle.std.proofs.lemmas.List.Elements.{filter-append}
use Rattle.od_text.specs.Lists.{Each}
use Rattle.od_mark.specs.declared.mark.Mark.{Mark}
use Rattle.od_mark.specs.Marks.{marks_by}
use Rattle.od_turn.specs.Rule.{NamesOther}
use Rattle.od_turn.specs.Laws.{OwnMarksStay}

-- others' marks are not the caller's
none_of_others : (n : ℕ) (marks : List Mark) → Each (NamesOther n) marks → marks_by n marks ≡ []
none_of_others n [] h = refl
none_of_others n (mark ∷ marks) h = ap (λ (b : Bool). cond b (mark ∷ marks_by n marks) (marks_by n marks)) (ne_eqb mark.caller n h.0) ∙ none_of_others n marks h.1

pub own_stay : OwnMarksStay
own_stay n seen marks h =
    ap (marks_by n) h.1 ∙ (filter-append (λ (m : Mark). m.caller == n) seen h.0 ∙ (ap (λ rest. marks_by n seen ++ rest) (none_of_others n h.0 h.2) ∙ append-nil (marks_by n seen)))
