-- What is left of what an event rule finds, one match fewer.
use Rattle.std.proofs.Common.{◌≡◌, ℕ, ◌+◌, Bool, List, [], ◌∷◌, ◌++◌, length, refl, sym, ◌∙◌, ap, subst, arith}
use Rattle.std.specs.Prelude.{Option, Some, None}
use Rattle.std.specs.Option.{option_to_list}
use Rattle.std.specs.List.{flat_map}
use Rattle.od_asked.proofs.Fits.{fit_left, fit_right_at, table_fits}
use Rattle.od_asked.specs.Asked.{asked_argument, asked_event, asked_surface}
use Rattle.od_asked.specs.Tables.{RowsFit, columns_of}
use Rattle.od_document.specs.declared.sentence.Sentence.{Sentence}
use Rattle.od_event.specs.Left.{IsNextOf}
use Rattle.od_extraction.specs.declared.mention.Match.{Match}
use Rattle.od_pattern.specs.declared.rule.EventRule.{EventRule}

pub next_items : (found : Option Match) (old new : List Match) → IsNextOf found old new → old ≡ option_to_list found ++ new
next_items None old new next = next.0 ∙ sym next.1
next_items (Some first) old new next = next

pub next_end : (found : Option Match) (old new : List Match) → IsNextOf found old new → found ≡ None → old ≡ []
next_end None old new next none = next.0
next_end (Some first) old new next none = absurd (let no : Some first ≡ None = none in cc)

-- the table of an event rule has the rows of its trigger, and behind them those of its arguments
pub trigger_fits : (e : EventRule) (s : Sentence) (rows : List (List Bool)) → rows ≡ columns_of s (asked_event e) → RowsFit rows s 0 (asked_surface e.trigger)
trigger_fits e s rows is =
    fit_left rows s 0 (asked_surface e.trigger) (flat_map asked_argument e.arguments)
    (subst (λ (z : List (List Bool)). RowsFit z s 0 (asked_event e)) (sym is) (table_fits s (asked_event e)))

pub arguments_fit : (e : EventRule) (s : Sentence) (rows : List (List Bool)) → rows ≡ columns_of s (asked_event e)
    → RowsFit rows s (length (asked_surface e.trigger)) (flat_map asked_argument e.arguments)
arguments_fit e s rows is =
    fit_right_at rows s 0 (length (asked_surface e.trigger)) (asked_surface e.trigger) (flat_map asked_argument e.arguments) (omega arith)
    (subst (λ (z : List (List Bool)). RowsFit z s 0 (asked_event e)) (sym is) (table_fits s (asked_event e)))
