use Rattle.std.proofs.Common.{◌≡◌, ℕ, ◌++◌, ◌∷◌, [], Bool, List, length, ap, sym, ◌∙◌, subst}
use Rattle.std.specs.Prelude.{Option}
use Rattle.std.specs.List.{flat_map}
use Rattle.od_asked.specs.Asked.{asked_argument, asked_surface}
use Rattle.od_asked.specs.Tables.{RowsFit}
use Rattle.od_event.specs.Arguments.{argument_codes, AreReady}
use Rattle.od_event.specs.Left.{left, IsNextOf}
use Rattle.od_event.specs.Sources.{AreSources}
use Rattle.od_extraction.specs.declared.mention.Span.{Span}
use Rattle.od_pattern.specs.declared.rule.Argument.{Argument}
use Rattle.od_rule.proofs.Events.{next_end, next_items}
use Rattle.od_rule.proofs.event.EventFound.next.Goals as goal

pub returns-clause-items : goal.returns-clause-items
returns-clause-items c =
    let f = c.self.inside in
    let s = f.words.now.sentence in
    let m = f.local.now in
    let rows = f.columns.now.rows in
    let n = length (asked_surface f.event.now.trigger) in
    let ready = c.self.invariant.1 in
    let next : IsNextOf c.in_ok-found.found (left s m f.event.now.arguments f.matches) (left s m f.event.now.arguments c.next.new.self) =
    subst (λ (args : List Argument). IsNextOf c.in_ok-found.found (left s m args f.matches) (left s m args c.next.new.self)) c.get.ensures
    (c.in_ok-found.ensures.next m n (record {
      codes_are = c.get-2.ensures ∙ ready.codes_are ∙ sym (ap (argument_codes n) c.get.ensures);
      rows_fit = subst (λ (args : List Argument). RowsFit rows s n (flat_map asked_argument args)) (sym c.get.ensures) ready.rows_fit;
      sources_are = subst (λ (args : List Argument). AreSources s m args c.deref.result.now) (sym c.get.ensures)
          (subst (λ (z : List (Option (List Span))). AreSources s m f.event.now.arguments z) (sym c.deref.ensures.value) ready.sources_are);
    })) in
    sym c.self.view_is ∙ next_items c.in_ok-found.found (left s m f.event.now.arguments f.matches) (left s m f.event.now.arguments c.next.new.self) next

pub returns-clause-end : goal.returns-clause-end
returns-clause-end c = λ none.
    let f = c.self.inside in
    let s = f.words.now.sentence in
    let m = f.local.now in
    let rows = f.columns.now.rows in
    let n = length (asked_surface f.event.now.trigger) in
    let ready = c.self.invariant.1 in
    let next : IsNextOf c.in_ok-found.found (left s m f.event.now.arguments f.matches) (left s m f.event.now.arguments c.next.new.self) =
    subst (λ (args : List Argument). IsNextOf c.in_ok-found.found (left s m args f.matches) (left s m args c.next.new.self)) c.get.ensures
    (c.in_ok-found.ensures.next m n (record {
      codes_are = c.get-2.ensures ∙ ready.codes_are ∙ sym (ap (argument_codes n) c.get.ensures);
      rows_fit = subst (λ (args : List Argument). RowsFit rows s n (flat_map asked_argument args)) (sym c.get.ensures) ready.rows_fit;
      sources_are = subst (λ (args : List Argument). AreSources s m args c.deref.result.now) (sym c.get.ensures)
          (subst (λ (z : List (Option (List Span))). AreSources s m f.event.now.arguments z) (sym c.deref.ensures.value) ready.sources_are);
    })) in
    sym c.self.view_is ∙ next_end c.in_ok-found.found (left s m f.event.now.arguments f.matches) (left s m f.event.now.arguments c.next.new.self) next none
