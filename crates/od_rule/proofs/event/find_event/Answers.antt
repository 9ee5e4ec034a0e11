use Rattle.std.proofs.Common.{◌≡◌, ℕ, ◌++◌, ◌∷◌, [], Bool, List, length, map, ap, sym, ◌∙◌, subst, refl, arith}
use Rattle.std.specs.Prelude.{Option, Result, Err}
use Rattle.std.specs.List.{flat_map, AllZip}
use Rattle.od_asked.specs.Asked.{asked_argument, asked_surface}
use Rattle.od_asked.specs.Tables.{RowsFit}
use Rattle.od_event.specs.Arguments.{argument_codes, AreReady}
use Rattle.od_event.specs.Left.{left}
use Rattle.od_event.specs.Sources.{AreSources}
use Rattle.od_event.proofs.Ready.{length-argument_codes}
use Rattle.od_extraction.specs.declared.mention.Match.{Match}
use Rattle.od_extraction.specs.declared.mention.Span.{Span}
use Rattle.od_matching.specs.Matching.Events.{event_mentions}
use Rattle.od_matching.specs.Matching.Rules.{mention_at}
use Rattle.od_matching.specs.Matching.Scan.{scan_of}
use Rattle.od_pattern.specs.declared.rule.Argument.{Argument}
use Rattle.od_rule.specs.Codes.{IsPlaced}
use Rattle.od_rule.specs.declared.code.Placed.{Placed}
use Rattle.od_rule.proofs.Events.{arguments_fit, trigger_fits}
use Rattle.od_rule.proofs.Scanned.{zip_one}
use Rattle.od_trails.specs.declared.fault.MatchFault.TheVariants as fault
use Rattle.od_rule.proofs.event.find_event.Goals as goal

pub event_matches-requires-clause-codes : goal.event_matches-requires-clause-codes
event_matches-requires-clause-codes c =
    ap length c.get-moves.ensures
    ∙ ap length c.requires.code.moves
    ∙ length-argument_codes (length (asked_surface c.args.event.now.trigger)) c.args.event.now.arguments
    ∙ sym (ap length c.get-arguments.ensures)

pub invariant_of-result : goal.invariant_of-result
invariant_of-result c =
    let e = c.args.event.now in
    let s = c.args.words.now.sentence in
    let m = c.args.local.now in
    let rows = c.args.columns.now.rows in
    let n = length (asked_surface e.trigger) in (
      c.in-Ok-links_of.ensures,
      record {
        codes_are = c.requires.code.moves;
        rows_fit = arguments_fit e s rows c.requires.columns;
        sources_are = subst (λ (args : List Argument). AreSources s m args c.in-Ok-sources_of.sources.items) c.get-arguments.ensures c.in-Ok-sources_of.ensures.sources;
      },
      ap length c.requires.code.moves ∙ length-argument_codes n e.arguments,
      c.in-Ok-sources_of.ensures.long ∙ ap length c.get-arguments.ensures,
      c.in-Ok-sources_of.ensures.short,
    )

pub returns-in-Ok-event_matches-clause-few : goal.returns-in-Ok-event_matches-clause-few
returns-in-Ok-event_matches-clause-few c =
    let e = c.args.event.now in
    let s = c.args.words.now.sentence in
    let m = c.args.local.now in
    let rows = c.args.columns.now.rows in
    let n = length (asked_surface e.trigger) in
    c.in-Ok-event_matches.ensures.few e m n (sym c.get-arguments.ensures)
    (c.in-Ok.ensures (0, e.trigger)
    (zip_one IsPlaced c.get.result.now c.index-get-0.result (0, e.trigger) (subst (λ (ps : List Placed). AllZip IsPlaced ps ((0, e.trigger) ∷ [])) (sym c.get.ensures) c.requires.code.programs) c.index-get-0.is)
    (trigger_fits e s rows c.requires.columns))
    (record {
      codes_are = c.get-moves.ensures ∙ c.requires.code.moves ∙ sym (ap (argument_codes n) c.get-arguments.ensures);
      rows_fit = subst (λ (args : List Argument). RowsFit rows s n (flat_map asked_argument args)) (sym c.get-arguments.ensures) (arguments_fit e s rows c.requires.columns);
      sources_are = subst (λ (z : List (Option (List Span))). AreSources s m c.get-arguments.result.now z) (sym c.deref.ensures.value) c.in-Ok-sources_of.ensures.sources;
    })

pub returns-in-Ok-event_matches-clause-found : goal.returns-in-Ok-event_matches-clause-found
returns-in-Ok-event_matches-clause-found c = λ r d k.
    let e = c.args.event.now in
    let s = c.args.words.now.sentence in
    let m = c.args.local.now in
    let rows = c.args.columns.now.rows in
    subst (λ (args : List Argument). map (mention_at r d k) (left s m args c.in-Ok-event_matches.matches) ≡ event_mentions r d k e s m) c.get-arguments.ensures
    (c.in-Ok-event_matches.ensures.found e m r d k (sym c.get-arguments.ensures)
    (c.in-Ok.ensures (0, e.trigger)
    (zip_one IsPlaced c.get.result.now c.index-get-0.result (0, e.trigger) (subst (λ (ps : List Placed). AllZip IsPlaced ps ((0, e.trigger) ∷ [])) (sym c.get.ensures) c.requires.code.programs) c.index-get-0.is)
    (trigger_fits e s rows c.requires.columns)))

pub returns-clause-crowded : goal.returns-clause-crowded
returns-clause-crowded c = λ count is.
    let e = c.args.event.now in
    let s = c.args.words.now.sentence in
    let m = c.args.local.now in
    let rows = c.args.columns.now.rows in
    let n = length (asked_surface e.trigger) in
    let same : c.in-Err-event_matches.fault ≡ fault.Crowded count = cc in
    c.in-Err-event_matches.ensures.crowded count (ap Err same) e m n (sym c.get-arguments.ensures)
    (c.in-Ok.ensures (0, e.trigger)
    (zip_one IsPlaced c.get.result.now c.index-get-0.result (0, e.trigger) (subst (λ (ps : List Placed). AllZip IsPlaced ps ((0, e.trigger) ∷ [])) (sym c.get.ensures) c.requires.code.programs) c.index-get-0.is)
    (trigger_fits e s rows c.requires.columns))
    (record {
      codes_are = c.get-moves.ensures ∙ c.requires.code.moves ∙ sym (ap (argument_codes n) c.get-arguments.ensures);
      rows_fit = subst (λ (args : List Argument). RowsFit rows s n (flat_map asked_argument args)) (sym c.get-arguments.ensures) (arguments_fit e s rows c.requires.columns);
      sources_are = subst (λ (z : List (Option (List Span))). AreSources s m c.get-arguments.result.now z) (sym c.deref.ensures.value) c.in-Ok-sources_of.ensures.sources;
    })
