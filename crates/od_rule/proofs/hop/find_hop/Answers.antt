use Rattle.std.proofs.Common.{◌≡◌, ℕ, ◌+◌, ◌∷◌, [], List, length, ap, refl, sym, ◌∙◌, subst}
use Rattle.std.specs.Prelude.{Err}
use Rattle.std.specs.List.{AllZip}
use Rattle.od_text.specs.Lists.{Each}
use Rattle.od_asked.specs.Asked.{asked_surface}
use Rattle.od_extraction.specs.declared.mention.Match.{Match}
use Rattle.od_matching.specs.Matching.Reach.{nodes}
use Rattle.od_pairing.proofs.Lying.{hop_scans-lie}
use Rattle.od_pairing.proofs.Parts.{one_scan_more}
use Rattle.od_pairing.specs.Hop.{hop_scans}
use Rattle.od_pairing.specs.Scans.{IsScan}
use Rattle.od_pattern.specs.declared.rule.Body.TheVariants.{Basic}
use Rattle.od_rule.specs.Codes.{body_surfaces, IsPlaced}
use Rattle.od_rule.specs.declared.code.Placed.{Placed}
use Rattle.od_matching.specs.Matching.Scan.{scan_of}
use Rattle.od_rule.proofs.Hops.{nowhere-count, nowhere-last, hop_fits, hop_scanned, hop_within, rest_fits}
use Rattle.od_trails.specs.declared.fault.MatchFault.TheVariants as fault
use Rattle.od_rule.proofs.hop.find_hop.Goals as goal

pub scan_each-requires-clause-rows : goal.scan_each-requires-clause-rows
scan_each-requires-clause-rows c =
    let h = c.args.hop.now in
    hop_within h c.args.words.now.sentence c.args.columns.now.rows c.get-programs.result.now c.requires.columns
    (subst (λ (ps : List Placed). AllZip IsPlaced ps (body_surfaces (Basic h))) (sym c.get-programs.ensures) c.requires.code.programs)

pub pair-requires-clause-one_each : goal.pair-requires-clause-one_each
pair-requires-clause-one_each c =
    let h = c.args.hop.now in
    let s = c.args.words.now.sentence in
    let m = c.args.local.now in
    let rows = c.args.columns.now.rows in
    let n = length (asked_surface h.first) in
    let scans : c.in-Ok.scans ≡ hop_scans h s m =
    c.in-Ok.ensures (body_surfaces (Basic h)) (subst (λ (ps : List Placed). AllZip IsPlaced ps (body_surfaces (Basic h))) (sym c.get-programs.ensures) c.requires.code.programs) (hop_fits h s rows c.requires.columns) ∙ hop_scanned s m h in
    ap length scans ∙ one_scan_more h s m n ∙ ap (λ z. length z + 1) (sym (c.get-moves.ensures ∙ c.requires.code.moves))

pub pair-requires-clause-scans : goal.pair-requires-clause-scans
pair-requires-clause-scans c =
    let h = c.args.hop.now in
    let s = c.args.words.now.sentence in
    let m = c.args.local.now in
    let rows = c.args.columns.now.rows in
    let n = length (asked_surface h.first) in
    let scans : c.in-Ok.scans ≡ hop_scans h s m =
    c.in-Ok.ensures (body_surfaces (Basic h)) (subst (λ (ps : List Placed). AllZip IsPlaced ps (body_surfaces (Basic h))) (sym c.get-programs.ensures) c.requires.code.programs) (hop_fits h s rows c.requires.columns) ∙ hop_scanned s m h in
    subst (λ (z : List (List Match)). Each (IsScan (nodes s)) z) (sym scans) (hop_scans-lie s m h)

pub returns-in-Ok-pair-clause-few : goal.returns-in-Ok-pair-clause-few
returns-in-Ok-pair-clause-few c =
    let h = c.args.hop.now in
    let s = c.args.words.now.sentence in
    let m = c.args.local.now in
    let rows = c.args.columns.now.rows in
    let n = length (asked_surface h.first) in
    let scans : c.in-Ok.scans ≡ hop_scans h s m =
    c.in-Ok.ensures (body_surfaces (Basic h)) (subst (λ (ps : List Placed). AllZip IsPlaced ps (body_surfaces (Basic h))) (sym c.get-programs.ensures) c.requires.code.programs) (hop_fits h s rows c.requires.columns) ∙ hop_scanned s m h in
    (c.in-Ok-pair.ensures.found h m n
    (record { scans_are = scans; codes_are = c.get-moves.ensures ∙ c.requires.code.moves; rows_fit = rest_fits h s rows c.requires.columns })).0

pub returns-in-Ok-pair-clause-found : goal.returns-in-Ok-pair-clause-found
returns-in-Ok-pair-clause-found c =
    let h = c.args.hop.now in
    let s = c.args.words.now.sentence in
    let m = c.args.local.now in
    let rows = c.args.columns.now.rows in
    let n = length (asked_surface h.first) in
    let scans : c.in-Ok.scans ≡ hop_scans h s m =
    c.in-Ok.ensures (body_surfaces (Basic h)) (subst (λ (ps : List Placed). AllZip IsPlaced ps (body_surfaces (Basic h))) (sym c.get-programs.ensures) c.requires.code.programs) (hop_fits h s rows c.requires.columns) ∙ hop_scanned s m h in
    (c.in-Ok-pair.ensures.found h m n
    (record { scans_are = scans; codes_are = c.get-moves.ensures ∙ c.requires.code.moves; rows_fit = rest_fits h s rows c.requires.columns })).1

pub returns-clause-crowded : goal.returns-clause-crowded
returns-clause-crowded c = λ count is.
    let h = c.args.hop.now in
    let s = c.args.words.now.sentence in
    let m = c.args.local.now in
    let rows = c.args.columns.now.rows in
    let n = length (asked_surface h.first) in
    let scans : c.in-Ok.scans ≡ hop_scans h s m =
    c.in-Ok.ensures (body_surfaces (Basic h)) (subst (λ (ps : List Placed). AllZip IsPlaced ps (body_surfaces (Basic h))) (sym c.get-programs.ensures) c.requires.code.programs) (hop_fits h s rows c.requires.columns) ∙ hop_scanned s m h in
    let same : c.in-Err-pair.fault ≡ fault.Crowded count = cc in
    c.in-Err-pair.ensures.crowded count (ap Err same) h m n
    (record { scans_are = scans; codes_are = c.get-moves.ensures ∙ c.requires.code.moves; rows_fit = rest_fits h s rows c.requires.columns })

pub returns-then-starts_nowhere-clause-few : goal.returns-then-starts_nowhere-clause-few
returns-then-starts_nowhere-clause-few c =
    let h = c.args.hop.now in
    let s = c.args.words.now.sentence in
    let m = c.args.local.now in
    let rows = c.args.columns.now.rows in
    let scans : c.in-Ok.scans ≡ hop_scans h s m =
    c.in-Ok.ensures (body_surfaces (Basic h)) (subst (λ (ps : List Placed). AllZip IsPlaced ps (body_surfaces (Basic h))) (sym c.get-programs.ensures) c.requires.code.programs) (hop_fits h s rows c.requires.columns) ∙ hop_scanned s m h in
    let both : hop_scans h s m ≡ [] ∷ (c.if-starts_nowhere.ensures refl).0 = sym scans ∙ sym c.get.ensures ∙ (c.if-starts_nowhere.ensures refl).1 in
    let first : scan_of h.first s m ≡ [] = cc in
    nowhere-count h s m first

pub returns-then-starts_nowhere-clause-found : goal.returns-then-starts_nowhere-clause-found
returns-then-starts_nowhere-clause-found c =
    let h = c.args.hop.now in
    let s = c.args.words.now.sentence in
    let m = c.args.local.now in
    let rows = c.args.columns.now.rows in
    let scans : c.in-Ok.scans ≡ hop_scans h s m =
    c.in-Ok.ensures (body_surfaces (Basic h)) (subst (λ (ps : List Placed). AllZip IsPlaced ps (body_surfaces (Basic h))) (sym c.get-programs.ensures) c.requires.code.programs) (hop_fits h s rows c.requires.columns) ∙ hop_scanned s m h in
    let both : hop_scans h s m ≡ [] ∷ (c.if-starts_nowhere.ensures refl).0 = sym scans ∙ sym c.get.ensures ∙ (c.if-starts_nowhere.ensures refl).1 in
    let first : scan_of h.first s m ≡ [] = cc in
    nowhere-last h s m first ∙ sym c.none.ensures
