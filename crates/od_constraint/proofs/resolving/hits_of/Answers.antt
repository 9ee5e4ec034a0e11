use Rattle.std.proofs.Common.{ℕ, List, sym, subst}
use Rattle.std.specs.Prelude.{IfSome, IfNone, Contains}
use Rattle.od_index.specs.Tables.{IsNumber}
use Rattle.od_pattern.specs.declared.pattern.Value.{Value}
use Rattle.od_constraint.specs.declared.hits.Hits.TheVariants.{One, Run}
use Rattle.od_constraint.specs.Hits.{AreHits}
use Rattle.od_constraint.proofs.HitLemmas.{plain_hits, run_hits}
use Rattle.od_constraint.proofs.resolving.hits_of.Goals as goal

pub returns-in-Plain-clause-hits : goal.returns-in-Plain-clause-hits
returns-in-Plain-clause-hits g c =
    let table = c.args.table.now in
    let field = c.args.field in
    let number = c.number.result in
    subst (λ (v : Value). AreHits table field v (One number)) (sym c.in-Plain.is)
    (plain_hits table field c.in-Plain.text number c.len-len.ensures.ascends
    (subst (λ (t : List ℕ). IfSome number (IsNumber table field t)) c.get.ensures c.number.ensures.some)
    (subst (λ (t : List ℕ). IfNone number (Contains table (field, t) → ⊥)) c.get.ensures c.number.ensures.none))

pub returns-in_ok-fits-in-Regex-clause-hits : goal.returns-in_ok-fits-in-Regex-clause-hits
returns-in_ok-fits-in-Regex-clause-hits g c =
    let first = c.texts-first.result.0 in
    subst (λ (v : Value). AreHits c.args.table.now c.args.field v (Run first c.in_ok-fits-in-Regex.fits)) (sym c.in-Regex.is)
    (run_hits c.args.table.now c.args.field c.in-Regex.expression first c.texts-first.result.1.now c.in_ok-fits-in-Regex.fits.items c.texts-first.ensures.has
    c.in_ok-fits-in-Regex.ensures.truths)
