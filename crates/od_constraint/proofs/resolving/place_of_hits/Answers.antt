use Rattle.std.proofs.Common.{ℕ, List, Option, sym, subst}
use Rattle.std.specs.Prelude.{IfSome}
use Rattle.od_asked.specs.Expressions.{expression_of}
use Rattle.od_pattern.specs.declared.pattern.Value.{Value}
use Rattle.od_pattern.specs.declared.pattern.Value.TheVariants.{Regex}
use Rattle.od_constraint.specs.Hits.{HasHits}
use Rattle.od_constraint.specs.Noted.{AreNoted}
use Rattle.od_constraint.specs.Runners.{patterns_of, HaveAll}
use Rattle.od_constraint.proofs.HitLemmas.{HasHits-last}
use Rattle.od_constraint.proofs.NoteLemmas.{AreNoted-kept, noted_kept}
use Rattle.od_constraint.proofs.resolving.place_of_hits.Goals as goal

pub place-runner-requires : goal.place-runner-requires
place-runner-requires g c = (subst (λ (v : Value). HaveAll c.args.runners.now (expression_of v)) c.in-Regex.is c.requires.has).0

pub returns-in-Some-clause-place : goal.returns-in-Some-clause-place
returns-in-Some-clause-place g c =
    let table = c.args.table.now in
    let hits = c.args.tested.now.hits.items in
    let text = c.in-Regex.expression in
    subst (λ (v : Value). HasHits table hits c.args.field v c.in-Some.place) (sym c.in-Regex.is)
    (subst (λ (o : Option ℕ). IfSome o (HasHits table hits c.args.field (Regex text))) c.in-Some.is
    (c.noted_place.ensures table hits (patterns_of c.args.runners.now) text
    (subst (AreNoted table hits (patterns_of c.args.runners.now)) (sym c.deref.ensures.value) c.requires.noted) c.place-runner.ensures))

pub returns-in_ok-place-in-Regex-clause-place : goal.returns-in_ok-place-in-Regex-clause-place
returns-in_ok-place-in-Regex-clause-place g c =
    HasHits-last c.args.table.now c.args.tested.now.hits.items c.put_hits-in-Regex.new.hits.items c.in_ok-hits-in-Regex.hits c.args.field c.args.value.now c.in_ok-place-in-Regex.place
    c.in_ok-place-in-Regex.ensures.0 c.in_ok-place-in-Regex.ensures.1 c.in_ok-hits-in-Regex.ensures.hits

pub returns-in_ok-hits-in-Plain-clause-noted : goal.returns-in_ok-hits-in-Plain-clause-noted
returns-in_ok-hits-in-Plain-clause-noted g c =
    noted_kept c.put_hits.result c.args.table.now c.args.tested.now.hits.items c.put_hits.new.hits.items c.in_ok-hits-in-Plain.hits (patterns_of c.args.runners.now)
    (patterns_of c.hits_of.new.runners) c.args.tested.now.noted.items c.put_hits.ensures c.in_ok-hits-in-Plain.ensures.patterns c.requires.noted

pub returns-in_ok-place-in-Regex-clause-noted : goal.returns-in_ok-place-in-Regex-clause-noted
returns-in_ok-place-in-Regex-clause-noted g c =
    let table = c.args.table.now in
    let patterns = patterns_of c.args.runners.now in
    let old = c.args.tested.now.hits.items in
    let new = c.put_hits-in-Regex.new.hits.items in
    let hits = c.in_ok-hits-in-Regex.hits in
    let grown = c.in_ok-place-in-Regex.ensures.1 in
    let text = c.in-Regex.expression in
    subst (λ (ps : List (List ℕ)). AreNoted table new ps c.note.new.noted.items) (sym c.in_ok-hits-in-Regex.ensures.patterns)
    (c.note.ensures table new patterns text (AreNoted-kept table old new hits patterns _ grown c.requires.noted) c.place-runner.ensures
    (subst (λ (v : Value). HasHits table new c.args.field v c.in_ok-place-in-Regex.place) c.in-Regex.is
    (HasHits-last table old new hits c.args.field c.args.value.now c.in_ok-place-in-Regex.place c.in_ok-place-in-Regex.ensures.0 grown c.in_ok-hits-in-Regex.ensures.hits)))
