use Rattle.std.proofs.Common.{◌≡◌, ◌+◌, ◌∙◌, ◌++◌, ◌≤◌, List, arith, refl, sym, subst}
use Rattle.od_extraction.specs.declared.mention.Mention.{Mention}
use Rattle.od_extraction.specs.Mentions.{distinct}
use Rattle.od_extraction.specs.Weight.{weight}
use Rattle.od_index.specs.Views.{sites_seen}
use Rattle.od_matching.proofs.Rounds.Weights.{weight-append}
use Rattle.od_rounds.specs.Weighed.{most_kept}
use Rattle.od_rounds.proofs.Rounds.{added-both, both-light, both-unlike}
use Rattle.od_rounds.proofs.session.Session.add.Goals as goal

pub add_all-requires : goal.add_all-requires
add_all-requires c =
    let s = c.self.inside in
    let (grammar, rules, next) = rw (← c.self.view_is) at c.requires.next in
    let light : weight (s.known ++ c.args.found) ≤ most_kept =
    both-light (sites_seen s.view) grammar (s.rounds + 1) s.known c.args.found c.self.invariant.unlike c.self.invariant.light next in
    omega (arith, light, weight-append s.known c.args.found)

pub invariant_of-self-2 : goal.invariant_of-self-2
invariant_of-self-2 c =
    let s = c.self.inside in
    let (grammar, rules, next) = rw (← c.self.view_is) at c.requires.next in
    let same : c.add_all.new.known ≡ s.known ++ c.args.found =
    c.in_ok-add_all.ensures.ok ∙ added-both (sites_seen s.view) grammar (s.rounds + 1) s.known c.args.found c.self.invariant.unlike next in
    record {
      few = c.self.invariant.few;
      asked = c.self.invariant.asked;
      planned = c.self.invariant.planned;
      greatest = c.self.invariant.greatest;
      light = subst (λ (ms : List Mention). weight ms ≤ most_kept) (sym same)
          (both-light (sites_seen s.view) grammar (s.rounds + 1) s.known c.args.found c.self.invariant.unlike c.self.invariant.light next);
      unlike = subst (λ (ms : List Mention). distinct ms ≡ ms) (sym same)
          (both-unlike (sites_seen s.view) grammar (s.rounds + 1) s.known c.args.found c.self.invariant.unlike next);
    }

pub returns-clause-ok : goal.returns-clause-ok
returns-clause-ok c =
    let s = c.self.inside in
    let (grammar, rules, next) = rw (← c.self.view_is) at c.requires.next in
    let same : c.add_all.new.known ≡ s.known ++ c.args.found =
    c.in_ok-add_all.ensures.ok ∙ added-both (sites_seen s.view) grammar (s.rounds + 1) s.known c.args.found c.self.invariant.unlike next in
    rw (same, c.len-quiet.ensures, ← c.self.view_is) refl
