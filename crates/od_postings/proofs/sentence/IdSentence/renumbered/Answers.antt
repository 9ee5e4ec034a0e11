-- The numbers stand for the same sentence in the other table.
use Rattle.std.proofs.Common.{◌≡◌, ◌∙◌, List, ap, subst, sym, rules}
use Rattle.std.specs.Arc.{arc_value}
use Rattle.std.specs.List.{AllZip}
use Rattle.od_index.specs.Sentences.{Indexed}
use Rattle.od_index.specs.Terms.{Term}
use Rattle.od_text.specs.Lists.{Each}
use Rattle.od_postings.specs.declared.numbers.TokenNumbers.{TokenNumbers}
use Rattle.od_postings.specs.declared.numbers.EdgeNumbers.{EdgeNumbers}
use Rattle.od_postings.specs.Arrivals.{Renumbers, HasNewToken, HasNewEdge, IsNewToken, IsNewEdge}
use Rattle.od_postings.specs.Numbers.{tokens_of, edges_of, AreNumbers}
use Rattle.od_postings.proofs.NewNumbers.{has-new-tokens, has-new-edges, new-tokens-is, new-tokens-fit, new-edges-is, new-edges-fit}
use Rattle.od_postings.proofs.sentence.IdSentence.renumbered.Goals as goal

pub renumber_tokens-requires : goal.renumber_tokens-requires
renumber_tokens-requires c =
    let old = arc_value c.self.inside.table in
    let table = arc_value c.args.table.now in
    let numbers = c.args.numbers.now in
    let h : Renumbers old table numbers = subst (λ (o : List Term). Renumbers o table numbers) (sym (ap (λ (v : Indexed). v.table) c.self.view_is)) c.requires in
    subst (λ (ts : List TokenNumbers). Each (HasNewToken numbers) ts) (sym c.deref.ensures.value) (has-new-tokens old table numbers h c.self.inside.tokens.items c.self.invariant.tokens)

pub renumber_edges-requires : goal.renumber_edges-requires
renumber_edges-requires c =
    let old = arc_value c.self.inside.table in
    let table = arc_value c.args.table.now in
    let numbers = c.args.numbers.now in
    let h : Renumbers old table numbers = subst (λ (o : List Term). Renumbers o table numbers) (sym (ap (λ (v : Indexed). v.table) c.self.view_is)) c.requires in
    subst (λ (es : List EdgeNumbers). Each (HasNewEdge numbers) es) (sym c.deref-2.ensures.value) (has-new-edges old table numbers h c.self.inside.edges.items c.self.invariant.edges)

pub in_place_of-requires-clause-tokens : goal.in_place_of-requires-clause-tokens
in_place_of-requires-clause-tokens c =
    let old = arc_value c.self.inside.table in
    let table = arc_value c.args.table.now in
    let numbers = c.args.numbers.now in
    let h : Renumbers old table numbers = subst (λ (o : List Term). Renumbers o table numbers) (sym (ap (λ (v : Indexed). v.table) c.self.view_is)) c.requires in
    let zip-token : AllZip (IsNewToken numbers) c.self.inside.tokens.items c.in_ok-tokens.tokens.items = subst (λ xs. AllZip (IsNewToken numbers) xs c.in_ok-tokens.tokens.items) c.deref.ensures.value c.in_ok-tokens.ensures in
    let cloned : arc_value c.in_ok-table.table ≡ table = search rules in
    ap (λ (n : List Term). tokens_of n c.in_ok-tokens.tokens.items) cloned ∙ new-tokens-is old table numbers h c.self.inside.tokens.items c.in_ok-tokens.tokens.items c.self.invariant.tokens zip-token ∙ ap (λ (v : Indexed). v.sentence.tokens) c.self.view_is

pub in_place_of-requires-clause-edges : goal.in_place_of-requires-clause-edges
in_place_of-requires-clause-edges c =
    let old = arc_value c.self.inside.table in
    let table = arc_value c.args.table.now in
    let numbers = c.args.numbers.now in
    let h : Renumbers old table numbers = subst (λ (o : List Term). Renumbers o table numbers) (sym (ap (λ (v : Indexed). v.table) c.self.view_is)) c.requires in
    let zip-edge : AllZip (IsNewEdge numbers) c.self.inside.edges.items c.in_ok-edges.edges.items = subst (λ xs. AllZip (IsNewEdge numbers) xs c.in_ok-edges.edges.items) c.deref-2.ensures.value c.in_ok-edges.ensures in
    let cloned : arc_value c.in_ok-table.table ≡ table = search rules in
    ap (λ (n : List Term). edges_of n c.in_ok-edges.edges.items) cloned ∙ new-edges-is old table numbers h c.self.inside.edges.items c.in_ok-edges.edges.items c.self.invariant.edges zip-edge ∙ ap (λ (v : Indexed). v.sentence.edges) c.self.view_is

pub in_place_of-requires-clause-fits : goal.in_place_of-requires-clause-fits
in_place_of-requires-clause-fits c =
    let old = arc_value c.self.inside.table in
    let table = arc_value c.args.table.now in
    let numbers = c.args.numbers.now in
    let h : Renumbers old table numbers = subst (λ (o : List Term). Renumbers o table numbers) (sym (ap (λ (v : Indexed). v.table) c.self.view_is)) c.requires in
    let zip-token : AllZip (IsNewToken numbers) c.self.inside.tokens.items c.in_ok-tokens.tokens.items = subst (λ xs. AllZip (IsNewToken numbers) xs c.in_ok-tokens.tokens.items) c.deref.ensures.value c.in_ok-tokens.ensures in
    let zip-edge : AllZip (IsNewEdge numbers) c.self.inside.edges.items c.in_ok-edges.edges.items = subst (λ xs. AllZip (IsNewEdge numbers) xs c.in_ok-edges.edges.items) c.deref-2.ensures.value c.in_ok-edges.ensures in
    let cloned : arc_value c.in_ok-table.table ≡ table = search rules in
    let all : AreNumbers table c.in_ok-tokens.tokens.items c.in_ok-edges.edges.items = record {
      tokens = new-tokens-fit old table numbers h c.self.inside.tokens.items c.in_ok-tokens.tokens.items c.self.invariant.tokens zip-token;
      edges = new-edges-fit old table numbers h c.self.inside.edges.items c.in_ok-edges.edges.items c.self.invariant.edges zip-edge;
    } in
    subst (λ (n : List Term). AreNumbers n c.in_ok-tokens.tokens.items c.in_ok-edges.edges.items) (sym cloned) all
