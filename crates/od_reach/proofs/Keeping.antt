-- A path leads from a token of a sentence to a token of it.
use Rattle.std.proofs.Common.{◌≡◌, ℕ, ◌<◌, List, subst, arith, inl, inr}
use Rattle.std.proofs.lemmas.Option.{slice_get_within, get_or_from_slice_get}
use Rattle.std.specs.Prelude.{Some, slice_get}
use Rattle.od_document.specs.declared.sentence.Sentence.{Sentence}
use Rattle.od_document.specs.declared.token.Edge.{Edge}
use Rattle.od_matching.specs.Matching.Reach.{nodes, leads, leads_on, leads_by}
use Rattle.od_matching.proofs.Matching.Spread.{Keeps, keeps_turned}
use Rattle.od_pattern.specs.declared.path.Path.{Path, Along, Against, Filter, Seq', Alt', Repeat', Row_of-Path, end_of-Path, more_of-Path}

-- an edge of the sentence lies between two of its tokens
edge_ends : (s : Sentence) (i : ℕ) (edge : Edge) → slice_get s.edges i ≡ Some edge → (edge.governor < nodes s) × (edge.dependent < nodes s)
edge_ends s i edge e =
    let lies : (edge' : Edge) → Type 0 = λ edge'. (edge'.governor < nodes s) × (edge'.dependent < nodes s) in
    subst lies (get_or_from_slice_get s.edges i edge edge e) (s.ends i edge (slice_get_within s.edges i edge e))

module _ (s : Sentence) where
  mutual
    unfolding leads leads_on leads_by

    pub keeps : (p : Path) → Keeps (nodes s) (leads s p)
    keeps (Along value) a b h t = let r = edge_ends s t.place t.edge t.is_there in subst (λ (z : ℕ). z < nodes s) t.ends r.1
    keeps (Against value) a b h t = let r = edge_ends s t.place t.edge t.is_there in subst (λ (z : ℕ). z < nodes s) t.ends r.0
    keeps (Filter c) a b h t = let e : b ≡ a = t.1 in omega arith
    keeps (Seq' v row) a b h t = keeps_on row a b h t
    keeps (Alt' v row) a b h t = keeps_by row a b h t
    keeps (Repeat' v (more_of-Path p end_of-Path) least most) a b h t = keeps_turned (nodes s) (leads s p) (keeps p) t.0 a b h t.3

    keeps_on : {m : _} (row : Row_of-Path m) → Keeps (nodes s) (leads_on s row)
    keeps_on end_of-Path a b h t = let e : b ≡ a = t in omega arith
    keeps_on (more_of-Path p rest) a b h t = keeps_on rest t.0 b (keeps p a t.0 h t.1) t.2

    keeps_by : {m : _} (row : Row_of-Path m) → Keeps (nodes s) (leads_by s row)
    keeps_by end_of-Path a b h t = absurd t
    keeps_by (more_of-Path p rest) a b h (inl t) = keeps p a b h t
    keeps_by (more_of-Path p rest) a b h (inr t) = keeps_by rest a b h t
