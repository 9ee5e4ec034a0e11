-- Views: the first documents of some segments.
use Rattle.std.specs.Prelude.{ℕ, zero, suc, ◌+◌, List, [], ◌∷◌, ◌++◌, map, filter, nat_lt, slice_get, Option, None, option_map}
use Rattle.std.specs.List.{range_with_len}
use Rattle.od_index.specs.Sites.{Site, later}
use Rattle.od_index.specs.Segments.{Stored, size, sites_after}

-- segments, and how many of their documents are seen
pub record Seen : Type 0 where
  pub segments : List Stored
  pub documents : ℕ

-- the sentences of the documents that are seen
abbrev pub sites_seen : Seen → List Site
sites_seen v = filter (λ site. nat_lt site.document v.documents) (sites_after 0 v.segments)

-- the number of a segment, and of a sentence in it
abbrev pub Place : Type 0
Place = ℕ × ℕ

-- the same place, with one segment more before its own
abbrev pub behind : Place → Place
behind p = (suc p.0, p.1)

-- all places of segments, in order
abbrev pub places : List Stored → List Place
places [] = []
places (s ∷ rest) = map (λ i. (0, i)) (range_with_len 0 (size s)) ++ map behind (places rest)

-- the sentence at a place of segments that stand behind so many documents, where there is one
abbrev pub site_from : ℕ → List Stored → ℕ → ℕ → Option Site
site_from before [] n i = None
site_from before (s ∷ rest) zero i = option_map (later before) (slice_get s.sites i)
site_from before (s ∷ rest) (suc n) i = site_from (before + s.documents) rest n i

-- the sentence at a place, numbered among the documents of all segments
abbrev pub site_at : List Stored → Place → Option Site
site_at segments p = site_from 0 segments p.0 p.1
