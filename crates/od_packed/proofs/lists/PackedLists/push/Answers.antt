use Rattle.std.proofs.Common.{◌≡◌, ◌++◌, ◌∷◌, [], ℕ, List, length, map, ap, ap₂, ◌∙◌, refl}
use Rattle.od_stored.specs.Pairs.{pair_bytes}
use Rattle.od_packed.specs.Packed.{packed_pairs}
use Rattle.od_packed.specs.PackedLists.{pieces, ArePacked}
use Rattle.od_packed.proofs.Read.{written_is_packed}
use Rattle.od_packed.proofs.Rows.{packed-more, packed-pairs}
use Rattle.od_packed.proofs.lists.PackedLists.push.Goals as goal

abbrev IsMore : goal.In_ok-push → Type 0
IsMore c = ArePacked c.push.new.self c.put_pairs.new.out.items
    × (map packed_pairs (pieces 0 c.push.new.self c.put_pairs.new.out.items)
    ≡ map packed_pairs (pieces 0 c.self.inside.ends c.self.inside.bytes.items) ++ packed_pairs (pair_bytes c.args.pairs.now) ∷ [])

more : (c : goal.In_ok-push) → IsMore c
more c =
    let pairs = c.args.pairs.now in
    packed-more c.self.inside.ends c.self.inside.bytes.items (pair_bytes pairs) c.push.new.self c.put_pairs.new.out.items c.self.invariant
    (written_is_packed (pair_bytes pairs) pairs c.in_ok-put_pairs.ensures.packable refl) c.in_ok-put_pairs.ensures.ok
    (c.in_ok-push.ensures.ok ∙ ap (λ (n : ℕ). c.self.inside.ends ++ n ∷ []) (c.end_of.ensures ∙ ap (λ (b : List ℕ). length b) c.deref.ensures.value))

pub invariant_of-result : goal.invariant_of-result
invariant_of-result c = (more c).0

pub returns : goal.returns
returns c =
    (more c).1
    ∙ ap₂ (λ (xs : List (List (ℕ × ℕ))) (x : List (ℕ × ℕ)). xs ++ x ∷ []) c.self.view_is (packed-pairs c.args.pairs.now c.in_ok-put_pairs.ensures.packable)
