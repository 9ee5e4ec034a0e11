-- Documents that are committed later.
use Rattle.std.proofs.Common.{◌+◌, [], ◌∷◌, length, map, flat_map, cond, ◌&&◌, ◌==◌, refl, ap, ap₂, ◌∙◌, arith, ne_eqb}
use Rattle.std.proofs.lemmas.List.{take-append-le}
use Rattle.std.proofs.lemmas.List.Concat.{flat_map-append}
use Rattle.od_index.specs.Sites.{later}
use Rattle.od_index.proofs.Numbered.{sites-join}
use Rattle.od_matching.specs.Rounds.Laws.{ItemsJoin, LaterIsNew, LaterAddNothing}
use Rattle.od_matching.specs.Rounds.Round.{items_at, round}
use Rattle.od_matching.specs.Rounds.Sites.{sites}

pub items-join : ItemsJoin
items-join docs more old rule =
    ap (flat_map (items_at old rule)) (sites-join docs more) ∙ flat_map-append (items_at old rule) (sites docs) (map (later (length docs)) (sites more))

pub later-is-new : LaterIsNew
later-is-new n site [] h = refl
later-is-new n site (m ∷ old) h =
    ap₂ (λ b ms. cond (b && m.sentence == site.number) (m ∷ ms) ms) (ne_eqb m.document (n + site.document) (λ e. omega (arith, e, h.0))) (later-is-new n site old h.1)

pub later-add-nothing : LaterAddNothing
later-add-nothing n docs more g r old h = ap (λ ds. round ds g r old) (take-append-le n docs more h)
