use Rattle.std.proofs.Common.{ℕ, List, ◌++◌, ◌∷◌, [], ◌∙◌, sym}
use Rattle.od_index.proofs.Members.{Contains-slice_get}
use Rattle.od_constraint.specs.Places.{ArePlaces}
use Rattle.od_constraint.proofs.PlaceLemmas.{StandAt-later, StandAt-more, equal_names, equal_places, last_place, more_names, name_at, on_err, same_names}
use Rattle.od_constraint.proofs.places.Places.push.Goals as goal

pub add-requires : goal.add-requires
add-requires c = sym c.place.ensures ∙ c.in-None.is

pub returns-in-Some-clause-ok : goal.returns-in-Some-clause-ok
returns-in-Some-clause-ok c = λ texts len h.
    let text = c.args.text.now in
    let own = c.args.self.now in
    record {
      stand = StandAt-later texts (text ∷ []) own.names own.at.items h.stand;
      all = same_names texts own.names text h.all (Contains-slice_get own.names c.in-Some.field-0 text (name_at own.names text c.in-Some.field-0 (sym c.place.ensures ∙ c.in-Some.is)));
    }

pub returns-in_ok-add-in-None-clause-ok : goal.returns-in_ok-add-in-None-clause-ok
returns-in_ok-add-in-None-clause-ok c = λ texts len h.
    let text = c.args.text.now in
    let own = c.args.self.now in
    let more = texts ++ text ∷ [] in
    record {
      stand = equal_places more (own.names ++ text ∷ []) c.add.new.self.names (own.at.items ++ c.args.len ∷ []) c.add.new.self.at.items
          c.in_ok-add-in-None.ensures.names c.in_ok-add-in-None.ensures.places
          (StandAt-more more own.names own.at.items text c.args.len (StandAt-later texts (text ∷ []) own.names own.at.items h.stand) (last_place texts text c.args.len len));
      all = equal_names more (own.names ++ text ∷ []) c.add.new.self.names c.in_ok-add-in-None.ensures.names (more_names texts own.names text h.all);
    }

pub returns-in_err-add-in-None-clause-err : goal.returns-in_err-add-in-None-clause-err
returns-in_err-add-in-None-clause-err c = on_err c.from_residual.result _ (λ (texts : List (List ℕ)) (h : ArePlaces c.args.self.now texts).
    let own = c.args.self.now in
    record {
      stand = equal_places texts own.names c.add.new.self.names own.at.items c.add.new.self.at.items c.in_err-add-in-None.ensures.same_names c.in_err-add-in-None.ensures.same_places h.stand;
      all = equal_names texts own.names c.add.new.self.names c.in_err-add-in-None.ensures.same_names h.all;
    })
