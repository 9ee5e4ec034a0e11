-- Needs, worked out.
use Rattle.std.proofs.Common.{◌≡◌, [], ◌∷◌, refl}
use Rattle.std.specs.Prelude.{false, codes, Some}
use denote.Hole.Carrier.{hidden}
use Rattle.od_need.specs.Needs.{need_constraint, need_surface, need_path, need_of}
use Rattle.od_need.specs.declared.need.Need as need
use Rattle.od_pattern.specs.declared.path.Path as path
use Rattle.od_pattern.specs.declared.pattern.Constraint as constraint
use Rattle.od_pattern.specs.declared.pattern.Constraint.TheBlock.{hidden-the_row-Constraint-0}
use Rattle.od_pattern.specs.declared.pattern.Field.TheVariants.{Lemma, Tag}
use Rattle.od_pattern.specs.declared.pattern.Surface as surface
use Rattle.od_pattern.specs.declared.pattern.Surface.TheBlock.{hidden-the_row-Surface-0, hidden-the_row-Surface-1}
use Rattle.od_pattern.specs.declared.pattern.Value.TheVariants.{Plain}
use Rattle.od_pattern.specs.declared.rule.Body.TheVariants.{Event}
use Rattle.od_pattern.specs.declared.rule.Many.TheVariants.{One, Optional}
use Rattle.od_pattern.specs.declared.rule.Rule.{Rule}

-- `[!tag=NN]` needs nothing
of_negation : need_surface (surface.Token (constraint.Not (constraint.Is Tag (Plain (codes "NN"))))) ≡ need.True
unfolding need_surface need_constraint hidden hidden-the_row-Constraint-0
of_negation = refl

-- `[tag=DT]? [lemma=bark]`
of_sequence :
    need_surface (surface.Seq (
    surface.Repeat (surface.Token (constraint.Is Tag (Plain (codes "DT")))) (record { least = 0; most = Some 1; lazy = false }) ∷
    surface.Token (constraint.Is Lemma (Plain (codes "bark"))) ∷ []))
    ≡ need.And (need.True ∷ need.Term Lemma (codes "bark") ∷ [])
unfolding need_surface need_constraint hidden hidden-the_row-Surface-0 hidden-the_row-Surface-1
of_sequence = refl

-- the trigger `[tag=VBZ]` with the arguments `who:Animal = >nsubj` and `whom:Animal? = >obj`
abbrev deed : Rule
deed = record {
  name = codes "deed";
  label = codes "Deed";
  priority = record { first = 2; last = Some 2 };
  body = Event (record {
    trigger = surface.Token (constraint.Is Tag (Plain (codes "VBZ")));
    arguments =
        record { name = codes "who"; label = Some (codes "Animal"); many = One; path = path.Along (Some (Plain (codes "nsubj"))) } ∷
        record { name = codes "whom"; label = Some (codes "Animal"); many = Optional; path = path.Along (Some (Plain (codes "obj"))) } ∷ [];
  });
}

of_deed : need_of deed
    ≡ need.And (
    need.Term Tag (codes "VBZ") ∷
    need.And (need.Edge (Plain (codes "nsubj")) ∷ need.Label (codes "Animal") ∷ []) ∷
    need.True ∷ [])
unfolding need_surface need_constraint need_path hidden
of_deed = refl
