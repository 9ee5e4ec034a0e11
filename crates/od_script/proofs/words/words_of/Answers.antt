use Rattle.std.proofs.Common.{◌∙◌, ◌∷◌, ap}
use Rattle.od_text.proofs.Cuts.{some_pieces}
use Rattle.od_script.proofs.Folds.{five_words}
use Rattle.od_script.proofs.words.words_of.Goals as goal

pub returns-in-Some-cut_space-3 : goal.returns-in-Some-cut_space-3
returns-in-Some-cut_space-3 c =
    five_words c.in-Some.first.now c.in-Some-cut_space.second.now c.in-Some-cut_space-2.third.now c.in-Some-cut_space-3.field-0.0.now _ _
    (some_pieces 32 c.in-Some-cut_space-3.field-0.1.now)
    (c.in-Some.ensures.parts.0 ∙ ap (λ ws. c.in-Some.first.now ∷ ws) (c.in-Some-cut_space.ensures.parts.0 ∙ ap (λ ws. c.in-Some-cut_space.second.now ∷ ws) (c.in-Some-cut_space-2.ensures.parts.0 ∙ ap (λ ws. c.in-Some-cut_space-2.third.now ∷ ws) c.in-Some-cut_space-3.ensures.parts.0)))
