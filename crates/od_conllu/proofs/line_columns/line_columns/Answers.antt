use Rattle.std.proofs.Common.{◌≡◌, ◌<◌, ℕ, List, [], ◌∷◌, length, refl, arith}
use Rattle.std.specs.Prelude.{None}
use Rattle.od_document.specs.Columns.{line_columns_of}
use Rattle.od_text.proofs.Cuts.{some_pieces}
use Rattle.od_conllu.proofs.line_columns.line_columns.Goals as goal

-- more than ten columns
past_ten : (x0 x1 x2 x3 x4 x5 x6 x7 x8 x9 : List ℕ) (xs : List (List ℕ)) → 0 < length xs → line_columns_of (x0 ∷ x1 ∷ x2 ∷ x3 ∷ x4 ∷ x5 ∷ x6 ∷ x7 ∷ x8 ∷ x9 ∷ xs) ≡ None
past_ten x0 x1 x2 x3 x4 x5 x6 x7 x8 x9 [] h = absurd (omega arith)
past_ten x0 x1 x2 x3 x4 x5 x6 x7 x8 x9 (x ∷ xs) h = refl

pub returns-in-Some : goal.returns-in-Some
returns-in-Some c =
    rw (c.in_ok-id.ensures.parts.0, c.in_ok-form.ensures.parts.0, c.in_ok-lemma.ensures.parts.0, c.in_ok-upos.ensures.parts.0, c.in_ok-xpos.ensures.parts.0, c.in_ok-_feats.ensures.parts.0, c.in_ok-head.ensures.parts.0, c.in_ok-deprel.ensures.parts.0, c.in_ok-_deps.ensures.parts.0, c.in-Some.ensures.parts.0)
    (past_ten c.in_ok-id.id.now c.in_ok-form.form.now c.in_ok-lemma.lemma.now c.in_ok-upos.upos.now c.in_ok-xpos.xpos.now c.in_ok-_feats._feats.now c.in_ok-head.head.now c.in_ok-deprel.deprel.now c.in_ok-_deps._deps.now c.in-Some.field-0.0.now _ (some_pieces 9 c.in-Some.field-0.1.now))
