-- Mentions that pass the test of sameness are equal, and equal ones pass it.
use Rattle.std.proofs.Common.{◌≡◌, ℕ, List, refl, ap}
use Rattle.std.specs.Prelude.{Option, Some, None}
use Rattle.std.specs.Bool.{Decides}
use Rattle.std.specs.Cmp.Lexicographic.{pointwise}
use Rattle.std.proofs.lemmas.Bool.Decides.{Decides-and, Decides-eqb}
use Rattle.std.proofs.lemmas.Slice.Eq.{bytes_eq-Decides, slice_eq-Decides}
use Rattle.od_extraction.specs.Mentions.{same_text_or_none, same_part, same_mention}
use Rattle.od_extraction.specs.declared.mention.Mention.{Mention}
use Rattle.od_extraction.specs.declared.mention.Part.{Part}

same_some : {X : Type 0} {x y : X} → Some x ≡ Some y → x ≡ y
same_some e = cc

pub text_or_none-Decides : (a b : Option (List ℕ)) → Decides (same_text_or_none a b) (a ≡ b)
text_or_none-Decides None None = ((λ e. refl), (λ e. refl))
text_or_none-Decides None (Some y) = ((λ e. absurd (cc)), (λ e. absurd (cc)))
text_or_none-Decides (Some x) None = ((λ e. absurd (cc)), (λ e. absurd (cc)))
text_or_none-Decides (Some x) (Some y) = let d = bytes_eq-Decides x y in ((λ e. ap Some (d.0 e)), (λ e. d.1 (same_some e)))

-- equal fields make equal parts
part_of : (a a' : List ℕ) (b b' : Option (List ℕ)) (c c' d d' : ℕ) → a ≡ a' → b ≡ b' → c ≡ c' → d ≡ d'
    → ◌≡◌ {A = Part} (record { name = a; label = b; start = c; end = d }) (record { name = a'; label = b'; start = c'; end = d' })
part_of a a' b b' c c' d d' p q r s = rw (p, q, r, s) refl

pub part-Decides : (p q : Part) → Decides (same_part p q) (p ≡ q)
part-Decides p q =
    let d = Decides-and _ _ (bytes_eq-Decides p.name q.name) (Decides-and _ _ (text_or_none-Decides p.label q.label) (Decides-and _ _ (Decides-eqb p.start q.start) (Decides-eqb p.end q.end))) in (
      (λ e. let k = d.0 e in part_of _ _ _ _ _ _ _ _ k.0 k.1.0 k.1.1.0 k.1.1.1),
      (λ e. d.1 (ap (λ (x : Part). x.name) e, (ap (λ (x : Part). x.label) e, (ap (λ (x : Part). x.start) e, ap (λ (x : Part). x.end) e)))),
    )

pub parts-Decide : (xs ys : List Part) → Decides (pointwise same_part xs ys) (xs ≡ ys)
parts-Decide xs ys = slice_eq-Decides part-Decides xs ys (pointwise same_part xs ys) refl

-- equal fields make equal mentions
mention_of : (a a' b b' c c' d d' : ℕ) (l l' r r' : List ℕ) (p p' : List Part) → a ≡ a' → b ≡ b' → c ≡ c' → d ≡ d' → l ≡ l' → r ≡ r' → p ≡ p'
    → ◌≡◌ {A = Mention} (record { document = a; sentence = b; start = c; end = d; label = l; rule = r; parts = p }) (record { document = a'; sentence = b'; start = c'; end = d'; label = l'; rule = r'; parts = p' })
mention_of a a' b b' c c' d d' l l' r r' p p' q0 q1 q2 q3 q4 q5 q6 = rw (q0, q1, q2, q3, q4, q5, q6) refl

-- two mentions are the same exactly where they are equal
pub mention-Decides : (m n : Mention) → Decides (same_mention m n) (m ≡ n)
unfolding same_mention
mention-Decides m n =
    let d = Decides-and _ _ (Decides-eqb m.document n.document) (Decides-and _ _ (Decides-eqb m.sentence n.sentence) (Decides-and _ _ (Decides-eqb m.start n.start) (Decides-and _ _ (Decides-eqb m.end n.end)
    (Decides-and _ _ (bytes_eq-Decides m.label n.label) (Decides-and _ _ (bytes_eq-Decides m.rule n.rule) (parts-Decide m.parts n.parts)))))) in (
      (λ e. let k = d.0 e in mention_of _ _ _ _ _ _ _ _ _ _ _ _ _ _ k.0 k.1.0 k.1.1.0 k.1.1.1.0 k.1.1.1.1.0 k.1.1.1.1.1.0 k.1.1.1.1.1.1),
      (λ e. d.1 (ap (λ (x : Mention). x.document) e, (ap (λ (x : Mention). x.sentence) e, (ap (λ (x : Mention). x.start) e, (ap (λ (x : Mention). x.end) e, (ap (λ (x : Mention). x.label) e, (ap (λ (x : Mention). x.rule) e, ap (λ (x : Mention). x.parts) e))))))),
    )
