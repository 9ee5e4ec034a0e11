-- Parts, mentions and lists: what is written is read again, and what is read is written so.
use Rattle.std.proofs.Common.{◌≡◌, ℕ, zero, suc, ◌<◌, ◌≤◌, cond, ltb, leb, List, [], ◌∷◌, ◌++◌, length, Option, Some, None, Result, Ok, Err, refl, sym, ap, subst, ◌∙◌, append_assoc, append-nil, arith}
use Rattle.std.specs.Prelude.{flat_map, IfSome}
use Rattle.std.proofs.lemmas.Bool.{ltb-false, le-ltb, leb-false, lt-leb}
use Rattle.od_extraction.specs.declared.mention.Mention.{Mention}
use Rattle.od_extraction.specs.declared.mention.Part.{Part}
use Rattle.od_stored.specs.declared.fault.CodecFault.{CodecFault}
use Rattle.od_stored.specs.declared.fault.CodecFault.TheVariants as fault
use Rattle.od_stored.specs.declared.limits.TheConstants.{NUMBER_END}
use Rattle.od_stored.specs.Laws.{AreBytes, ReadsListsBack, WritesListsAsRead, NoListBeginsAnother}
use Rattle.od_stored.specs.Numbers.{number_bytes}
use Rattle.od_stored.specs.Steps.{◌>>=◌, in_a_row}
use Rattle.od_stored.specs.Texts.{place, number_at, IsText, text_bytes, text_at}
use Rattle.od_stored.specs.Mentions.{label_bytes, part_bytes, counted, mention_bytes, list_bytes, IsPart, IsMention, IsList}
use Rattle.od_stored.specs.ReadMentions.{label_at, part_end_at, mention_end_at, part_at, counted_at, mention_at, ended, list_read}
use Rattle.od_stored.proofs.NumberLaws.{bind_ok, guard_ok, ok_is, AreBytes-rest, Takes}
use Rattle.od_stored.proofs.TextLaws.{Takes-then, at_again, at_takes, text_again, text_takes, Again, Taking, row_again, TakesRow, row_takes}

-- ## labels

label_again : (total : ℕ) (label : Option (List ℕ)) (rest : List ℕ) → IfSome label IsText → label_at total (label_bytes label ++ rest) ≡ Ok (label, rest)
unfolding label_at
label_again total None rest is = refl
label_again total (Some text) rest is = rw (text_again total text rest is) refl

label_takes : (total : ℕ) (bytes : List ℕ) (label : Option (List ℕ)) (rest : List ℕ) → AreBytes bytes → label_at total bytes ≡ Ok (label, rest) → Takes bytes (label_bytes label) rest × IfSome label IsText
unfolding label_at
label_takes total [] label rest fits e = absurd (cc)
label_takes total (zero ∷ bytes) label rest fits e =
    subst (λ (x : Option (List ℕ) × List ℕ). Takes (0 ∷ bytes) (label_bytes x.0) x.1 × IfSome x.0 IsText) (ok_is {E = CodecFault} (None, bytes) (label, rest) e) (record { parts = refl; rest_fits = AreBytes-rest 0 bytes fits }, tt)
label_takes total (suc zero ∷ bytes) label rest fits e =
    let b = bind_ok (text_at total bytes) (λ text. Ok (Some text.0, text.1)) (label, rest) e in
    let t = text_takes total bytes b.0.0 b.0.1 (AreBytes-rest 1 bytes fits) b.1 in
    subst (λ (x : Option (List ℕ) × List ℕ). Takes (1 ∷ bytes) (label_bytes x.0) x.1 × IfSome x.0 IsText) (ok_is {E = CodecFault} (Some b.0.0, b.0.1) (label, rest) b.2) (record { parts = ap (λ (x : List ℕ). 1 ∷ x) t.0.parts; rest_fits = t.0.rest_fits }, t.1)
label_takes total (suc (suc b) ∷ bytes) label rest fits e = absurd (cc)

-- ## ends of spans

part_end_again : (total start end : ℕ) (rest : List ℕ) → start ≤ end → end < NUMBER_END → part_end_at total start (number_bytes end ++ rest) ≡ Ok (end, rest)
unfolding part_end_at
part_end_again total start end rest le lt = rw (at_again total end rest lt, le-ltb end start le) refl

part_end_takes : (total start : ℕ) (bytes : List ℕ) (end : ℕ) (rest : List ℕ) → AreBytes bytes → part_end_at total start bytes ≡ Ok (end, rest) → Takes bytes (number_bytes end) rest × (start ≤ end) × (end < NUMBER_END)
unfolding part_end_at
part_end_takes total start bytes end rest fits e =
    let b = bind_ok (number_at total bytes) (λ found. cond (ltb found.0 start) (Err (fault.BadSpan (place total bytes))) (Ok found)) (end, rest) e in
    let g = guard_ok (ltb b.0.0 start) (fault.BadSpan (place total bytes)) b.0 (end, rest) b.2 in
    let t = at_takes total bytes b.0.0 b.0.1 fits b.1 in
    subst (λ (x : ℕ × List ℕ). Takes bytes (number_bytes x.0) x.1 × (start ≤ x.0) × (x.0 < NUMBER_END)) g.1 (t.0, ltb-false _ _ g.0, t.1)

mention_end_again : (total start end : ℕ) (rest : List ℕ) → start < end → end < NUMBER_END → mention_end_at total start (number_bytes end ++ rest) ≡ Ok (end, rest)
unfolding mention_end_at
mention_end_again total start end rest lt small = rw (at_again total end rest small, lt-leb end start lt) refl

mention_end_takes : (total start : ℕ) (bytes : List ℕ) (end : ℕ) (rest : List ℕ) → AreBytes bytes → mention_end_at total start bytes ≡ Ok (end, rest) → Takes bytes (number_bytes end) rest × (start < end) × (end < NUMBER_END)
unfolding mention_end_at
mention_end_takes total start bytes end rest fits e =
    let b = bind_ok (number_at total bytes) (λ found. cond (leb found.0 start) (Err (fault.BadSpan (place total bytes))) (Ok found)) (end, rest) e in
    let g = guard_ok (leb b.0.0 start) (fault.BadSpan (place total bytes)) b.0 (end, rest) b.2 in
    let t = at_takes total bytes b.0.0 b.0.1 fits b.1 in
    subst (λ (x : ℕ × List ℕ). Takes bytes (number_bytes x.0) x.1 × (start < x.0) × (x.0 < NUMBER_END)) g.1 (t.0, leb-false _ _ g.0, t.1)

-- ## parts

part_again : (total : ℕ) → Again (part_at total) part_bytes IsPart
unfolding part_at part_bytes
part_again total p rest is =
    let regrouped : part_bytes p ++ rest ≡ text_bytes p.name ++ (label_bytes p.label ++ (number_bytes p.start ++ (number_bytes p.end ++ rest))) =
    append_assoc (text_bytes p.name) (label_bytes p.label ++ (number_bytes p.start ++ number_bytes p.end)) rest
    ∙ ap (λ (x : List ℕ). text_bytes p.name ++ x) (append_assoc (label_bytes p.label) (number_bytes p.start ++ number_bytes p.end) rest
    ∙ ap (λ (x : List ℕ). label_bytes p.label ++ x) (append_assoc (number_bytes p.start) (number_bytes p.end) rest)) in
    ap (part_at total) regrouped ∙
    rw (
      text_again total p.name (label_bytes p.label ++ (number_bytes p.start ++ (number_bytes p.end ++ rest))) is.name,
      label_again total p.label (number_bytes p.start ++ (number_bytes p.end ++ rest)) is.label,
      at_again total p.start (number_bytes p.end ++ rest) (omega (arith, is.span, is.small)),
      part_end_again total p.start p.end rest is.span is.small,
    ) refl

-- what is read behind the name, the label and the start of a part
abbrev part_of : ℕ → List ℕ → Option (List ℕ) → ℕ × List ℕ → Result (Part × List ℕ) CodecFault
part_of total name label start = part_end_at total start.0 start.1 >>= λ end. Ok (record { name = name; label = label; start = start.0; end = end.0 }, end.1)

abbrev part_from_label : ℕ → List ℕ → Option (List ℕ) × List ℕ → Result (Part × List ℕ) CodecFault
part_from_label total name label = number_at total label.1 >>= λ start. part_of total name label.0 start

abbrev part_from_name : ℕ → List ℕ × List ℕ → Result (Part × List ℕ) CodecFault
part_from_name total name = label_at total name.1 >>= λ label. part_from_label total name.0 label

part_takes : (total : ℕ) → Taking (part_at total) part_bytes IsPart
unfolding part_at part_bytes
part_takes total bytes p rest fits e =
    let a = bind_ok (text_at total bytes) (part_from_name total) (p, rest) e in
    let name : List ℕ = a.0.0 in
    let b = bind_ok (label_at total a.0.1) (part_from_label total name) (p, rest) a.2 in
    let label : Option (List ℕ) = b.0.0 in
    let c = bind_ok (number_at total b.0.1) (part_of total name label) (p, rest) b.2 in
    let start : ℕ = c.0.0 in
    let d = bind_ok (part_end_at total start c.0.1) (λ end. Ok (record { name = name; label = label; start = start; end = end.0 }, end.1)) (p, rest) c.2 in
    let end : ℕ = d.0.0 in
    let ta = text_takes total bytes name a.0.1 fits a.1 in
    let tb = label_takes total a.0.1 label b.0.1 ta.0.rest_fits b.1 in
    let tc = at_takes total b.0.1 start c.0.1 tb.0.rest_fits c.1 in
    let td = part_end_takes total start c.0.1 end d.0.1 tc.0.rest_fits d.1 in
    let cd = Takes-then b.0.1 (number_bytes start) c.0.1 (number_bytes end) d.0.1 tc.0 td.0 in
    let bd = Takes-then a.0.1 (label_bytes label) b.0.1 (number_bytes start ++ number_bytes end) d.0.1 tb.0 cd in
    let ad = Takes-then bytes (text_bytes name) a.0.1 (label_bytes label ++ (number_bytes start ++ number_bytes end)) d.0.1 ta.0 bd in
    let made : Part × List ℕ = (record { name = name; label = label; start = start; end = end }, d.0.1) in
    subst (λ (x : Part × List ℕ). Takes bytes (part_bytes x.0) x.1 × IsPart x.0) (ok_is {E = CodecFault} made (p, rest) d.2)
    (ad, record { name = ta.1; label = tb.1; span = td.1; small = td.2 })

-- ## so many items

counted_again : {X : Type 0} (read : List ℕ → Result (X × List ℕ) CodecFault) (written : X → List ℕ) (P : X → Type 0) → Again read written P
    → (total : ℕ) (xs : List X) (rest : List ℕ) → length xs < NUMBER_END → TakesRow P (length xs) xs → counted_at read total (counted written xs ++ rest) ≡ Ok (xs, rest)
unfolding counted_at
counted_again read written P again total xs rest lt each =
    ap (counted_at read total) (append_assoc (number_bytes (length xs)) (flat_map written xs) rest)
    ∙ rw (at_again total (length xs) (flat_map written xs ++ rest) lt) (row_again read written P again xs rest each.each)

counted_takes : {X : Type 0} (read : List ℕ → Result (X × List ℕ) CodecFault) (written : X → List ℕ) (P : X → Type 0) → Taking read written P
    → (total : ℕ) (bytes : List ℕ) (xs : List X) (rest : List ℕ) → AreBytes bytes → counted_at read total bytes ≡ Ok (xs, rest)
    → Takes bytes (counted written xs) rest × (length xs < NUMBER_END) × TakesRow P (length xs) xs
unfolding counted_at
counted_takes {X} read written P taking total bytes xs rest fits e =
    let b = bind_ok (number_at total bytes) (λ count. in_a_row read count.0 count.1) (xs, rest) e in
    let t = at_takes total bytes b.0.0 b.0.1 fits b.1 in
    let r = row_takes read written P taking b.0.0 b.0.1 xs rest t.0.rest_fits b.2 in
    let whole = Takes-then bytes (number_bytes b.0.0) b.0.1 (flat_map written xs) rest t.0 r.0 in (
      subst (λ (n : ℕ). Takes bytes (number_bytes n ++ flat_map written xs) rest) (sym r.1.count) whole,
      omega (arith, r.1.count, t.1),
      record { each = r.1.each; count = refl },
    )

-- ## mentions

mention_again : (total : ℕ) → Again (mention_at total) mention_bytes IsMention
unfolding mention_at mention_bytes
mention_again total m rest is =
    let parts : List ℕ = counted part_bytes m.parts in
    let regrouped : mention_bytes m ++ rest ≡ number_bytes m.document ++ (number_bytes m.sentence ++ (number_bytes m.start ++ (number_bytes m.end ++ (text_bytes m.label ++ (text_bytes m.rule ++ (parts ++ rest)))))) =
    simp append_assoc in
    ap (mention_at total) regrouped ∙
    rw (
      at_again total m.document (number_bytes m.sentence ++ (number_bytes m.start ++ (number_bytes m.end ++ (text_bytes m.label ++ (text_bytes m.rule ++ (parts ++ rest)))))) is.document,
      at_again total m.sentence (number_bytes m.start ++ (number_bytes m.end ++ (text_bytes m.label ++ (text_bytes m.rule ++ (parts ++ rest))))) is.sentence,
      at_again total m.start (number_bytes m.end ++ (text_bytes m.label ++ (text_bytes m.rule ++ (parts ++ rest)))) (omega (arith, is.span, is.small)),
      mention_end_again total m.start m.end (text_bytes m.label ++ (text_bytes m.rule ++ (parts ++ rest))) is.span is.small,
      text_again total m.label (text_bytes m.rule ++ (parts ++ rest)) is.label,
      text_again total m.rule (parts ++ rest) is.rule,
      counted_again (part_at total) part_bytes IsPart (part_again total) total m.parts rest is.count (record { each = is.parts; count = refl }),
    ) refl

-- the numbers of a mention
record Numbers : Type 0 where
  document : ℕ
  sentence : ℕ
  start : ℕ
  end : ℕ

-- what is read behind the rule, the label, the end, the start, the sentence and the document
abbrev mention_of : ℕ → Numbers → List ℕ → List ℕ × List ℕ → Result (Mention × List ℕ) CodecFault
mention_of total n label rule = counted_at (part_at total) total rule.1 >>= λ parts. Ok (record { document = n.document; sentence = n.sentence; start = n.start; end = n.end; label = label; rule = rule.0; parts = parts.0 }, parts.1)

abbrev from_label : ℕ → Numbers → List ℕ × List ℕ → Result (Mention × List ℕ) CodecFault
from_label total n label = text_at total label.1 >>= mention_of total n label.0

abbrev from_end : ℕ → ℕ → ℕ → ℕ → ℕ × List ℕ → Result (Mention × List ℕ) CodecFault
from_end total document sentence start end = text_at total end.1 >>= from_label total (record { document = document; sentence = sentence; start = start; end = end.0 })

abbrev from_start : ℕ → ℕ → ℕ → ℕ × List ℕ → Result (Mention × List ℕ) CodecFault
from_start total document sentence start = mention_end_at total start.0 start.1 >>= from_end total document sentence start.0

abbrev from_sentence : ℕ → ℕ → ℕ × List ℕ → Result (Mention × List ℕ) CodecFault
from_sentence total document sentence = number_at total sentence.1 >>= from_start total document sentence.0

abbrev from_document : ℕ → ℕ × List ℕ → Result (Mention × List ℕ) CodecFault
from_document total document = number_at total document.1 >>= from_sentence total document.0

mention_takes : (total : ℕ) → Taking (mention_at total) mention_bytes IsMention
unfolding mention_at mention_bytes
mention_takes total bytes m rest fits e =
    let a = bind_ok (number_at total bytes) (from_document total) (m, rest) e in
    let b = bind_ok (number_at total a.0.1) (from_sentence total a.0.0) (m, rest) a.2 in
    let c = bind_ok (number_at total b.0.1) (from_start total a.0.0 b.0.0) (m, rest) b.2 in
    let d = bind_ok (mention_end_at total c.0.0 c.0.1) (from_end total a.0.0 b.0.0 c.0.0) (m, rest) c.2 in
    let n : Numbers = record { document = a.0.0; sentence = b.0.0; start = c.0.0; end = d.0.0 } in
    let f = bind_ok (text_at total d.0.1) (from_label total n) (m, rest) d.2 in
    let g = bind_ok (text_at total f.0.1) (mention_of total n f.0.0) (m, rest) f.2 in
    let h = bind_ok (counted_at (part_at total) total g.0.1) (λ parts. Ok (record { document = n.document; sentence = n.sentence; start = n.start; end = n.end; label = f.0.0; rule = g.0.0; parts = parts.0 }, parts.1)) (m, rest) g.2 in
    let ta = at_takes total bytes a.0.0 a.0.1 fits a.1 in
    let tb = at_takes total a.0.1 b.0.0 b.0.1 ta.0.rest_fits b.1 in
    let tc = at_takes total b.0.1 c.0.0 c.0.1 tb.0.rest_fits c.1 in
    let td = mention_end_takes total c.0.0 c.0.1 d.0.0 d.0.1 tc.0.rest_fits d.1 in
    let tf = text_takes total d.0.1 f.0.0 f.0.1 td.0.rest_fits f.1 in
    let tg = text_takes total f.0.1 g.0.0 g.0.1 tf.0.rest_fits g.1 in
    let th = counted_takes (part_at total) part_bytes IsPart (part_takes total) total g.0.1 h.0.0 h.0.1 tg.0.rest_fits h.1 in
    let w7 : List ℕ = counted part_bytes h.0.0 in
    let w6 : List ℕ = text_bytes g.0.0 ++ w7 in
    let w5 : List ℕ = text_bytes f.0.0 ++ w6 in
    let w4 : List ℕ = number_bytes d.0.0 ++ w5 in
    let w3 : List ℕ = number_bytes c.0.0 ++ w4 in
    let w2 : List ℕ = number_bytes b.0.0 ++ w3 in
    let s6 = Takes-then f.0.1 (text_bytes g.0.0) g.0.1 w7 h.0.1 tg.0 th.0 in
    let s5 = Takes-then d.0.1 (text_bytes f.0.0) f.0.1 w6 h.0.1 tf.0 s6 in
    let s4 = Takes-then c.0.1 (number_bytes d.0.0) d.0.1 w5 h.0.1 td.0 s5 in
    let s3 = Takes-then b.0.1 (number_bytes c.0.0) c.0.1 w4 h.0.1 tc.0 s4 in
    let s2 = Takes-then a.0.1 (number_bytes b.0.0) b.0.1 w3 h.0.1 tb.0 s3 in
    let s1 = Takes-then bytes (number_bytes a.0.0) a.0.1 w2 h.0.1 ta.0 s2 in
    let made : Mention × List ℕ = (record { document = a.0.0; sentence = b.0.0; start = c.0.0; end = d.0.0; label = f.0.0; rule = g.0.0; parts = h.0.0 }, h.0.1) in
    subst (λ (x : Mention × List ℕ). Takes bytes (mention_bytes x.0) x.1 × IsMention x.0) (ok_is {E = CodecFault} made (m, rest) h.2)
    (s1, record { document = ta.1; sentence = tb.1; span = td.1; small = td.2; label = tf.1; rule = tg.1; count = th.1; parts = th.2.each })

-- ## lists

pub list_again : ReadsListsBack
unfolding list_read list_bytes
list_again ms is =
    let written : List ℕ = counted mention_bytes ms in
    let total : ℕ = suc (length written) in
    let whole : counted_at (mention_at total) total (written ++ []) ≡ Ok (ms, []) = counted_again (mention_at total) mention_bytes IsMention (mention_again total) total ms [] is.count (record { each = is.mentions; count = refl }) in
    let same : counted_at (mention_at total) total written ≡ Ok (ms, []) = ap (counted_at (mention_at total) total) (sym (append-nil written)) ∙ whole in
    rw same refl

ended_ok : {X : Type 0} (total : ℕ) (x : X × List ℕ) (y : X) → ended total x ≡ Ok y → x ≡ (y, [])
ended_ok total (x, []) y e = ap (λ (z : _). (z, [])) (ok_is {E = CodecFault} x y e)
ended_ok total (x, b ∷ bytes) y e = absurd (cc)

pub list_takes : WritesListsAsRead
unfolding list_read list_bytes
list_takes [] ms fits e = absurd (cc)
list_takes (zero ∷ bytes) ms fits e = absurd (cc)
list_takes (suc zero ∷ bytes) ms fits e =
    let total : ℕ = suc (length bytes) in
    let b = bind_ok (counted_at (mention_at total) total bytes) (λ found. ended total found) ms e in
    let t = counted_takes (mention_at total) mention_bytes IsMention (mention_takes total) total bytes ms [] (AreBytes-rest 1 bytes fits) (b.1 ∙ ap (λ (x : List Mention × List ℕ). Ok x) (ended_ok total b.0 ms b.2)) in
    (ap (λ (x : List ℕ). 1 ∷ x) (t.0.parts ∙ append-nil (counted mention_bytes ms)), record { count = t.1; mentions = t.2.each })
list_takes (suc (suc b) ∷ bytes) ms fits e = absurd (cc)

-- a list and what stands behind it
list_left : (ms : List Mention) (rest : List ℕ) → IsList ms → (total : ℕ) × (list_read (list_bytes ms ++ rest) ≡ ended total (ms, rest))
unfolding list_read list_bytes
list_left ms rest is =
    let written : List ℕ = counted mention_bytes ms in
    let total : ℕ = suc (length (written ++ rest)) in
    (total, rw (counted_again (mention_at total) mention_bytes IsMention (mention_again total) total ms rest is.count (record { each = is.mentions; count = refl })) refl)

pub list_begins_none : NoListBeginsAnother
list_begins_none one other rest is are e =
    let left = list_left one rest is in
    let same : (one, rest) ≡ (other, []) = ended_ok left.0 (one, rest) other (sym left.1 ∙ ap list_read e ∙ list_again other are) in
    (ap (λ (x : List Mention × List ℕ). x.0) same, ap (λ (x : List Mention × List ℕ). x.1) same)
