-- What a round of a grammar finds can be written, and is read back.
use Rattle.std.proofs.Common.{◌≡◌, ℕ, zero, suc, ◌+◌, ◌<◌, ◌≤◌, inl, inr, List, [], ◌∷◌, ◌++◌, length, slice_get, Bool, true, false, ◌||◌, Option, Some, None, refl, sym, ap, ◌∙◌, subst, arith}
use Rattle.std.specs.Prelude.{IsUtf8, IfSome, bytes_eq, codes, nat_le}
use Rattle.std.specs.List.{list_any}
use Rattle.std.proofs.lemmas.Bool.{leb-true}
use Rattle.std.proofs.lemmas.List.Sums.{sum_by-cons}
use Rattle.std.proofs.lemmas.Slice.Eq.{bytes_eq-Decides}
use Rattle.std.proofs.lemmas.Str.{IsUtf8-from_ascii}
use Rattle.od_text.specs.Lists.{Each}
use Rattle.od_text.proofs.Lists.{Each-right, Each-weaker, Each-both}
use Rattle.od_document.specs.declared.doc.Doc.{Doc}
use Rattle.od_document.specs.Size.{size_in_parts}
use Rattle.od_document.specs.declared.sentence.Sentence.{Sentence}
use Rattle.od_extraction.specs.declared.mention.Mention.{Mention}
use Rattle.od_extraction.specs.declared.mention.Part.{Part}
use Rattle.od_extraction.specs.Mentions.{same_text_or_none}
use Rattle.od_extraction.specs.Spans.{PartLiesWithin, LiesIn}
use Rattle.od_extraction.specs.Weight.{weight}
use Rattle.od_language.specs.Identifier.{is_identifier}
use Rattle.od_pattern.specs.declared.grammar.GrammarKind.{GrammarKind}
use Rattle.od_pattern.specs.declared.grammar.GrammarKind.TheVariants.{RuleFile as OfRules, Query}
use Rattle.od_pattern.specs.declared.rule.Argument.{Argument}
use Rattle.od_pattern.specs.declared.rule.Rule.{Rule}
use Rattle.od_rule_text.specs.declared.limits.TheConstants.{RULE_NAME_BYTES}
use Rattle.od_rule_text.proofs.Outcomes.{both}
use Rattle.od_stored.specs.declared.limits.TheConstants.{NUMBER_END}
use Rattle.od_stored.specs.Mentions.{IsPart, IsMention, IsWritablePart, IsWritable}
use Rattle.od_stored.specs.Texts.{IsText}
use Rattle.od_stored.proofs.MentionLaws.{list_again}
use Rattle.od_named.specs.Laws.{GrammarsAreWellNamed, AreUtf8, NamesAreUtf8, RoundsAreWritable, RoundsAreReadBack}
use Rattle.od_named.specs.Named.{body_captures, body_arguments, IsCaptured, IsArgued, is_argued, IsPartOf, IsNamedBy, IsNamed, AreIdentifiers, IsWellCalled, IsWellNamed}
use Rattle.od_named.proofs.Files.{file-names}
use Rattle.od_matching.proofs.Rounds.Found.{round-found}
use Rattle.od_named.proofs.Identifiers.{low_ascii, identifier_short, identifier_utf8}
use Rattle.od_named.proofs.Reading.{Offers, Names, grammar_made}
use Rattle.od_rule_text.specs.declared.rule_file.KeyText.{KeyText}
use Rattle.od_pattern.specs.declared.grammar.Grammar.{Grammar}
use Rattle.od_matching.specs.Rounds.Round.{round}
use Rattle.od_extraction.specs.declared.mention.RoundResult.TheVariants.{Found}
use Rattle.od_named.proofs.Rounds.{rounds_are_named}

-- ## Grammars

-- nothing of names
abbrev Any : List ℕ → Type 0
Any name = Unit {0}

any-items : (items : List (List KeyText)) → Each (Offers Any) items
any-items [] = tt
any-items (item ∷ items) = ((λ name e. tt), any-items items)

any-names : (kind : GrammarKind) (text : List ℕ) → Names Any kind text
any-names OfRules text = λ file e. any-items file.rules
any-names Query text = tt

pub grammars_are_well_named : GrammarsAreWellNamed
grammars_are_well_named kind text room grammar h = (grammar_made Any kind text room grammar (any-names kind text) h).0

utf8-names : (kind : GrammarKind) (text : List ℕ) → IsUtf8 text → Names IsUtf8 kind text
utf8-names OfRules text u = λ file e. file-names text file u e
utf8-names Query text u = IsUtf8-from_ascii (codes "query") (low_ascii (codes "query") (omega arith, (omega arith, (omega arith, (omega arith, (omega arith, tt))))))

pub names_are_utf8 : NamesAreUtf8
names_are_utf8 kind text room grammar u h = (grammar_made IsUtf8 kind text room grammar (utf8-names kind text u) h).1

-- ## Parts

-- a text that is an identifier
text-of : (text : List ℕ) → is_identifier text ≡ true → IsText text
text-of text h = record { short = omega (arith, identifier_short text h); utf8 = identifier_utf8 text h }

pub any-by : {X : Type 0} (test : X → Bool) (P : X → Type 0) (Q : Type 0) → ((x : X) → test x ≡ true → P x → Q) → (xs : List X) → Each P xs → list_any test xs ≡ true → Q
any-by test P Q w [] h e = absurd (cc)
any-by test P Q w (x ∷ xs) h e = by (test x) refl (λ k. any-by test P Q w xs h.1 k) e
  where
    by : (b : Bool) → test x ≡ b → (list_any test xs ≡ true → Q) → (b || list_any test xs) ≡ true → Q
    by true is go k = w x is h.0
    by false is go k = go k

-- name and label of a part can be stored
record HasTexts (p : Part) : Type 0 where
  name : IsText p.name
  label : IfSome p.label IsText

label-of : (own argued : Option (List ℕ)) → same_text_or_none own argued ≡ true → IfSome argued (λ l. is_identifier l ≡ true) → IfSome own IsText
label-of None argued e h = tt
label-of (Some own) None e h = absurd (cc)
label-of (Some own) (Some argued) e h = text-of own (subst (λ (z : List ℕ). is_identifier z ≡ true) (sym ((bytes_eq-Decides own argued).0 e)) h)

captured-texts : (names : List (List ℕ)) (p : Part) → AreIdentifiers names → IsCaptured names p → HasTexts p
captured-texts names p h c = record {
  name = any-by (bytes_eq p.name) (λ name. is_identifier name ≡ true) (IsText p.name)
      (λ name e k. text-of p.name (subst (λ (z : List ℕ). is_identifier z ≡ true) (sym ((bytes_eq-Decides p.name name).0 e)) k)) names h c.name;
  label = subst (λ (o : Option (List ℕ)). IfSome o IsText) (sym c.label) tt;
}

argued-texts : (arguments : List Argument) (p : Part) → Each IsWellCalled arguments → IsArgued arguments p → HasTexts p
argued-texts arguments p h c = any-by (is_argued p) IsWellCalled (HasTexts p)
    (λ a e k. let t = both (bytes_eq p.name a.name) (same_text_or_none p.label a.label) e in record {
      name = text-of p.name (subst (λ (z : List ℕ). is_identifier z ≡ true) (sym ((bytes_eq-Decides p.name a.name).0 t.0)) k.name);
      label = label-of p.label a.label t.1 k.label;
    }) arguments h c

part-texts : (r : Rule) (p : Part) → IsWellNamed r → IsPartOf r.body p → HasTexts p
part-texts r p h (inl c) = captured-texts (body_captures r.body) p h.captures c
part-texts r p h (inr c) = argued-texts (body_arguments r.body) p h.arguments c

-- ## Mentions

-- the texts of a mention can be stored; of its rule's name the length
record HasNames (m : Mention) : Type 0 where
  rule : length m.rule < NUMBER_END
  label : IsText m.label
  parts : Each HasTexts m.parts

by-rule : (r : Rule) (m : Mention) → IsWellNamed r → IsNamedBy r m → HasNames m
by-rule r m h n = record {
  rule = let short : length r.name ≤ RULE_NAME_BYTES = leb-true (length r.name) RULE_NAME_BYTES (both (nat_le 1 (length r.name)) _ h.name).1 in omega (arith, short, ap length n.rule);
  label = text-of m.label (ap is_identifier n.label ∙ h.label);
  parts = Each-weaker (IsPartOf r.body) HasTexts (λ p k. part-texts r p h k) m.parts n.parts;
}

at-middle : {X : Type 0} (P : X → Type 0) (xs front : List X) (x : X) (behind : List X) → xs ≡ front ++ x ∷ behind → Each P xs → P x
at-middle P xs front x behind e h = (Each-right P front (x ∷ behind) (subst (Each P) e h)).0

names-of : (rules : List Rule) (m : Mention) → Each IsWellNamed rules → IsNamed rules m → HasNames m
names-of rules m h n = by-rule n.by m (at-middle IsWellNamed rules n.front n.by n.behind n.rules_are h) n.named

rule-utf8 : (rules : List Rule) (m : Mention) → AreUtf8 rules → IsNamed rules m → IsUtf8 m.rule
rule-utf8 rules m h n = subst IsUtf8 (sym n.named.rule) (at-middle (λ (r : Rule). IsUtf8 r.name) rules n.front n.by n.behind n.rules_are h)

-- no mention of some weighs more than all
one-light : (ms : List Mention) → Each (λ m. length m.parts ≤ weight ms) ms
one-light [] = tt
one-light (m ∷ ms) =
    let all : weight (m ∷ ms) ≡ (1 + length m.parts) + weight ms = sum_by-cons (λ (x : Mention). 1 + length x.parts) m ms in
    (omega (arith, all), Each-weaker (λ (x : Mention). length x.parts ≤ weight ms) (λ (x : Mention). length x.parts ≤ weight (m ∷ ms)) (λ x h. omega (arith, h, all)) ms (one-light ms))

count-light : (ms : List Mention) → length ms ≤ weight ms
count-light [] = omega arith
count-light (m ∷ ms) = omega (arith, count-light ms, sum_by-cons (λ (x : Mention). 1 + length x.parts) m ms)

-- ## Rounds

-- what is known of each mention that was found
record IsFoundOf (docs : List Doc) (rules : List Rule) (m : Mention) : Type 0 where
  named : IsNamed rules m
  lies : LiesIn docs m
  few : length m.parts < NUMBER_END

found-of : (docs : List Doc) (g : Grammar) (r : ℕ) (old new : List Mention) → round docs g r old ≡ Found new → Each (IsFoundOf docs g.rules) new
found-of docs g r old new e =
    let (lie, light) = round-found docs g r old new e in
    Each-both (λ m. IsNamed g.rules m × LiesIn docs m) (λ m. length m.parts ≤ weight new) (IsFoundOf docs g.rules)
    (λ m h k. record { named = h.0; lies = h.1; few = omega (arith, k, light) }) new
    (Each-both (IsNamed g.rules) (LiesIn docs) (λ m. IsNamed g.rules m × LiesIn docs m) (λ m h k. (h, k)) new (rounds_are_named docs g r old new e) lie)
    (one-light new)

few-found : (docs : List Doc) (g : Grammar) (r : ℕ) (old new : List Mention) → round docs g r old ≡ Found new → length new < NUMBER_END
few-found docs g r old new e = omega (arith, (round-found docs g r old new e).1, count-light new)

part-writable : (n : ℕ) (p : Part) → HasTexts p → PartLiesWithin n p → IsWritablePart p
part-writable n p t l = record { name = t.name.short; label = label-short p.label t.label; span = l.0 }
  where
    label-short : (o : Option (List ℕ)) → IfSome o IsText → IfSome o (λ label. length label < NUMBER_END)
    label-short None h = tt
    label-short (Some label) h = h.short

mention-writable : (docs : List Doc) (rules : List Rule) (m : Mention) → Each IsWellNamed rules → IsFoundOf docs rules m → IsWritable m
mention-writable docs rules m h f =
    let names = names-of rules m h f.named in
    let lies = f.lies.lies in
    record {
      span = lies.takes;
      label = names.label.short;
      rule = names.rule;
      count = f.few;
      parts = Each-both HasTexts (PartLiesWithin (length f.lies.sentence.tokens)) IsWritablePart (part-writable (length f.lies.sentence.tokens)) m.parts names.parts lies.parts;
    }

pub rounds_are_writable : RoundsAreWritable
rounds_are_writable docs g r old new h e =
    (few-found docs g r old new e, Each-weaker (IsFoundOf docs g.rules) IsWritable (λ m f. mention-writable docs g.rules m h f) new (found-of docs g r old new e))

-- ## Read back

at-below : {X : Type 0} (xs : List X) (i : ℕ) (x : X) → slice_get xs i ≡ Some x → i < length xs
at-below [] i x e = absurd (cc)
at-below (y ∷ xs) zero x e = omega arith
at-below (y ∷ xs) (suc i) x e = omega (arith, at-below xs i x e)

-- each sentence of a document has a part at least
sentences-few : (ss : List Sentence) → length ss ≤ size_in_parts ss
sentences-few [] = omega arith
sentences-few (s ∷ ss) = omega (arith, sentences-few ss)

part-stored : (n : ℕ) → n < NUMBER_END → (p : Part) → HasTexts p → PartLiesWithin n p → IsPart p
part-stored n small p t l = let end : p.end ≤ n = l.1 in record { name = t.name; label = t.label; span = l.0; small = omega arith }

mention-stored : (docs : List Doc) (rules : List Rule) (m : Mention) → length docs ≤ NUMBER_END → Each IsWellNamed rules → AreUtf8 rules → IsFoundOf docs rules m → IsMention m
mention-stored docs rules m small h u f =
    let names = names-of rules m h f.named in
    let l = f.lies in
    let tokens = l.sentence.few in
    let few : length l.sentence.tokens < NUMBER_END = omega arith in
    let parts = l.doc.parts in
    let size = l.doc.small in
    let ends : m.end ≤ length l.sentence.tokens = l.lies.ends in
    record {
      document = omega (arith, at-below docs m.document l.doc l.doc_is, small);
      sentence = omega (arith, at-below l.doc.sentences m.sentence l.sentence l.sentence_is, sentences-few l.doc.sentences, parts, size);
      span = l.lies.takes;
      small = omega arith;
      label = names.label;
      rule = record { short = names.rule; utf8 = rule-utf8 rules m u f.named };
      count = f.few;
      parts = Each-both HasTexts (PartLiesWithin (length l.sentence.tokens)) IsPart (part-stored (length l.sentence.tokens) few) m.parts names.parts l.lies.parts;
    }

pub rounds_are_read_back : RoundsAreReadBack
rounds_are_read_back docs g r old new small h u e =
    list_again new (record {
      count = few-found docs g r old new e;
      mentions = Each-weaker (IsFoundOf docs g.rules) IsMention (λ m f. mention-stored docs g.rules m small h u f) new (found-of docs g r old new e);
    })
