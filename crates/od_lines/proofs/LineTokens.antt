-- The tokens that are written for a line.
use Rattle.std.proofs.Common.{◌≡◌, ℕ, List, [], ◌∷◌, ◌++◌, map, flat_map, codes, refl, sym, ap, ◌∙◌, append_assoc, decimal}
use Rattle.json.specs.Token as json
use Rattle.json.specs.Token.{begin_object, end_object, begin_array, end_array, key, string, number}
use Rattle.json.specs.Print.{print}
use Rattle.json.specs.Tree.{json_tokens, items_tokens}
use Rattle.serde_json.specs.Data.{Data, array}
use Rattle.serde_json.specs.View.{items_of}
use Rattle.serde_json.specs.Written.{outline, items_outline}
use Rattle.serde_json.proofs.Texts.{print-outline}
use Rattle.od_document.specs.declared.token.Token.{Token}
use Rattle.od_extraction.specs.declared.mention.Mention.{Mention}
use Rattle.od_line.specs.Data.{line_of}
use Rattle.od_line.specs.Mentions.{text_in, part_data, mention_data}

-- what is written after what was written
written-more : {X : Type 0} (old some more now last : List X) → now ≡ old ++ some → last ≡ now ++ more → last ≡ old ++ (some ++ more)
written-more old some more now last before after = after ∙ ap (λ ts. ts ++ more) before ∙ append_assoc old some more

-- the tokens of a row of values are those of its elements, and the bracket behind them
items_tokens-map : {X : Type 0} (f : X → Data) (xs : List X) → items_tokens (items_outline (items_of (map f xs))) ≡ flat_map (λ x. json_tokens (outline (f x))) xs ++ end_array ∷ []
items_tokens-map f [] = refl
items_tokens-map f (x ∷ xs) =
    let first = json_tokens (outline (f x)) in
    ap (λ ts. first ++ ts) (items_tokens-map f xs) ∙ sym (append_assoc first (flat_map (λ y. json_tokens (outline (f y))) xs) (end_array ∷ []))

-- a key, and behind it a row of values
pub array-written : {X : Type 0} (f : X → Data) (xs taken : List X) (k : List ℕ) (old t1 t2 t3 t4 : List json.Token) → taken ≡ xs
    → t1 ≡ old ++ key k ∷ [] → t2 ≡ t1 ++ begin_array ∷ [] → t3 ≡ t2 ++ flat_map (λ x. json_tokens (outline (f x))) taken → t4 ≡ t3 ++ end_array ∷ []
    → t4 ≡ old ++ key k ∷ json_tokens (outline (array (items_of (map f xs))))
array-written f xs taken k old t1 t2 t3 t4 all e1 e2 e3 e4 =
    let row = flat_map (λ x. json_tokens (outline (f x))) xs in
    let opened = written-more old (key k ∷ []) (begin_array ∷ []) t1 t2 e1 e2 in
    let filled = written-more old (key k ∷ begin_array ∷ []) row t2 t3 opened (e3 ∙ ap (λ ys. t2 ++ flat_map (λ x. json_tokens (outline (f x))) ys) all) in
    written-more old (key k ∷ begin_array ∷ row) (end_array ∷ []) t3 t4 filled e4
    ∙ ap (λ ts. old ++ key k ∷ begin_array ∷ ts) (sym (items_tokens-map f xs))

-- the members of a mention's line, one behind the other
pub mention-written : (session document : List ℕ) (tokens : List Token) (m : Mention) (old t1 t2 t3 t4 t5 t6 t7 t8 t9 t10 t11 : List json.Token)
    → t1 ≡ old ++ begin_object ∷ []
    → t2 ≡ t1 ++ key (codes "arguments") ∷ json_tokens (outline (array (items_of (map (part_data tokens) m.parts))))
    → t3 ≡ t2 ++ key (codes "document") ∷ string document ∷ []
    → t4 ≡ t3 ++ key (codes "end") ∷ number (decimal m.end) ∷ []
    → t5 ≡ t4 ++ key (codes "label") ∷ string m.label ∷ []
    → t6 ≡ t5 ++ key (codes "rule") ∷ string m.rule ∷ []
    → t7 ≡ t6 ++ key (codes "sentence") ∷ number (decimal m.sentence) ∷ []
    → t8 ≡ t7 ++ key (codes "session") ∷ string session ∷ []
    → t9 ≡ t8 ++ key (codes "start") ∷ number (decimal m.start) ∷ []
    → t10 ≡ t9 ++ key (codes "text") ∷ string (text_in tokens m.start m.end) ∷ []
    → t11 ≡ t10 ++ end_object ∷ []
    → t11 ≡ old ++ json_tokens (outline (mention_data session document tokens m))
mention-written session document tokens m old t1 t2 t3 t4 t5 t6 t7 t8 t9 t10 t11 e1 e2 e3 e4 e5 e6 e7 e8 e9 e10 e11 =
    let opened = written-more old (begin_object ∷ []) _ t1 t2 e1 e2 in
    let p3 = key (codes "document") ∷ string document ∷ [] in
    let p4 = p3 ++ key (codes "end") ∷ number (decimal m.end) ∷ [] in
    let p5 = p4 ++ key (codes "label") ∷ string m.label ∷ [] in
    let p6 = p5 ++ key (codes "rule") ∷ string m.rule ∷ [] in
    let p7 = p6 ++ key (codes "sentence") ∷ number (decimal m.sentence) ∷ [] in
    let p8 = p7 ++ key (codes "session") ∷ string session ∷ [] in
    let p9 = p8 ++ key (codes "start") ∷ number (decimal m.start) ∷ [] in
    let p10 = p9 ++ key (codes "text") ∷ string (text_in tokens m.start m.end) ∷ [] in
    let f4 = written-more t2 p3 _ t3 t4 e3 e4 in
    let f5 = written-more t2 p4 _ t4 t5 f4 e5 in
    let f6 = written-more t2 p5 _ t5 t6 f5 e6 in
    let f7 = written-more t2 p6 _ t6 t7 f6 e7 in
    let f8 = written-more t2 p7 _ t7 t8 f7 e8 in
    let f9 = written-more t2 p8 _ t8 t9 f8 e9 in
    let f10 = written-more t2 p9 _ t9 t10 f9 e10 in
    let f11 = written-more t2 p10 _ t10 t11 f10 e11 in
    written-more old _ _ t2 t11 opened f11

-- what a writer gives back, and an LF
pub line-added : (out before text : List ℕ) (ts us : List json.Token) (d : Data) → before ≡ out → us ≡ [] → ts ≡ us ++ json_tokens (outline d) → text ≡ before ++ print ts
    → text ++ 10 ∷ [] ≡ out ++ line_of d
line-added out before text ts us d same fresh written given =
    let all = written ∙ ap (λ xs. xs ++ json_tokens (outline d)) fresh in
    let ended = given ∙ ap (λ xs. xs ++ print ts) same ∙ ap (λ xs. out ++ print xs) all ∙ ap (λ xs. out ++ xs) (print-outline d) in
    written-more out _ (10 ∷ []) text _ ended refl
