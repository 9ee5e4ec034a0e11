-- A hop that is written out is a word of the grammar for itself, its brackets told apart.
use Rattle.std.proofs.Common.{◌≡◌, ℕ, Bool, false, if◌then◌else◌, List, [], ◌∷◌, ◌++◌, refl, sym, ◌∙◌, ap, subst, append-nil}
use Rattle.od_pattern.specs.declared.pattern.Surface.{Surface}
use Rattle.od_pattern.specs.declared.pattern.Surface.TheVariants as surface
use Rattle.od_pattern.specs.declared.rule.HopPart.{HopPart}
use Rattle.od_pattern.specs.declared.rule.Hop.{Hop}
use Rattle.od_language.specs.declared.lexeme.Lexeme.{Lexeme}
use Rattle.od_language.specs.declared.lexeme.LexKind.{LexKind}
use Rattle.od_language.specs.declared.lexeme.LexKind.TheVariants.{RoundOpen, End}
use Rattle.od_language.specs.Alphabet.{plain, kinds}
use Rattle.od_language.specs.FirstFault.{Keeps}
use Rattle.od_language.specs.Lexed.{lexed_from}
use Rattle.od_syntax.specs.HopMachine.{step, ended}
use Rattle.od_syntax.specs.Hops.{Concat, all, HopParts, last, more, Hops, alone, joined, BreaksHop}
use Rattle.od_syntax.specs.HopVerdicts.{hop_start, hop_rule}
use Rattle.od_syntax.specs.Parts.{one_or}
use Rattle.od_syntax.specs.Sizes.{may_always}
use Rattle.od_syntax.specs.Surfaces.{SurfaceParts}
use Rattle.od_syntax.specs.Texts.{stuck_at, IsHop}
use Rattle.od_syntax.specs.Told.{Told, lexeme, steps_open, told_apart, leads_to_steps, in_constraint, told_of, told_from, told, as_told}
use Rattle.od_syntax.proofs.Hops.Rules.{hop_reader}
use Rattle.od_syntax.proofs.Steps.Answer.{told_end}
use Rattle.od_written.specs.Hops.{kinds_told, steps_written, hop_parts_written, joined_written, hop_written, AreWritableHopParts, IsWritableHop, HopsReadBack}
use Rattle.od_written.specs.Surfaces.{surface_forms, surface_written, IsWritableSurface}
use Rattle.od_written.specs.Texts.{HasLexemes}
use Rattle.od_written.proofs.Plain.{plain as plain_forms}
use Rattle.od_written.proofs.ReadBack.{read_to_end, ends_there}
use Rattle.od_written.proofs.Steps.{steps_read_back}
use Rattle.od_written.proofs.Surfaces.{back}
use Rattle.od_written.proofs.Texts.{surface_word}

concat_back : (p : Surface) → IsWritableSurface p → (rest : List LexKind) → Concat may_always (kinds_told false ((surface_forms p).as_choice ++ rest)) p (kinds_told false rest)
concat_back p w rest =
    let word : List LexKind = (surface_forms p).as_choice in
    let c = (back p w).choice in
    let parts : SurfaceParts may_always word c.parts [] = subst (λ (z : List LexKind). SurfaceParts may_always z c.parts []) (append-nil word) (c.back []) in
    let read : Concat may_always (as_told word ++ kinds_told false rest) (one_or surface.Seq c.parts) (kinds_told false rest) = all word c.parts (kinds_told false rest) parts in
    let same : kinds_told false (word ++ rest) ≡ as_told word ++ kinds_told false rest = (plain_forms p w).choice.stands rest in
    subst (λ (z : List Told). Concat may_always z p (kinds_told false rest)) (sym same)
    (subst (λ (z : Surface). Concat may_always (as_told word ++ kinds_told false rest) z (kinds_told false rest)) c.one read)

parts_back : (x : HopPart) (others : List HopPart) → AreWritableHopParts (x ∷ others) → HopParts may_always (kinds_told false (hop_parts_written (x ∷ others))) (x ∷ others) []
parts_back x [] w =
    let l : List LexKind = (surface_forms x.surface).as_choice ++ [] in
    last (kinds_told false (steps_written x.path ++ l)) x.path (kinds_told false l) x.surface [] (steps_read_back x.path w.0 l) (concat_back x.surface w.1 [])
parts_back x (y ∷ others) w =
    let behind : List LexKind = hop_parts_written (y ∷ others) in
    let l : List LexKind = (surface_forms x.surface).as_choice ++ behind in
    more (kinds_told false (steps_written x.path ++ l)) x.path (kinds_told false l) x.surface (kinds_told false behind) (y ∷ others) []
    (steps_read_back x.path w.0 l) (concat_back x.surface w.1 behind) (parts_back y others w.2)

alone_back : (p : Surface) → IsWritableSurface p → Hops may_always (kinds_told false (surface_written p)) (record { first = p; rest = [] }) []
alone_back p w =
    let word : List LexKind = surface_written p in
    let same : kinds_told false word ≡ as_told word ++ [] = ap (kinds_told false) (sym (append-nil word)) ∙ (plain_forms p w).whole.stands [] in
    subst (λ (z : List Told). Hops may_always z (record { first = p; rest = [] }) []) (sym same) (alone word p [] (surface_word p w))

joined_back : (p : Surface) (parts : List HopPart) → IsWritableSurface p → AreWritableHopParts parts → Hops may_always (kinds_told false (joined_written p parts)) (record { first = p; rest = parts }) []
joined_back p [] w v = alone_back p w
joined_back p (x ∷ others) w v =
    let behind : List LexKind = hop_parts_written (x ∷ others) in
    joined (kinds_told false ((surface_forms p).as_choice ++ behind)) p (kinds_told false behind) (x ∷ others) [] (concat_back p w behind) (parts_back x others v)

pub hops_read_back : HopsReadBack
hops_read_back hop w = joined_back hop.first hop.rest w.0 w.1

-- lexemes told apart, without their places
pub told_kinds : (within : Bool) (l : List Lexeme) → kinds told_apart (told_from within l) ≡ kinds_told within (kinds plain l)
told_kinds within [] = refl
told_kinds within (x ∷ l) = ap (λ z. told_of within x.kind (kinds plain l) ∷ z) (told_kinds (in_constraint within x.kind) l)

-- the end tells nothing of the brackets before it
leads_end : (l : List LexKind) → leads_to_steps (l ++ End ∷ []) ≡ leads_to_steps l
leads_end [] = refl
leads_end (RoundOpen ∷ l) = leads_end l
leads_end (x ∷ l) = refl

one_before_end : (within : Bool) (x : LexKind) (l : List LexKind) → told_of within x (l ++ End ∷ []) ≡ told_of within x l
one_before_end false RoundOpen l = ap (λ b. if b then steps_open else lexeme RoundOpen) (leads_end l)
one_before_end within x l = refl

told_to_end : (within : Bool) (l : List LexKind) → kinds_told within (l ++ End ∷ []) ≡ kinds_told within l ++ lexeme End ∷ []
told_to_end within [] = ap (λ z. z ∷ []) (told_end within)
told_to_end within (x ∷ l) =
    ap (λ z. z ∷ kinds_told (in_constraint within x) (l ++ End ∷ [])) (one_before_end within x l) ∙ ap (λ z. told_of within x l ∷ z) (told_to_end (in_constraint within x) l)

pub hop_text : (at : ℕ) (cs : List ℕ) (hop : Hop) → IsWritableHop hop → HasLexemes at cs (hop_written hop) → Keeps BreaksHop (kinds_told false (hop_written hop)) → IsHop at cs hop
hop_text at cs hop w h keeps =
    let xs : List Lexeme = (lexed_from at cs).0 in
    let word : List Told = kinds_told false (hop_written hop) in
    let same : kinds told_apart (told xs) ≡ word ++ lexeme End ∷ [] = told_kinds false xs ∙ ap (kinds_told false) h.lexemes ∙ told_to_end false (hop_written hop) in
    record {
      read = read_to_end told_apart (Hops may_always) BreaksHop (told xs) word hop (hops_read_back hop w) keeps
          (ends_there told_apart (Hops may_always) BreaksHop hop_start (step may_always) hop_rule ended hop_reader word) same;
      lexed = ap stuck_at h.no_fault;
    }
