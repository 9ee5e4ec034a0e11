-- Where steps that are written out end.
use Rattle.std.proofs.Common.{◌≡◌, ℕ, Bool, false, List, [], ◌∷◌, ◌++◌, length, Some, Err, refl, sym, ◌∙◌, ap, subst, append-nil, arith}
use Rattle.std.proofs.lemmas.List.{append_cancel_right}
use Rattle.od_pattern.specs.declared.path.Path.{Path}
use Rattle.od_language.specs.declared.pattern_fault.PatternKind.TheVariants as kind
use Rattle.od_language.specs.declared.lexeme.Lexeme.{Lexeme}
use Rattle.od_language.specs.declared.lexeme.LexKind.{LexKind}
use Rattle.od_language.specs.declared.lexeme.LexKind.TheVariants.{Question, Star, Plus, Range, Along, Against, AnyAlong, AnyAgainst}
use Rattle.od_language.specs.Alphabet.{plain, kinds}
use Rattle.od_language.specs.Depth.{BreaksRule}
use Rattle.od_language.specs.FirstFault.{Begins, Keeps, IsRead}
use Rattle.od_language.proofs.Machine.{begins_none}
use Rattle.od_syntax.specs.Hops.{Steps, BreaksSteps}
use Rattle.od_syntax.specs.StepsAnswer.{AreSteps}
use Rattle.od_syntax.specs.StepsMachine.{State, begun, label, group, part, turned, counted, opened, step, ended}
use Rattle.od_syntax.specs.Told.{Told, lexeme, steps_open, told_apart, in_constraint, told_of, told, untold, all_untold}
use Rattle.od_syntax.proofs.Hops.Complete.{cut_steps}
use Rattle.od_syntax.proofs.Steps.Closing.{rule_at, reader}
use Rattle.od_written.specs.Hops.{kinds_told, steps_written, AreWritableSteps, goes_on_steps}
use Rattle.od_written.proofs.Hops.{told_kinds}
use Rattle.od_written.proofs.ReadBack.{read}
use Rattle.od_written.proofs.Steps.{balanced, told_before, told_append, untold_before, steps_read_back}

refuses_opened : (x : Told) (s : List Path) → goes_on_steps x ≡ false → opened s x ≡ Err kind.Expected
refuses_opened steps_open s h = absurd (cc)
refuses_opened (lexeme Along) s h = absurd (cc)
refuses_opened (lexeme Against) s h = absurd (cc)
refuses_opened (lexeme AnyAlong) s h = absurd (cc)
refuses_opened (lexeme AnyAgainst) s h = absurd (cc)
refuses_opened x s h = refl

refuses_counted : (x : Told) (p : Path) (s : List Path) → goes_on_steps x ≡ false → counted x p s ≡ Err kind.Expected
refuses_counted (lexeme Question) p s h = absurd (cc)
refuses_counted (lexeme Star) p s h = absurd (cc)
refuses_counted (lexeme Plus) p s h = absurd (cc)
refuses_counted (lexeme (Range least most)) p s h = absurd (cc)
refuses_counted steps_open p s h = absurd (cc)
refuses_counted (lexeme Along) p s h = absurd (cc)
refuses_counted (lexeme Against) p s h = absurd (cc)
refuses_counted (lexeme AnyAlong) p s h = absurd (cc)
refuses_counted (lexeme AnyAgainst) p s h = absurd (cc)
refuses_counted x p s h = refl

-- a state in which steps may end
refuses : (s : State) (p : Path) (x : Told) → ended s ≡ Some p → goes_on_steps x ≡ false → step s x ≡ Err kind.Expected
refuses begun p x e h = absurd (cc)
refuses (label b s) p x e h = absurd (cc)
refuses (group q s) p x e h = absurd (cc)
refuses (part q s) p x e h = refuses_counted x q s h
refuses (turned s) p x e h = refuses_opened x s h

no_more : (word : List Told) (p : Path) (x : Told) → Steps word p [] → goes_on_steps x ≡ false → Begins Steps (word ++ x ∷ []) → ⊥
no_more word p x u h =
    let t = (reader 0).word word p u in
    begins_none told_apart Steps (BreaksSteps 0) begun step (rule_at 0) ended (reader 0) word t.0 x kind.Expected t.1 (refuses t.0 p x t.2 h)

told_behind : (p : Path) (b : List LexKind) → kinds_told false (steps_written p ++ b) ≡ told_before false (steps_written p) b ++ kinds_told false b
told_behind p b = told_append false (steps_written p) b ∙ ap (λ z. told_before false (steps_written p) b ++ kinds_told z b) (balanced p).choice

-- the steps alone, where others follow
steps_word : (p : Path) (b : List LexKind) → AreWritableSteps p → Steps (told_before false (steps_written p) b) p []
steps_word p b w =
    let word : List Told = told_before false (steps_written p) b in
    let cut = cut_steps (kinds_told false (steps_written p ++ b)) p (kinds_told false b) (steps_read_back p w b) in
    let same : cut.0 ≡ word = append_cancel_right cut.0 word (kinds_told false b) (sym cut.1 ∙ told_behind p b) in
    subst (λ (z : List Told). Steps z p []) (append-nil cut.0 ∙ same) (cut.2 [])

untold_append : (a b : List Told) → all_untold (a ++ b) ≡ all_untold a ++ all_untold b
untold_append [] b = refl
untold_append (x ∷ a) b = ap (λ z. untold x ∷ z) (untold_append a b)

told_length : (within : Bool) (a b : List LexKind) → length (told_before within a b) ≡ length a
told_length within [] b = refl
told_length within (x ∷ a) b = let e = told_length (in_constraint within x) a b in omega (arith, e)

-- the rules are those of the lexemes as they stand
keeps_told : (opened_before : ℕ) (word : List Told) (l : List LexKind) → all_untold word ≡ l → Keeps (BreaksRule opened_before) l → Keeps (BreaksSteps opened_before) word
keeps_told n word l e keeps before x behind k h breaks = keeps (all_untold before) (untold x) (all_untold behind) k (sym e ∙ ap all_untold h ∙ untold_append before (x ∷ behind)) breaks

-- steps that are written out, and keep the rules, are read
pub steps_read : (n : ℕ) (p : Path) (l : List Lexeme) (x : LexKind) (behind : List LexKind) → AreWritableSteps p → kinds plain l ≡ steps_written p ++ x ∷ behind →
    goes_on_steps (told_of false x behind) ≡ false → Keeps (BreaksRule n) (steps_written p) → AreSteps n l p (length (steps_written p))
steps_read n p l x behind w e h keeps =
    let word : List Told = told_before false (steps_written p) (x ∷ behind) in
    let same : kinds told_apart (told l) ≡ word ++ told_of false x behind ∷ kinds_told (in_constraint false x) behind = told_kinds false l ∙ ap (kinds_told false) e ∙ told_behind p (x ∷ behind) in
    let u : Steps word p [] = steps_word p (x ∷ behind) w in
    let found : IsRead told_apart Steps (BreaksSteps n) (told l) p (length word) =
    read told_apart Steps (BreaksSteps n) (told l) word (told_of false x behind) (kinds_told (in_constraint false x) behind) p u
    (keeps_told n word (steps_written p) (untold_before false (steps_written p) (x ∷ behind)) keeps) (no_more word p (told_of false x behind) u h) same in
    subst (AreSteps n l p) (told_length false (steps_written p) (x ∷ behind)) found
