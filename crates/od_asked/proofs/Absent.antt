-- Where there is no token no field has a text.
use Rattle.std.proofs.Common.{◌≡◌, ℕ, ◌≤◌, false, ap}
use Rattle.std.proofs.lemmas.Option.{slice_get_past}
use Rattle.std.specs.Prelude.{Option, length}
use Rattle.std.specs.List.{list_any}
use Rattle.od_asked.specs.Holds.{texts_there, has_text}
use Rattle.od_asked.specs.Texts.{fits}
use Rattle.od_document.specs.declared.sentence.Sentence.{Sentence}
use Rattle.od_document.specs.declared.token.Token.{Token}
use Rattle.od_pattern.specs.declared.pattern.Field.{Field}
use Rattle.od_pattern.specs.declared.pattern.Value.{Value}

pub no_text : (s : Sentence) (field : Field) (value : Value) (k : ℕ) → length s.tokens ≤ k → has_text s field value k ≡ false
no_text s field value k h = ap (λ (t : Option Token). list_any (fits value) (texts_there s k field t)) (slice_get_past s.tokens k h)
