-- What the parts of the lexer find, by places, as what the forms of lexemes find, by what is left.
use Rattle.std.specs.Prelude.{◌≡◌, ℕ, List, drop, Option, Some, None, Result, Ok, Err}
use Rattle.od_language.specs.declared.lexeme.Miss.{Miss}
use Rattle.od_language.specs.declared.lexeme.LexKind.{LexKind}
use Rattle.od_lex.specs.declared.form.Stop.{Stop}
use Rattle.od_lex.specs.declared.form.Stop.TheVariants as stop

-- a text and a place, as a text and what is behind the place
abbrev pub found : List ℕ → Option (List ℕ × ℕ) → Option (List ℕ × List ℕ)
found cs None = None
found cs (Some x) = Some (x.0, drop x.1 cs)

-- what a function finds, by a place, is what a form finds
abbrev pub FoundIn : {E : Type 0} → List ℕ → Result (Option (List ℕ × ℕ)) E →
    Option (List ℕ × List ℕ) → Type 0
FoundIn cs (Ok o) r = found cs o ≡ r
FoundIn cs (Err e) r = Unit {0}

-- a lexeme and a place, as a lexeme and what is behind the place
abbrev pub taken : List ℕ → Option (LexKind × ℕ) → Option (LexKind × List ℕ)
taken cs None = None
taken cs (Some x) = Some (x.0, drop x.1 cs)

-- what a function takes, by a place, is what a form takes
abbrev pub TakenIn : {E : Type 0} → List ℕ → Result (Option (LexKind × ℕ)) E →
    Option (LexKind × List ℕ) → Type 0
TakenIn cs (Ok o) r = taken cs o ≡ r
TakenIn cs (Err e) r = Unit {0}

-- what a form gives, by a place
abbrev pub Forms : List ℕ → Result (LexKind × ℕ) Stop → Result (LexKind × List ℕ) Miss → Type 0
Forms cs (Ok x) r = r ≡ Ok (x.0, drop x.1 cs)
Forms cs (Err stop.NoMemory) r = Unit {0}
Forms cs (Err (stop.Miss m)) r = r ≡ Err m
