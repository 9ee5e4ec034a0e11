-- A surface pattern read from lexemes up to where it stops, with what stands there: what the contracts
-- of the parser's parts speak of.
use Rattle.std.specs.Prelude.{◌≡◌, ℕ, Bool, false, ◌==◌, List, [], ◌∷◌, ◌++◌, Option, Some, None, Ok, if◌then◌else◌}
use Rattle.od_pattern.specs.declared.pattern.Surface.{Surface}
use Rattle.od_language.specs.declared.pattern_fault.PatternKind.{PatternKind}
use Rattle.od_language.specs.declared.pattern_fault.PatternKind.TheVariants as kind
use Rattle.od_language.specs.declared.lexeme.Lexeme.{Lexeme}
use Rattle.od_language.specs.declared.lexeme.LexKind.{LexKind}
use Rattle.od_language.specs.declared.lexeme.LexKind.TheVariants.{NameOpen}
use Rattle.od_language.specs.Depth.{broken_rule, depth_behind}
use Rattle.od_language.specs.Machine.{◌>>=◌, Outcome, stopped, checked, either_way, first_broken}
use Rattle.od_surface.specs.declared.lexemes.Places.{Places}
use Rattle.od_syntax.specs.Rules.{bad_range}
use Rattle.od_syntax.specs.Sizes.{may_repeat, may_always}
use Rattle.od_syntax.specs.SurfaceMachine.{Around, top, round, State, inside, part, counted, turned, listed, in_order, repeat, step, ended, repeat_rule}

-- what stands where a reading stops: how many brackets are open, the pattern, and the same where no
-- choice stands in it outside brackets
pub record Left : Type 0 where
  pub depth : ℕ
  pub whole : Surface
  pub single : Option Surface

-- parts in order, where no choice stands before them outside brackets
abbrev pub single_if : List Surface → Surface → Around → Option Surface
single_if a p (round o b s k) = None
single_if [] p top = Some p
single_if (q ∷ a) p top = None

-- the one choice
abbrev pub only : List Surface → Around → Option Surface
only a (round o b s k) = None
only (p ∷ []) top = Some p
only a top = None

abbrev pub single : State → Option Surface
single (part p a s k) = single_if a (in_order (s ++ p ∷ [])) k
single (counted p least most a s k) = single_if a (in_order (s ++ repeat p least most false ∷ [])) k
single (turned a s k) = single_if a (in_order s) k
single (listed a k) = only a k
single s = None

-- what stands in a state, where the machine may end
abbrev pub left_by : ℕ → Option Surface → Option Surface → Option Left
left_by d None j = None
left_by d (Some p) j = Some (record { depth = d; whole = p; single = j })

abbrev pub left : ℕ → State → Option Left
left d s = left_by d (ended s) (single s)

-- whether this is the place of the first capture that is named again
abbrev pub is_at : Option ℕ → ℕ → Bool
is_at None at = false
is_at (Some place) at = at == place

-- what a lexeme breaks by itself, where d brackets are open before it
abbrev pub own_rule : Option ℕ → ℕ → ℕ → LexKind → Option PatternKind
own_rule again d at (NameOpen name) =
    if is_at again at then Some kind.SameCapture else broken_rule d (NameOpen name)
own_rule again d at x = broken_rule d x

-- the rule that a lexeme breaks
abbrev pub rule_at : Option ℕ → ℕ → State → ℕ → LexKind → Option PatternKind
rule_at again d s at x =
    first_broken (bad_range [] x) (first_broken (repeat_rule may_repeat s x) (own_rule again d at x))

-- The place of the end of the lexemes. In a constraint the lexemes never end.
abbrev pub end_of : Places → State → ℕ
end_of places (inside w c a s k) = 0
end_of places s = places.behind

-- the reading from a state on, where so many brackets are open
abbrev pub run : Places → ℕ → State → List Lexeme → Outcome Lexeme Left
run places d s [] = stopped (left d s) [] (end_of places s) kind.Expected
run places d s (x ∷ l) = either_way (step may_always s x.kind)
    (λ t. checked (rule_at places.again d s x.at x.kind) x.at (run places (depth_behind d x.kind) t l))
    (λ k. stopped (left d s) (x ∷ l) x.at k)

-- what is known of the lexemes of a whole text, behind which nothing stands
abbrev pub of_text : Option ℕ → Places
of_text again = record { again = again; behind = 0 }

-- the pattern that was read, and what follows
abbrev pub whole_of : Outcome Lexeme Left → Outcome Lexeme Surface
whole_of o = o >>= λ x. Ok (x.0.whole, x.1)

-- the place of the first lexeme; where there is none, that of what stands behind
abbrev pub place_or : ℕ → List Lexeme → ℕ
place_or behind [] = behind
place_or behind (x ∷ l) = x.at

-- the first lexeme, where there is one
abbrev pub Next : (LexKind → Type 0) → List Lexeme → Type 0
Next P [] = Unit {0}
Next P (x ∷ l) = P x.kind

-- a lexeme is there
abbrev pub Comes : (LexKind → Type 0) → List Lexeme → Type 0
Comes P [] = ⊥
Comes P (x ∷ l) = P x.kind

-- on behind an atom: where no quantifier comes, and behind one
abbrev pub on_from : Places → ℕ → Surface → List Surface → List Surface → Around → List Lexeme →
    List Lexeme → Option (ℕ × Option ℕ) → Outcome Lexeme Left
on_from places d p a s k here there None = run places d (turned a (s ++ p ∷ []) k) here
on_from places d p a s k here there (Some t) = run places d (counted p t.0 t.1 a s k) there

-- behind an atom no quantifier comes
abbrev pub IsUnrepeated : List Lexeme → Type 0
IsUnrepeated l = (places : Places) (d : ℕ) (p : Surface) (a s : List Surface) (k : Around) →
    run places d (part p a s k) l ≡ run places d (turned a (s ++ p ∷ []) k) l

-- where there is something, this holds
abbrev pub IsSomeOnly : {X : Type 0} → Type 0 → Option X → Type 0
IsSomeOnly P None = Unit {0}
IsSomeOnly P (Some x) = P
