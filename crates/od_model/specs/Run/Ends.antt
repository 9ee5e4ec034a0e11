-- How the top call may end.
use Rattle.std.specs.Prelude.{◌≡◌, ℕ, List, [], Option}
use Rattle.od_model.specs.declared.status.Status.{Status}
use Rattle.od_model.specs.declared.status.Status.TheVariants.{Done, Refused, Usage, NoScript, BadGrammar, ReadFault, WriteFault, NoMemory}
use Rattle.od_model.specs.Run.Outcome.{IsNoScript, HasBadGrammar}
use Rattle.od_model.specs.Run.Words.{exit_status}
use Rattle.od_session.specs.Grammars.{RefusedAsTold}

-- every command was answered
abbrev pub Answered : Status → Type 0
Answered Done = Unit {0}
Answered Refused = Unit {0}
Answered Usage = ⊥
Answered (NoScript line kind) = ⊥
Answered (BadGrammar name fault) = ⊥
Answered ReadFault = ⊥
Answered WriteFault = ⊥
Answered NoMemory = ⊥

-- how it may end where no read and no write failed, for the bytes that the source had and what the maker refused: every
-- command was answered, the bytes are no script, and this is their first fault, one of its grammars is not accepted, or memory
-- was refused
abbrev pub CanEndSo : Option (List ℕ) → List (List ℕ) → Status → Type 0
CanEndSo left refused Done = Unit {0}
CanEndSo left refused Refused = Unit {0}
CanEndSo left refused Usage = ⊥
CanEndSo left refused (NoScript line kind) = IsNoScript left line kind
CanEndSo left refused (BadGrammar name fault) = HasBadGrammar name fault left refused
CanEndSo left refused ReadFault = ⊥
CanEndSo left refused WriteFault = ⊥
CanEndSo left refused NoMemory = Unit {0}

-- what the maker refused: the expression that a status tells, and nothing else
abbrev pub RefusedBy : Status → List (List ℕ) → Type 0
RefusedBy (BadGrammar name fault) refused = RefusedAsTold fault refused
RefusedBy status refused = refused ≡ []

-- the exit status is that of a way to end of which P holds
abbrev pub HasStatus : ℕ → (Status → Type 0) → Type 0
HasStatus number P = (status : Status) × (number ≡ exit_status status) × P status
