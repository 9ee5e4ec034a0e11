-- Which histories are legal.
use Rattle.std.specs.Prelude.{◌≡◌, ℕ, ◌+◌, List, length, filter, fold, ◌==◌}
use Rattle.od_pattern.specs.declared.grammar.Head.{Head}
use Rattle.od_command.specs.declared.history.Entry.{Entry}
use Rattle.od_session.specs.declared.object.OneThread.{OneThread}
use Rattle.od_text.specs.Lists.{EachPoint}
use Rattle.od_model.specs.Object.Effects.{effect}
use Rattle.od_model.specs.Object.Replies.{Replies}

-- the object that entries lead to
unfoldable pub state_after : OneThread → List Head → List Entry → OneThread
state_after start heads es = fold (effect heads) start es

-- one caller's entries
abbrev pub mine : ℕ → List Entry → List Entry
mine caller es = filter (λ e. e.caller == caller) es

-- the entry may come next after those: it is what the object answers, and the next call of its caller
pub record IsNext (start : OneThread) (heads : List Head) (seen : List Entry) (e : Entry) : Type 0 where
  pub replies : Replies heads (state_after start heads seen) e.caller e.command e.reply
  pub numbered : e.call ≡ length (mine e.caller seen) + 1

-- each entry may come next after those before it
abbrev pub Legal : OneThread → List Head → List Entry → Type 0
Legal start heads es = EachPoint (IsNext start heads) es
