-- One command more at a desk.
use Rattle.std.proofs.Common.{◌≡◌, ℕ, ◌+◌, ◌≤◌, List, [], ◌∷◌, ◌++◌, length, Option, Bool, true, false, refl, sym, ap, ◌∙◌, subst, arith, inl, inr}
use Rattle.std.specs.Io.KnownBytes.{Appends}
use Rattle.std.proofs.KnownBytes.{Appends-trans, Appends-nil}
use Rattle.od_pattern.specs.declared.grammar.Head.{Head}
use Rattle.od_command.specs.declared.history.Entry.{Entry}
use Rattle.od_session.specs.declared.object.OneThread.{OneThread}
use Rattle.od_io.specs.Streams.Count.{Rose}
use Rattle.od_io.specs.Streams.Writing.{AppendsProperPrefix}
use Rattle.od_text.specs.Lists.{Each}
use Rattle.od_session.specs.Parts.{nothing, IsAccepted, round_count}
use Rattle.od_command.specs.declared.history.Command.TheVariants.{Step}
use Rattle.od_model.specs.Object.Replies.{Replies}
use Rattle.od_model.specs.Object.Effects.{effect, effect_of}
use Rattle.od_model.specs.History.Orders.{GoesOn}
use Rattle.od_model.specs.History.Legal.{state_after, mine, Legal}
use Rattle.od_model.specs.History.Lines.{entry_lines, Lines}
use Rattle.od_model.specs.Run.Outcome.{IsCutShort, IsWritten}
use Rattle.od_model.proofs.Histories.Sound.{sound-nothing, sound-after}
use Rattle.od_model.proofs.Histories.Climbs.{step-climbs, round_count-few}
use Rattle.od_model.proofs.Histories.Steps.{state_after-start, state_after-snoc, Legal-snoc, Lines-snoc}
use Rattle.od_desk.specs.Further.{Climbs}
use Rattle.od_desk.specs.Desks.{Taken, taken, Origin, DeskState, opened_desk, AreLines, IsDesk}

-- a count that rose since then has risen since before
rose-since : (first old new : ℕ) → first ≤ old → Rose old new → Rose first new
rose-since first old new h (inl less) = inl (omega (arith, h, less))
rose-since first old new h (inr last) = inr last

-- a desk that begins with no document and no session
pub begins : (heads : List Head) (sink : Taken) → Each IsAccepted heads → IsDesk (opened_desk (record { heads = heads; start = nothing; sink = sink }))
begins heads sink accepted = record {
  accepted = accepted;
  sound = sound-nothing;
  legal = tt;
  object_is = sym (state_after-start nothing heads);
  lines = Appends-nil sink.bytes;
  later = omega arith;
  failed = λ e. absurd (cc);
}

module _ (d : DeskState) (e : Entry) (after : OneThread) (sink : Taken) (desk : IsDesk d) (whole : d.cut ≡ false)
    (replies : Replies d.origin.heads d.object e.caller e.command e.reply)
    (numbered : e.call ≡ length (mine e.caller d.history) + 1)
    (effect_is : after ≡ effect d.origin.heads d.object e) where
  legal-more : Legal d.origin.start d.origin.heads (d.history ++ e ∷ [])
  legal-more = Legal-snoc d.origin.start d.origin.heads d.history e desk.legal
      (record { replies = subst (λ o. Replies d.origin.heads o e.caller e.command e.reply) desk.object_is replies; numbered = numbered })

  object-more : after ≡ state_after d.origin.start d.origin.heads (d.history ++ e ∷ [])
  object-more = effect_is ∙ ap (λ o. effect d.origin.heads o e) desk.object_is ∙ sym (state_after-snoc d.origin.start d.origin.heads d.history e)

  written : IsWritten d.origin.start d.origin.heads d.history d.origin.sink.bytes d.sink.bytes
  written = subst (λ b. AreLines b d.origin d.history d.sink.bytes) whole desk.lines

  lines-more : Lines d.origin.start d.origin.heads (d.history ++ e ∷ []) ≡ Lines d.origin.start d.origin.heads d.history ++ entry_lines d.object e
  lines-more = Lines-snoc d.origin.start d.origin.heads d.history e ∙ ap (λ o. Lines d.origin.start d.origin.heads d.history ++ entry_lines o e) (sym desk.object_is)

  written-more : Appends d.sink.bytes sink.bytes (entry_lines d.object e) → IsWritten d.origin.start d.origin.heads (d.history ++ e ∷ []) d.origin.sink.bytes sink.bytes
  written-more appends = rw lines-more (Appends-trans d.origin.sink.bytes d.sink.bytes sink.bytes (Lines d.origin.start d.origin.heads d.history) (entry_lines d.object e) written appends)

  -- the lines were written
  pub answered : Appends d.sink.bytes sink.bytes (entry_lines d.object e) → d.sink.faults ≤ sink.faults
      → IsDesk (record { origin = d.origin; object = after; history = d.history ++ e ∷ []; sink = sink; cut = d.cut })
  answered appends later = record {
    accepted = desk.accepted;
    sound = desk.sound;
    legal = legal-more;
    object_is = object-more;
    lines = subst (λ b. AreLines b d.origin (d.history ++ e ∷ []) sink.bytes) (sym whole) (written-more appends);
    later = let first = desk.later in omega (arith, first, later);
    failed = λ is. absurd (cc);
  }

  cut-more : AppendsProperPrefix d.sink.bytes sink.bytes (entry_lines d.object e) → IsCutShort d.origin.start d.origin.heads (d.history ++ e ∷ []) d.origin.sink.bytes sink.bytes
  cut-more (part, rest, is, proper, appends) = record {
    front = d.history;
    last = e;
    history_is = refl;
    part = part;
    rest = rest;
    lines_are = ap (λ o. entry_lines o e) (sym desk.object_is) ∙ is;
    proper = proper;
    written = Appends-trans d.origin.sink.bytes d.sink.bytes sink.bytes (Lines d.origin.start d.origin.heads d.history) part written appends;
  }

  -- a write failed before all of them were written
  pub cut_short : AppendsProperPrefix d.sink.bytes sink.bytes (entry_lines d.object e) → d.sink.faults ≤ sink.faults → Rose d.sink.faults sink.faults
      → IsDesk (record { origin = d.origin; object = after; history = d.history ++ e ∷ []; sink = sink; cut = true })
  cut_short part later rose = record {
    accepted = desk.accepted;
    sound = desk.sound;
    legal = legal-more;
    object_is = object-more;
    lines = cut-more part;
    later = let first = desk.later in omega (arith, first, later);
    failed = λ is. rose-since d.origin.sink.faults d.sink.faults sink.faults desk.later rose;
  }

-- a step after which a run goes on
pub climbing : (d : DeskState) (e : Entry) (after : OneThread) (history : List Entry) (sink : Taken) (cut : Bool) (name : List ℕ) → IsDesk d → Replies d.origin.heads d.object e.caller e.command e.reply → after ≡ effect d.origin.heads d.object e
    → IsDesk (record { origin = d.origin; object = after; history = history; sink = sink; cut = cut }) → e.command ≡ Step name → GoesOn e.reply → Climbs name d.object after
climbing d e after history sink cut name desk replies effect_is next is goes =
    let replied : Replies d.origin.heads d.object e.caller (Step name) e.reply = subst (λ command. Replies d.origin.heads d.object e.caller command e.reply) is replies in
    let moved : after ≡ effect_of d.origin.heads d.object e.caller (Step name) e.reply = effect_is ∙ ap (λ command. effect_of d.origin.heads d.object e.caller command e.reply) is in
    record {
      more = ap (round_count name) moved ∙ step-climbs d.origin.heads d.object e.caller name e.reply replied goes;
      few = round_count-few name after (rw next.object_is (sound-after d.origin.start d.origin.heads desk.accepted history desk.sound next.legal));
    }
