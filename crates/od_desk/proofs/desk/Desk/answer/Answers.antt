use Rattle.std.proofs.Common.{◌≡◌, ◌+◌, length, false, [], ◌∷◌, ◌++◌, refl, sym, ap, ◌∙◌, subst}
use Rattle.std.specs.Io.KnownBytes.{Appends}
use Rattle.od_io.specs.Streams.Writing.{AppendsProperPrefix}
use Rattle.od_command.specs.declared.history.Entry.{Entry}
use Rattle.od_model.specs.Object.Effects.{effect}
use Rattle.od_model.specs.History.Legal.{mine}
use Rattle.od_model.specs.History.Lines.{entry_lines}
use Rattle.od_desk.specs.Desks.{Taken, taken, DeskState}
use Rattle.od_desk.specs.Further.{AtMostOne, one}
use Rattle.od_desk.proofs.Answering.{answered, cut_short, climbing}
use Rattle.od_desk.proofs.desk.Desk.answer.Goals as goal

pub invariant_of-self-in-Ok : goal.invariant_of-self-in-Ok
invariant_of-self-in-Ok g c =
    let s = c.self.inside in
    let d : DeskState = record {
      origin = record { heads = s.heads; start = s.start.value; sink = taken (g.W.Sink.written s.before.value) (g.W.Sink.faults s.before.value) };
      object = s.workspace;
      history = s.history.items;
      sink = taken (g.W.Sink.written s.sink) (g.W.Sink.faults s.sink);
      cut = s.cut;
    } in
    let e : Entry = record { caller = c.args.caller; call = c.args.call; command = c.args.command; reply = c.in_ok-answer.answer.reply } in
    let answer = c.in_ok-answer.ensures.answer in
    let pushed : c.push_reserved.new.self.items ≡ s.history.items ++ e ∷ [] = c.push_reserved.ensures.items ∙ ap (λ l. l ++ e ∷ []) c.in_ok-reserve.ensures.items in
    let whole : s.cut ≡ false = rw (← c.self.view_is) at c.requires.whole in
    let numbered : c.args.call ≡ length (mine c.args.caller s.history.items) + 1 = rw (← c.self.view_is) at c.requires.call in
    let after : c.change-2.new.self ≡ effect s.heads s.workspace e = c.in_ok-change.ensures.ok ∙ sym answer.effect in
    let sink : Taken = taken (g.W.Sink.written c.write_whole.new.sink) (g.W.Sink.faults c.write_whole.new.sink) in
    let appends : Appends (g.W.Sink.written s.sink) (g.W.Sink.written c.write_whole.new.sink) (entry_lines s.workspace e) = rw (sym c.in_ok-lines.ensures, sym c.get.ensures) c.in-Ok.ensures.whole in
    rw (pushed, c.in_ok-answer.ensures.same) (answered d e c.change-2.new.self sink c.self.invariant whole answer.replies numbered after appends c.write_whole.ensures.later)

pub returns-in-Ok-clause-desk : goal.returns-in-Ok-clause-desk
returns-in-Ok-clause-desk g c = invariant_of-self-in-Ok g c

pub returns-in-Ok-clause-climbs : goal.returns-in-Ok-clause-climbs
returns-in-Ok-clause-climbs g c name is goes =
    let s = c.self.inside in
    let d : DeskState = record {
      origin = record { heads = s.heads; start = s.start.value; sink = taken (g.W.Sink.written s.before.value) (g.W.Sink.faults s.before.value) };
      object = s.workspace;
      history = s.history.items;
      sink = taken (g.W.Sink.written s.sink) (g.W.Sink.faults s.sink);
      cut = s.cut;
    } in
    let e : Entry = record { caller = c.args.caller; call = c.args.call; command = c.args.command; reply = c.in_ok-answer.answer.reply } in
    let answer = c.in_ok-answer.ensures.answer in
    let after : c.change-2.new.self ≡ effect s.heads s.workspace e = c.in_ok-change.ensures.ok ∙ sym answer.effect in
    let sink : Taken = taken (g.W.Sink.written c.write_whole.new.sink) (g.W.Sink.faults c.write_whole.new.sink) in
    rw (← c.self.view_is) (climbing d e c.change-2.new.self c.push_reserved.new.self.items sink s.cut name c.self.invariant answer.replies after (rw (c.in_ok-answer.ensures.same) at (invariant_of-self-in-Ok g c)) is (c.goes_on-goes.ensures.0 goes))

pub invariant_of-self-in-Err : goal.invariant_of-self-in-Err
invariant_of-self-in-Err g c =
    let s = c.self.inside in
    let d : DeskState = record {
      origin = record { heads = s.heads; start = s.start.value; sink = taken (g.W.Sink.written s.before.value) (g.W.Sink.faults s.before.value) };
      object = s.workspace;
      history = s.history.items;
      sink = taken (g.W.Sink.written s.sink) (g.W.Sink.faults s.sink);
      cut = s.cut;
    } in
    let e : Entry = record { caller = c.args.caller; call = c.args.call; command = c.args.command; reply = c.in_ok-answer.answer.reply } in
    let answer = c.in_ok-answer.ensures.answer in
    let pushed : c.push_reserved.new.self.items ≡ s.history.items ++ e ∷ [] = c.push_reserved.ensures.items ∙ ap (λ l. l ++ e ∷ []) c.in_ok-reserve.ensures.items in
    let whole : s.cut ≡ false = rw (← c.self.view_is) at c.requires.whole in
    let numbered : c.args.call ≡ length (mine c.args.caller s.history.items) + 1 = rw (← c.self.view_is) at c.requires.call in
    let after : c.change-2.new.self ≡ effect s.heads s.workspace e = c.in_ok-change.ensures.ok ∙ sym answer.effect in
    let sink : Taken = taken (g.W.Sink.written c.write_whole.new.sink) (g.W.Sink.faults c.write_whole.new.sink) in
    let part : AppendsProperPrefix (g.W.Sink.written s.sink) (g.W.Sink.written c.write_whole.new.sink) (entry_lines s.workspace e) = rw (sym c.in_ok-lines.ensures, sym c.get.ensures) c.in-Err.ensures.part in
    rw (pushed, c.in_ok-answer.ensures.same) (cut_short d e c.change-2.new.self sink c.self.invariant whole answer.replies numbered after part c.write_whole.ensures.later c.in-Err.ensures.failed)

pub returns-clause-desk : goal.returns-clause-desk
returns-clause-desk g c =
    let s = c.self.inside in
    let d : DeskState = record {
      origin = record { heads = s.heads; start = s.start.value; sink = taken (g.W.Sink.written s.before.value) (g.W.Sink.faults s.before.value) };
      object = s.workspace;
      history = s.history.items;
      sink = taken (g.W.Sink.written s.sink) (g.W.Sink.faults s.sink);
      cut = s.cut;
    } in
    let e : Entry = record { caller = c.args.caller; call = c.args.call; command = c.args.command; reply = c.in_ok-answer.answer.reply } in
    let answer = c.in_ok-answer.ensures.answer in
    let pushed : c.push_reserved.new.self.items ≡ s.history.items ++ e ∷ [] = c.push_reserved.ensures.items ∙ ap (λ l. l ++ e ∷ []) c.in_ok-reserve.ensures.items in
    let whole : s.cut ≡ false = rw (← c.self.view_is) at c.requires.whole in
    let numbered : c.args.call ≡ length (mine c.args.caller s.history.items) + 1 = rw (← c.self.view_is) at c.requires.call in
    let after : c.change-2.new.self ≡ effect s.heads s.workspace e = c.in_ok-change.ensures.ok ∙ sym answer.effect in
    let sink : Taken = taken (g.W.Sink.written c.write_whole.new.sink) (g.W.Sink.faults c.write_whole.new.sink) in
    let part : AppendsProperPrefix (g.W.Sink.written s.sink) (g.W.Sink.written c.write_whole.new.sink) (entry_lines s.workspace e) = rw (sym c.in_ok-lines.ensures, sym c.get.ensures) c.in-Err.ensures.part in
    rw (pushed, c.in_ok-answer.ensures.same) (cut_short d e c.change-2.new.self sink c.self.invariant whole answer.replies numbered after part c.write_whole.ensures.later c.in-Err.ensures.failed)

pub returns-clause-part : goal.returns-clause-part
returns-clause-part g c =
    let e : Entry = record { caller = c.args.caller; call = c.args.call; command = c.args.command; reply = c.in_ok-answer.answer.reply } in
    let pushed : c.push_reserved.new.self.items ≡ c.self.inside.history.items ++ e ∷ [] = c.push_reserved.ensures.items ∙ ap (λ l. l ++ e ∷ []) c.in_ok-reserve.ensures.items in
    one e (record { new_is = rw (← c.self.view_is) pushed; caller_is = refl; command_is = refl })
