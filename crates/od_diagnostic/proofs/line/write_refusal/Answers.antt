use Rattle.std.proofs.Common.{◌++◌, ◌∷◌, [], List, ℕ, subst, ap, codes}
use Rattle.std.specs.Io.KnownBytes.{Appends}
use Rattle.std.proofs.KnownBytes.{Appends-trans}
use Rattle.od_io.specs.Streams.Writing.{AppendsProperPrefix}
use Rattle.od_model.specs.Run.Words.{fault_text}
use Rattle.od_diagnostic.proofs.Pieces.{part-behind, part-of-more}
use Rattle.od_diagnostic.proofs.line.write_refusal.Goals as goal

-- what stands before the fault
abbrev head_of : List ℕ → List ℕ
head_of name = (codes "odinson: grammar " ++ name) ++ codes ": "

-- three pieces
abbrev joined_of : List ℕ → List ℕ → List ℕ → List ℕ
joined_of first second third = (first ++ second) ++ third

pub returns-in-Err-clause-part : goal.returns-in-Err-clause-part
returns-in-Err-clause-part g c =
    let old = g.E.Sink.written c.args.diag.now in
    let new = g.E.Sink.written c.write_pieces.new.diag in
    part-of-more old new (head_of c.args.name.now ++ fault_text c.args.fault.now) (codes "\n")
    (part-of-more old new (head_of c.args.name.now) (fault_text c.args.fault.now)
    (subst (λ (name : List ℕ). AppendsProperPrefix old new (head_of name)) c.get.ensures c.in-Err.ensures.part))

pub returns-in-Err-write_pieces-clause-part : goal.returns-in-Err-write_pieces-clause-part
returns-in-Err-write_pieces-clause-part g c =
    let old = g.E.Sink.written c.args.diag.now in
    let mid = g.E.Sink.written c.write_pieces.new.diag in
    let new = g.E.Sink.written c.write_pieces-2.new.diag in
    let front = c.fault_pieces.result.0 in
    let back = c.fault_pieces.result.1 in
    part-of-more old new (head_of c.args.name.now ++ fault_text c.args.fault.now) (codes "\n")
    (part-behind old mid new (head_of c.args.name.now) (fault_text c.args.fault.now)
    (subst (λ (name : List ℕ). Appends old mid (head_of name)) c.get.ensures c.in_default.ensures.whole)
    (subst (λ (text : List ℕ). AppendsProperPrefix mid new text) c.fault_pieces.ensures
    (part-of-more mid new (joined_of front.0.now front.1.now front.2.now) (joined_of back.0.now back.1.now back.2.now) c.in-Err-write_pieces.ensures.part)))

pub returns-in-Err-write_pieces-2-clause-part : goal.returns-in-Err-write_pieces-2-clause-part
returns-in-Err-write_pieces-2-clause-part g c =
    let old = g.E.Sink.written c.args.diag.now in
    let mid = g.E.Sink.written c.write_pieces.new.diag in
    let late = g.E.Sink.written c.write_pieces-2.new.diag in
    let new = g.E.Sink.written c.write_pieces-3.new.diag in
    let front = c.fault_pieces.result.0 in
    let back = c.fault_pieces.result.1 in
    part-of-more old new (head_of c.args.name.now ++ fault_text c.args.fault.now) (codes "\n")
    (part-behind old mid new (head_of c.args.name.now) (fault_text c.args.fault.now)
    (subst (λ (name : List ℕ). Appends old mid (head_of name)) c.get.ensures c.in_default.ensures.whole)
    (subst (λ (text : List ℕ). AppendsProperPrefix mid new text) c.fault_pieces.ensures
    (part-behind mid late new (joined_of front.0.now front.1.now front.2.now) (joined_of back.0.now back.1.now back.2.now)
    c.in_default-write_pieces.ensures.whole c.in-Err-write_pieces-2.ensures.part)))

pub returns-in-Err-write_text-clause-part : goal.returns-in-Err-write_text-clause-part
returns-in-Err-write_text-clause-part g c =
    let old = g.E.Sink.written c.args.diag.now in
    let mid = g.E.Sink.written c.write_pieces.new.diag in
    let late = g.E.Sink.written c.write_pieces-2.new.diag in
    let last = g.E.Sink.written c.write_pieces-3.new.diag in
    let new = g.E.Sink.written c.write_text.new.diag in
    let front = c.fault_pieces.result.0 in
    let back = c.fault_pieces.result.1 in
    part-behind old last new (head_of c.args.name.now ++ fault_text c.args.fault.now) (codes "\n")
    (Appends-trans old mid last (head_of c.args.name.now) (fault_text c.args.fault.now)
    (subst (λ (name : List ℕ). Appends old mid (head_of name)) c.get.ensures c.in_default.ensures.whole)
    (subst (λ (text : List ℕ). Appends mid last text) c.fault_pieces.ensures
    (Appends-trans mid late last (joined_of front.0.now front.1.now front.2.now) (joined_of back.0.now back.1.now back.2.now)
    c.in_default-write_pieces.ensures.whole c.in_default-write_pieces-2.ensures.whole)))
    c.in-Err-write_text.ensures.part

pub returns-clause-whole : goal.returns-clause-whole
returns-clause-whole g c =
    let old = g.E.Sink.written c.args.diag.now in
    let mid = g.E.Sink.written c.write_pieces.new.diag in
    let late = g.E.Sink.written c.write_pieces-2.new.diag in
    let last = g.E.Sink.written c.write_pieces-3.new.diag in
    let new = g.E.Sink.written c.write_text.new.diag in
    let front = c.fault_pieces.result.0 in
    let back = c.fault_pieces.result.1 in
    Appends-trans old last new (head_of c.args.name.now ++ fault_text c.args.fault.now) (codes "\n")
    (Appends-trans old mid last (head_of c.args.name.now) (fault_text c.args.fault.now)
    (subst (λ (name : List ℕ). Appends old mid (head_of name)) c.get.ensures c.in_default.ensures.whole)
    (subst (λ (text : List ℕ). Appends mid last text) c.fault_pieces.ensures
    (Appends-trans mid late last (joined_of front.0.now front.1.now front.2.now) (joined_of back.0.now back.1.now back.2.now)
    c.in_default-write_pieces.ensures.whole c.in_default-write_pieces-2.ensures.whole)))
    c.in_default-write_text.ensures.whole
