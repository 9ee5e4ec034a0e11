use Rattle.od_diagnostic.proofs.line.write_line.Goals as goal

pub returns-in-NoScript-clause-whole : goal.returns-in-NoScript-clause-whole
returns-in-NoScript-clause-whole g c = rw (c.in-NoScript.is, ← c.script_line.ensures) c.write_pieces.ensures.whole

pub returns-in-NoScript-clause-part : goal.returns-in-NoScript-clause-part
returns-in-NoScript-clause-part g c = rw (c.in-NoScript.is, ← c.script_line.ensures) c.write_pieces.ensures.part

pub returns-in-ReadFault-clause-whole : goal.returns-in-ReadFault-clause-whole
returns-in-ReadFault-clause-whole g c = rw c.in-ReadFault.is c.write_text-in-ReadFault.ensures.whole

pub returns-in-WriteFault-clause-whole : goal.returns-in-WriteFault-clause-whole
returns-in-WriteFault-clause-whole g c = rw c.in-WriteFault.is c.write_text-in-WriteFault.ensures.whole
