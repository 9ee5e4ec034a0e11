use Rattle.std.proofs.Common.{◌∙◌, sym}
use Rattle.od_order.specs.Statements.{words_of}
use Rattle.od_script.proofs.Folds.{text_taken, said_block, takes_as}
use Rattle.od_script.specs.Said.{shown}
use Rattle.od_script.proofs.reader.Reader.take_text.Goals as goal

pub returns-in-Ok : goal.returns-in-Ok
returns-in-Ok c line same =
    let is = sym (c.keyword_in.ensures (words_of c.args.text.now) c.words_of-words.ensures) ∙ c.in-Some.is in
    let may = sym c.misplaced.ensures ∙ c.in_default-misplaced.is in
    takes_as _ _ c.take_statement.new.self c.args.behind.now _ _ c.take_statement.result
    (text_taken c.args.self.now c.args.number line c.args.behind.now c.args.text.now c.in-Some.keyword (shown c.in-Ok.said) is may c.in-Ok.ensures.says same)
    (said_block c.args.text.now c.in-Some.keyword (shown c.in-Ok.said) is c.in-Ok.ensures.says)
    (c.take_statement.ensures line)
