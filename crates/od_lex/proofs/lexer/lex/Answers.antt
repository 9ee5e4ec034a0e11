use Rattle.od_language.proofs.Lexing.Readings.{one_reading}
use Rattle.od_lex.proofs.lexer.lex.Goals as goal

pub returns-clause-one_reading : goal.returns-clause-one_reading
returns-clause-one_reading c = one_reading _
