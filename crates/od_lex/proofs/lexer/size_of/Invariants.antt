use Rattle.std.proofs.Common.{◌≡◌, take}
use Rattle.od_language.specs.Lexing.{size_of as bytes}
use Rattle.od_lex.proofs.lexer.size_of.Given as goal

abbrev pub invariant-loop-c : goal.invariant-loop-c
invariant-loop-c l = l.size ≡ bytes (take l.c-index l.part)
