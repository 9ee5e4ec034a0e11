use Rattle.std.proofs.Common.{◌≡◌, ◌++◌, take}
use Rattle.std.specs.Str.{encode_utf8_all}
use Rattle.od_lex.proofs.scan.spell.Given as goal

abbrev pub invariant-loop-c : goal.invariant-loop-c
invariant-loop-c l = l.text ≡ l.fn.text ++ encode_utf8_all (take l.c-index l.part)
