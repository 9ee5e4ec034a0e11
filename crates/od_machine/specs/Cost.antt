-- What a scan costs.
use Rattle.std.specs.Prelude.{ℕ, ◌+◌, ◌*◌, length}
use Rattle.od_machine.specs.declared.program.Program.{Program}
use Rattle.od_machine.specs.declared.scan.Scanner.{Scanner}

-- how many states the last scan took up
abbrev pub steps_of : Scanner → ℕ
steps_of scanner = scanner.seen.steps

-- each instruction of a program at each place of a sentence of so many tokens
abbrev pub states : Program → ℕ → ℕ
states program tokens = length program.code * (tokens + 1)
