-- What begins an atom.
use Rattle.std.proofs.Common.{◌≡◌, true, List, refl}
use Rattle.od_pattern.specs.declared.path.Path.{Path}
use Rattle.od_language.specs.declared.lexeme.LexKind.{LexKind}
use Rattle.od_language.specs.declared.lexeme.LexKind.TheVariants.{SquareOpen, RoundOpen, Along, Against, AnyAlong, AnyAgainst}
use Rattle.od_syntax.specs.PathMachine.{Around, step_atom, step_turned, begins_atom}

pub atom_step : (x : LexKind) (a s : List Path) (k : Around) → begins_atom x ≡ true → step_turned x a s k ≡ step_atom x a s k
atom_step Along a s k h = refl
atom_step Against a s k h = refl
atom_step AnyAlong a s k h = refl
atom_step AnyAgainst a s k h = refl
atom_step SquareOpen a s k h = refl
atom_step RoundOpen a s k h = refl
atom_step x a s k h = absurd (cc)
