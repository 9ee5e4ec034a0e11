-- What a scalar that was read says.
use Rattle.std.specs.Prelude.{◌≡◌, ℕ, List, [], Option, None, Some}
use Rattle.std.specs.Str.Lines.{lines}
use Rattle.od_rule_text.specs.Scalars.{scalar, scalar_lines}
use Rattle.od_yaml.specs.declared.literal.Scalar.{Scalar}
use Rattle.od_yaml.specs.Below.{IsBelow}

-- a scalar that says this, and to which these lines belong
pub record Says (said : Option (List ℕ)) (own : List (List ℕ)) (more : List ℕ) (s : Scalar) : Type 0 where
  pub text_is : said ≡ Some s.text
  pub below_is : IsBelow own more s.below

-- a scalar without lines of its own, where there is one
abbrev pub IsOnLine : Option (List ℕ) → List ℕ → Option Scalar → Type 0
IsOnLine said more None = said ≡ None
IsOnLine said more (Some s) = Says said [] more s

-- the scalar behind a key at this column, where there is one
abbrev pub IsScalar : ℕ → List ℕ → List ℕ → Option Scalar → Type 0
IsScalar column rest more None = scalar rest (scalar_lines column rest (lines more)) ≡ None
IsScalar column rest more (Some s) =
    Says (scalar rest (scalar_lines column rest (lines more))) (scalar_lines column rest (lines more)) more s
