use Rattle.std.proofs.Common.{◌≡◌, ◌++◌, ◌∷◌, [], arith}
use lib.Utf8.{encode}
use Rattle.std.proofs.lemmas.Str.Pattern.{strip_suffix_char}
use Rattle.od_script.proofs.Blocks.{unended_text, ended_text}
use Rattle.od_script.proofs.lines.line_text.Goals as goal

pub returns-in_default : goal.returns-in_default
unfolding encode
returns-in_default c = unended_text c.args.line.now (λ front e. c.in_default.ensures.cases front e)

pub returns-in-None : goal.returns-in-None
unfolding encode
returns-in-None c =
    let is : c.args.line.now ≡ c.in-Some.ended.now ++ 10 ∷ [] = rw c.in-Some.is at (strip_suffix_char 10 c.args.line.now c.strip_suffix.result c.strip_suffix.ensures.cases (omega arith)) in
    ended_text c.args.line.now c.in-Some.ended.now is (λ front e. c.in-None.ensures.cases front e)
