use Rattle.std.specs.Str.{chars}
use Rattle.od_written.proofs.Texts.{surface_text}
use Rattle.od_surface.proofs.Verdicts.{surface_value, surface_fault, surface_only_value, surface_only_fault, one_surface}
use Rattle.od_surface.proofs.text.parse_surface.Goals as goal

pub returns-clause-value : goal.returns-clause-value
returns-clause-value c = surface_value (chars c.args.text.now) _ c.surface_of.ensures

pub returns-clause-fault : goal.returns-clause-fault
returns-clause-fault c = surface_fault (chars c.args.text.now) _ c.surface_of.ensures

pub returns-clause-only_value : goal.returns-clause-only_value
returns-clause-only_value c = surface_only_value (chars c.args.text.now) _ c.surface_of.ensures

pub returns-clause-only_fault : goal.returns-clause-only_fault
returns-clause-only_fault c = surface_only_fault (chars c.args.text.now) _ c.surface_of.ensures

pub returns-clause-one_answer : goal.returns-clause-one_answer
returns-clause-one_answer c = one_surface (chars c.args.text.now)

pub returns-clause-reads_back : goal.returns-clause-reads_back
returns-clause-reads_back c = λ p w h keeps small. returns-clause-only_value c p (record { is = surface_text 0 (chars c.args.text.now) p w h keeps; small = small })
