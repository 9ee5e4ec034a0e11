-- The worked cases are computed.
use Rattle.std.proofs.Common.{refl}
use lib.Utf8.{encode}
use Rattle.std.specs.Str.{chars}
use denote.Hole.Carrier.{hidden}
use Rattle.od_pattern.specs.declared.path.Path.TheBlock.{hidden-the_row-Path-0, hidden-the_row-Path-1}
use Rattle.od_pattern.specs.declared.pattern.Surface.TheBlock.{hidden-the_row-Surface-0, hidden-the_row-Surface-1}
use Rattle.od_language.specs.Fields.{field_named}
use Rattle.od_language.specs.Forms.{form}
use Rattle.od_rule_text.specs.Expansion.{expanded}
use Rattle.od_rule_text.specs.Expressions.{constraint_expressions, surface_expressions, path_expressions}
use Rattle.od_rule_text.specs.Grammars.{grammar_read}
use Rattle.od_rule_text.specs.Labels.{surface_labels}
use Rattle.od_rule_text.specs.Priorities.{priority_of}
use Rattle.od_rule_text.specs.RuleFiles.{rule_file_of}
use Rattle.od_grammars.specs.Examples.{FileExamples, QueryExamples, FaultExamples}

-- what computes them
computing : Unit {0}
unfolding chars grammar_read rule_file_of expanded priority_of surface_labels constraint_expressions surface_expressions path_expressions form field_named encode hidden hidden-the_row-Surface-0 hidden-the_row-Surface-1 hidden-the_row-Path-0 hidden-the_row-Path-1
computing = tt

pub file_examples : FileExamples
unfolding computing
file_examples = record { basic_and_event = refl }

pub query_examples : QueryExamples
unfolding computing
query_examples = record { with_path = refl; beyond_ascii = refl }

pub fault_examples : FaultExamples
unfolding computing
fault_examples = record {
  choice_before_steps = refl;
  trigger_with_steps = refl;
  no_event = refl;
  in_a_variable = refl;
  in_a_query = refl;
  empty_query = refl;
  unknown_label = refl;
  no_room = refl;
}
