-- The worked cases are computed.
use Rattle.std.proofs.Common.{refl}
use lib.Utf8.{encode}
use denote.Hole.Carrier.{hidden}
use Rattle.od_pattern.specs.declared.pattern.Surface.TheBlock.{hidden-the_row-Surface-0, hidden-the_row-Surface-1}
use Rattle.od_pattern.specs.declared.path.Path.TheBlock.{hidden-the_row-Path-0, hidden-the_row-Path-1}
use Rattle.od_language.specs.Fields.{field_named}
use Rattle.od_language.specs.Forms.{form}
use Rattle.od_syntax.specs.Examples.{SurfaceExamples, HopExamples, PathExamples, EventHeadExamples, EventTextExamples, EventExamples, StepsExamples}

pub surface_examples : SurfaceExamples
unfolding form field_named encode hidden hidden-the_row-Surface-0 hidden-the_row-Surface-1
surface_examples = record {
  empty = refl;
  blank = refl;
  close_before_character = refl;
  field_before_character = refl;
  range_before_open_text = refl;
  character = refl;
  field_without_equal = refl;
  field_alone = refl;
  no_equal = refl;
  no_identifier = refl;
  no_identifier_later = refl;
  no_steps = refl;
  no_turn = refl;
  no_turn_between = refl;
  no_turn_at_most = refl;
  no_number = refl;
  no_digits = refl;
  leading_zero = refl;
  great_number = refl;
  nullable_body = refl;
  nullable_place = refl;
  same_capture_in_choices = refl;
  blank_beyond_ascii = refl;
  field_closed = refl;
  no_place_of_a_field = refl;
  no_identifier_beyond_ascii = refl;
  no_identifier_that_long = refl;
  no_name_that_long = refl;
  long_expression = refl;
  long_expression_out_of_place = refl;
  third_separator = refl;
  fourth_separator = refl;
  word_of_no_width = refl;
  not_closed_and_great = refl;
  too_deep = refl;
  too_big = refl;
  too_big_before_character = refl;
}

pub hop_examples : HopExamples
unfolding form field_named encode hidden hidden-the_row-Surface-0 hidden-the_row-Surface-1 hidden-the_row-Path-0 hidden-the_row-Path-1
hop_examples = record {
  empty = refl;
  blank = refl;
  steps_first = refl;
  steps_in_a_surface = refl;
  steps_behind_a_choice = refl;
  choice_before_steps = refl;
  choice_behind_steps = refl;
  steps_last = refl;
  bracket_of_a_surface = refl;
  steps_in_a_constraint = refl;
  steps_in_a_negation = refl;
  steps_in_a_later_constraint = refl;
  lazy_path = refl;
  nullable_body = refl;
  same_capture = refl;
  character = refl;
  too_big = refl;
  choices_in_steps = refl;
  steps_in_steps = refl;
  bracket_behind_steps = refl;
  choices_alone = refl;
  choices_in_brackets = refl;
  two_steps = refl;
  plain_steps = refl;
}

pub path_examples : PathExamples
unfolding form field_named encode hidden hidden-the_row-Surface-0 hidden-the_row-Surface-1
path_examples = record {
  empty = refl;
  blank = refl;
  lazy = refl;
  word = refl;
  choice = refl;
  not_closed = refl;
}

pub event_head_examples : EventHeadExamples
unfolding form field_named encode hidden hidden-the_row-Surface-0 hidden-the_row-Surface-1 hidden-the_row-Path-0 hidden-the_row-Path-1
event_head_examples = record {
  empty = refl;
  blank = refl;
  no_trigger = refl;
  no_trigger_behind_blanks = refl;
  trigger_without_equal = refl;
  label_of_trigger = refl;
  quantifier_of_trigger = refl;
  argument_without_equal = refl;
  no_label = refl;
  no_label_behind_blanks = refl;
  no_name_that_long = refl;
  argument_called_trigger = refl;
  label = refl;
  blanks_between_pieces = refl;
  capture_before_path = refl;
  name_before_path = refl;
}

pub event_text_examples : EventTextExamples
unfolding form field_named encode hidden hidden-the_row-Surface-0 hidden-the_row-Surface-1 hidden-the_row-Path-0 hidden-the_row-Path-1
event_text_examples = record {
  trigger_is_no_hop = refl;
  text_ends_at_its_line = refl;
  close_before_character = refl;
  character_before_next_line = refl;
  no_path = refl;
  no_path_in_its_line = refl;
  no_path_before_a_return = refl;
  no_equal_in_a_later_line = refl;
  returns = refl;
  too_big = refl;
  too_big_before_no_path = refl;
}

pub event_examples : EventExamples
event_examples = record { heads = event_head_examples; texts = event_text_examples }

pub steps_examples : StepsExamples
unfolding form field_named encode hidden hidden-the_row-Surface-0 hidden-the_row-Surface-1
steps_examples = record {
  at_the_beginning = refl;
  in_a_surface = refl;
  behind_a_choice = refl;
  in_a_constraint = refl;
  in_a_negation = refl;
  in_a_filter = refl;
  before_a_constraint = refl;
  outside_choices = refl;
  first_bracket_alone = refl;
  inner_steps = refl;
}
