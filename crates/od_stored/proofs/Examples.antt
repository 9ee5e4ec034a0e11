-- The worked cases are computed.
use Rattle.std.proofs.Common.{refl}
use Rattle.std.specs.Str.{is_utf8, chars}
use lib.Utf8.{encode}
use Rattle.od_stored.specs.Steps.{in_a_row}
use Rattle.od_stored.specs.Numbers.{septets, septets_read}
use Rattle.od_stored.specs.Texts.{number_at, text_at}
use Rattle.od_stored.specs.Mentions.{part_bytes, mention_bytes, list_bytes}
use Rattle.od_stored.specs.ReadMentions.{label_at, part_end_at, mention_end_at, part_at, counted_at, mention_at, list_read}
use Rattle.od_stored.specs.Examples.{StoredExamples, found, found_bytes, named, named_bytes}
use Rattle.od_stored.specs.Pairs.{pairs_behind, body_bytes, blocks_of, pair_bytes}
use Rattle.od_stored.specs.ReadPairs.{packed_at, first_second_at, first_at, second_at, behind_at, behinds_at, body_at, block_at, blocks_at, pairs_read}
use Rattle.od_stored.specs.PairExamples.{PairExamples, three, seconds_from, full_block}

pub stored_examples : StoredExamples
unfolding is_utf8 chars encode in_a_row septets septets_read number_at text_at part_bytes mention_bytes list_bytes label_at part_end_at mention_end_at part_at counted_at mention_at list_read found found_bytes named named_bytes
stored_examples = record {
  one = refl;
  none = refl;
  with_parts = refl;
  one_read = refl;
  none_read = refl;
  with_parts_read = refl;
  no_byte = refl;
  other_version = refl;
  not_shortest = refl;
  greatest_count = refl;
  too_great = refl;
  sixth_byte = refl;
  four_bytes_and_the_end = refl;
  one_byte_fewer = refl;
  left_over = refl;
  no_token = refl;
  part_backwards = refl;
  not_utf8 = refl;
  short_text = refl;
  no_label_byte = refl;
}

pub pair_examples : PairExamples
unfolding septets septets_read pairs_behind body_bytes blocks_of pair_bytes packed_at first_second_at first_at second_at behind_at behinds_at body_at block_at blocks_at pairs_read three seconds_from full_block
pair_examples = record {
  three_pairs = refl;
  no_pair = refl;
  two_blocks = refl;
  length_of_two_blocks = refl;
  three_read = refl;
  none_read = refl;
  two_blocks_read = refl;
  no_byte = refl;
  one_byte_fewer = refl;
  one_byte_more = refl;
  not_shortest = refl;
  other_length = refl;
  body_before_length = refl;
  past_the_last_sentence = refl;
  past_the_last_second = refl;
  same_second = refl;
}
