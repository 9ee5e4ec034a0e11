-- The worked cases are computed.
use Rattle.std.proofs.Common.{refl}
use lib.Utf8.{encode}
use Rattle.std.specs.Str.{is_utf8, chars}
use Rattle.std.specs.Str.Lossy.{utf8_valid_len}
use denote.Hole.Carrier.{hidden}
use Rattle.od_order.specs.Scripts.{script_of}
use Rattle.od_order.specs.Cases.{ScriptCases, FaultCases}

pub script_cases : ScriptCases
unfolding encode hidden script_of is_utf8 chars utf8_valid_len
script_cases = record {
  empty = refl;
  skipped = refl;
  unended = refl;
  query = refl;
  rules = refl;
  documents = refl;
  clients = refl;
}

pub fault_cases : FaultCases
unfolding encode hidden script_of is_utf8 chars utf8_valid_len
fault_cases = record {
  not_utf8 = refl;
  not_utf8_first = refl;
  rules_not_utf8 = refl;
  short_first = refl;
  any_bytes = refl;
  bad_word = refl;
  blank = refl;
  two_returns = refl;
  lone_return = refl;
  late_head = refl;
  no_client = refl;
  shape = refl;
  too_many_words = refl;
  client_shape = refl;
  bad_name = refl;
  name_first = refl;
  bad_number = refl;
  long_number = refl;
  same_head = refl;
  short_block = refl;
}
