use Rattle.std.proofs.Common.{◌≡◌, ◌<◌, ◌^◌, drop}
use Rattle.od_order.specs.Names.{digits_from}
use Rattle.od_script.proofs.words.digits.Given as goal

abbrev pub invariant-loop-byte : goal.invariant-loop-byte
invariant-loop-byte l = record {
  left : digits_from 0 l.fn.text ≡ digits_from l.number (drop l.byte-index l.text);
  below : l.number < 10 ^ l.byte-index;
}
