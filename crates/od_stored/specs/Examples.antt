-- Worked cases: lists of mentions and their bytes, and bytes with their first faults.
use Rattle.std.specs.Prelude.{◌≡◌, ℕ, List, [], ◌∷◌, None, Some, Ok, Err, codes}
use Rattle.od_extraction.specs.declared.mention.Mention.{Mention}
use Rattle.od_stored.specs.declared.fault.CodecFault.{CodecFault}
use Rattle.od_stored.specs.declared.fault.CodecFault.TheVariants as fault
use Rattle.od_stored.specs.Mentions.{list_bytes}
use Rattle.od_stored.specs.ReadMentions.{list_read}

-- what a query finds: tokens 1 and 2 of the first sentence
unfoldable pub found : Mention
found = record {
  document = 0;
  sentence = 0;
  start = 1;
  end = 3;
  label = codes "Query";
  rule = codes "query";
  parts = [];
}

-- a list of it alone: the version, the count, the mention
unfoldable pub found_bytes : List ℕ
found_bytes =
    1 ∷ 1 ∷ 0 ∷ 0 ∷ 1 ∷ 3 ∷ 5 ∷ 0x51 ∷ 0x75 ∷ 0x65 ∷ 0x72 ∷ 0x79 ∷ 5 ∷ 0x71 ∷ 0x75 ∷ 0x65 ∷ 0x72 ∷ 0x79 ∷ 0 ∷ []

-- a capture of no token at 300, and an argument with a label
unfoldable pub named : Mention
named = record {
  document = 128;
  sentence = 2;
  start = 299;
  end = 301;
  label = codes "E";
  rule = codes "";
  parts =
      record { name = codes "c"; label = None; start = 300; end = 300 } ∷
      record { name = codes "who"; label = Some (codes "A"); start = 3; end = 4 } ∷ [];
}

unfoldable pub named_bytes : List ℕ
named_bytes =
    1 ∷ 1 ∷ 128 ∷ 1 ∷ 2 ∷ 171 ∷ 2 ∷ 173 ∷ 2 ∷ 1 ∷ 69 ∷ 0 ∷ 2 ∷
    1 ∷ 99 ∷ 0 ∷ 172 ∷ 2 ∷ 172 ∷ 2 ∷
    3 ∷ 119 ∷ 104 ∷ 111 ∷ 1 ∷ 1 ∷ 65 ∷ 3 ∷ 4 ∷ []

abbrev pub Fails : List ℕ → CodecFault → Type 0
Fails bytes f = list_read bytes ≡ Err f

pub record StoredExamples : Type 0 where
  pub one : list_bytes (found ∷ []) ≡ found_bytes
  pub none : list_bytes [] ≡ 1 ∷ 0 ∷ []
  pub with_parts : list_bytes (named ∷ []) ≡ named_bytes
  pub one_read : list_read found_bytes ≡ Ok (found ∷ [])
  pub none_read : list_read (1 ∷ 0 ∷ []) ≡ Ok []
  pub with_parts_read : list_read named_bytes ≡ Ok (named ∷ [])
  -- nothing at all
  pub no_byte : Fails [] (fault.Short 0)
  pub other_version : Fails (2 ∷ 0 ∷ []) (fault.BadTag 0)
  pub not_shortest : Fails (1 ∷ 0x81 ∷ 0 ∷ []) (fault.BadNumber 1)
  -- 2^32 - 1 mentions are announced, and none is there
  pub greatest_count : Fails (1 ∷ 0xff ∷ 0xff ∷ 0xff ∷ 0xff ∷ 0x0f ∷ []) (fault.Short 6)
  pub too_great : Fails (1 ∷ 0x80 ∷ 0x80 ∷ 0x80 ∷ 0x80 ∷ 0x10 ∷ []) (fault.BadNumber 1)
  pub sixth_byte : Fails (1 ∷ 0x80 ∷ 0x80 ∷ 0x80 ∷ 0x80 ∷ 0x80 ∷ []) (fault.BadNumber 1)
  pub four_bytes_and_the_end : Fails (1 ∷ 0x80 ∷ 0x80 ∷ 0x80 ∷ 0x80 ∷ []) (fault.Short 5)
  pub one_byte_fewer :
      Fails (1 ∷ 1 ∷ 0 ∷ 0 ∷ 1 ∷ 3 ∷ 5 ∷ 0x51 ∷ 0x75 ∷ 0x65 ∷ 0x72 ∷ 0x79 ∷ 5 ∷ 0x71 ∷ 0x75 ∷ 0x65 ∷ 0x72 ∷ 0x79 ∷ [])
      (fault.Short 18)
  pub left_over : Fails (1 ∷ 0 ∷ 0 ∷ []) (fault.Trailing 2)
  -- a span of no token, told before the label is read
  pub no_token : Fails (1 ∷ 1 ∷ 0 ∷ 0 ∷ 3 ∷ 3 ∷ 9 ∷ []) (fault.BadSpan 5)
  pub part_backwards : Fails (1 ∷ 1 ∷ 0 ∷ 0 ∷ 0 ∷ 1 ∷ 0 ∷ 0 ∷ 1 ∷ 0 ∷ 0 ∷ 4 ∷ 3 ∷ []) (fault.BadSpan 12)
  -- the label 0xff is not UTF-8; where its length promises more, the bytes are short
  pub not_utf8 : Fails (1 ∷ 1 ∷ 0 ∷ 0 ∷ 0 ∷ 1 ∷ 1 ∷ 0xff ∷ []) (fault.BadText 6)
  pub short_text : Fails (1 ∷ 1 ∷ 0 ∷ 0 ∷ 0 ∷ 1 ∷ 2 ∷ 0xff ∷ []) (fault.Short 8)
  pub no_label_byte : Fails (1 ∷ 1 ∷ 0 ∷ 0 ∷ 0 ∷ 1 ∷ 0 ∷ 0 ∷ 1 ∷ 0 ∷ 2 ∷ []) (fault.BadTag 10)
