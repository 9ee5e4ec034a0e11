-- The entries of an item as a rule has them.
use Rattle.std.specs.Prelude.{ℕ, ◌&&◌, Bool, List, [], ◌∷◌, length, nat_le, if◌then◌else◌, Option, None, Some, codes}
use Rattle.std.specs.Option.{option_map}
use Rattle.std.specs.List.{list_all, find}
use Rattle.std.specs.Str.{bytes_eq}
use Rattle.od_rule_text.specs.declared.rule_file.KeyText.{KeyText}
use Rattle.od_rule_text.specs.declared.limits.TheConstants.{RULE_NAME_BYTES}
use Rattle.od_rule_text.specs.Expansion.{is_named}
use Rattle.od_rule_text.specs.Texts.{is_among}

-- the keys of a rule
abbrev pub rule_keys : List (List ℕ)
rule_keys = codes "name" ∷ codes "label" ∷ codes "type" ∷ codes "priority" ∷ codes "pattern" ∷ []

-- whether all keys are those of a rule
abbrev pub has_rule_keys : List KeyText → Bool
has_rule_keys entries = list_all (λ e. is_among rule_keys e.key) entries

-- the text of a key, where it is there
abbrev pub value_of : List ℕ → List KeyText → Option (List ℕ)
value_of key entries = option_map (λ e. e.value) (find (is_named key) entries)

-- the types of rules
pub data RuleType : Type 0 where
  basic : RuleType
  event : RuleType

-- the type that a text names
abbrev pub type_of : List ℕ → Option RuleType
type_of text =
    if bytes_eq text (codes "basic") then Some basic else
    if bytes_eq text (codes "event") then Some event else
    None

-- the texts of an item for the keys of a rule
pub record Fields : Type 0 where
  pub name : List ℕ
  pub label : List ℕ
  pub type : List ℕ
  pub priority : Option (List ℕ)
  pub pattern : List ℕ

-- all but the priority must be there
abbrev pub fields_with : (name label type priority pattern : Option (List ℕ)) → Option Fields
fields_with (Some name) (Some label) (Some type) priority (Some pattern) =
    Some (record { name = name; label = label; type = type; priority = priority; pattern = pattern })
fields_with name label type priority pattern = None

-- the texts of an item
abbrev pub fields_of : List KeyText → Option Fields
fields_of entries =
    fields_with (value_of (codes "name") entries) (value_of (codes "label") entries)
    (value_of (codes "type") entries) (value_of (codes "priority") entries)
    (value_of (codes "pattern") entries)

-- the name of a rule has 1 to 64 bytes
abbrev pub is_rule_name : List ℕ → Bool
is_rule_name name = nat_le 1 (length name) && nat_le (length name) RULE_NAME_BYTES
