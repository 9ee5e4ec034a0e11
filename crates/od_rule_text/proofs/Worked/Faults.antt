-- First faults of rule files, worked out.
use Rattle.std.specs.Prelude.{◌≡◌, ℕ, refl, List, [], ◌∷◌, ◌++◌, Option, Some, None, Result, Ok, Err, codes}
use Rattle.od_rule_text.specs.declared.rule_file.RuleFile.{RuleFile}
use Rattle.od_rule_text.specs.declared.rule_file.YamlKind.{YamlKind}
use Rattle.od_rule_text.specs.declared.rule_file.YamlKind.TheVariants.{Tab, Indent, Item, BadKey, SameKey, BadScalar, NoRules}
use Rattle.od_rule_text.specs.RuleFiles.{rule_file_of}

-- the fault of a text, where it has one
abbrev fault_in : Result RuleFile (ℕ × YamlKind) → Option (ℕ × YamlKind)
fault_in (Ok file) = None
fault_in (Err fault) = Some fault

fault_of : List ℕ → Option (ℕ × YamlKind)
fault_of text = fault_in (rule_file_of text)

-- what computes them
computing : Unit {0}
unfolding rule_file_of fault_of
computing = tt

-- ## An item where none may begin

before_any_section : fault_of (codes "- name: a\n") ≡ Some (1, BadKey)
unfolding computing
before_any_section = refl

under_vars : fault_of (codes "vars:\n  a: b\n- name: a\n") ≡ Some (3, BadKey)
unfolding computing
under_vars = refl

indented_under_vars : fault_of (codes "vars:\n  - name: a\n") ≡ Some (2, BadKey)
unfolding computing
indented_under_vars = refl

at_column_0_with_items_at_2 : fault_of (codes "rules:\n  - name: a\n- name: b\n") ≡ Some (3, BadKey)
unfolding computing
at_column_0_with_items_at_2 = refl

at_the_keys : fault_of (codes "rules:\n- name: a\n  - name: b\n") ≡ Some (3, BadKey)
unfolding computing
at_the_keys = refl

back_after_vars : fault_of (codes "rules:\n- name: a\nvars:\n  v: b\n- name: c\n") ≡ Some (5, BadKey)
unfolding computing
back_after_vars = refl

-- ## No item where one must begin

entry_before_any_item : fault_of (codes "rules:\nx: y\n") ≡ Some (2, BadKey)
unfolding computing
entry_before_any_item = refl

entry_at_the_items : fault_of (codes "rules:\n- name: a\nx: y\n") ≡ Some (3, Item)
unfolding computing
entry_at_the_items = refl

indented_entry : fault_of (codes "rules:\n  x: y\n") ≡ Some (2, Item)
unfolding computing
indented_entry = refl

indented_heading : fault_of (codes "rules:\n  vars:\n") ≡ Some (2, Item)
unfolding computing
indented_heading = refl

-- ## A dash

dash_before_any_item : fault_of (codes "rules:\n-\n") ≡ Some (2, BadKey)
unfolding computing
dash_before_any_item = refl

indented_dash : fault_of (codes "rules:\n  -\n") ≡ Some (2, Item)
unfolding computing
indented_dash = refl

dash_at_the_items : fault_of (codes "rules:\n- name: a\n-\n") ≡ Some (3, Item)
unfolding computing
dash_at_the_items = refl

dash_and_blank : fault_of (codes "rules:\n- \n") ≡ Some (2, BadKey)
unfolding computing
dash_and_blank = refl

two_blanks_behind_a_dash : fault_of (codes "rules:\n-  name: a\n") ≡ Some (2, BadKey)
unfolding computing
two_blanks_behind_a_dash = refl

-- ## Columns

heading_above_0 : fault_of (codes " rules:\n") ≡ Some (1, Indent)
unfolding computing
heading_above_0 = refl

between_columns : fault_of (codes "rules:\n- name: a\n label: b\n") ≡ Some (3, Indent)
unfolding computing
between_columns = refl

beyond_the_keys : fault_of (codes "rules:\n- name: a\n   label: b\n") ≡ Some (3, Indent)
unfolding computing
beyond_the_keys = refl

other_column_under_vars : fault_of (codes "vars:\n  a: b\n   c: d\n") ≡ Some (3, Indent)
unfolding computing
other_column_under_vars = refl

tab : fault_of (codes "rules:\n\t- name: a\n") ≡ Some (2, Tab)
unfolding computing
tab = refl

tab_behind_spaces : fault_of (codes "rules:\n \tx\n") ≡ Some (2, Tab)
unfolding computing
tab_behind_spaces = refl

-- a line of blanks alone and a comment line are no lines with a tab
skipped_tabs : fault_of (codes "\t\n \t# c\nrules:\n") ≡ Some (3, NoRules)
unfolding computing
skipped_tabs = refl

-- ## Keys

heading_and_blank : fault_of (codes "rules: \n") ≡ Some (1, BadKey)
unfolding computing
heading_and_blank = refl

heading_and_comment : fault_of (codes "rules: # c\n") ≡ Some (1, BadKey)
unfolding computing
heading_and_comment = refl

byte_order_mark : fault_of (239 ∷ 187 ∷ 191 ∷ codes "rules:\n") ≡ Some (1, BadKey)
unfolding computing
byte_order_mark = refl

no_blank_behind_the_colon : fault_of (codes "rules:\n- name:\n") ≡ Some (2, BadKey)
unfolding computing
no_blank_behind_the_colon = refl

tab_behind_the_colon : fault_of (codes "rules:\n- name:\t\n") ≡ Some (2, BadKey)
unfolding computing
tab_behind_the_colon = refl

-- 64 letters are a key, 65 are none
abbrev letters : List ℕ
letters = codes "abcdefghijklmnopqrstuvwxyzabcdefghijklmnopqrstuvwxyzabcdefghijkl"

long_key : fault_of (codes "vars:\n " ++ letters ++ codes ": b\n") ≡ Some (1, NoRules)
unfolding computing
long_key = refl

longer_key : fault_of (codes "vars:\n " ++ letters ++ codes "m: b\n") ≡ Some (2, BadKey)
unfolding computing
longer_key = refl

second_vars : fault_of (codes "vars:\nvars:\n") ≡ Some (2, SameKey)
unfolding computing
second_vars = refl

second_rules : fault_of (codes "rules:\n- name: a\nrules:\n") ≡ Some (3, SameKey)
unfolding computing
second_rules = refl

repeated_key_with_bad_scalar : fault_of (codes "rules:\n- name: a\n  name: [\n") ≡ Some (3, SameKey)
unfolding computing
repeated_key_with_bad_scalar = refl

repeated_variable : fault_of (codes "vars:\n a: b\n a: c\n") ≡ Some (3, SameKey)
unfolding computing
repeated_variable = refl

-- ## Scalars

nothing_behind_the_key : fault_of (codes "rules:\n- name: \n") ≡ Some (2, BadScalar)
unfolding computing
nothing_behind_the_key = refl

two_blanks_before_a_quote : fault_of (codes "rules:\n- name:  \"a\"\n") ≡ Some (2, BadScalar)
unfolding computing
two_blanks_before_a_quote = refl

two_blanks_before_a_literal : fault_of (codes "rules:\n- name:  |\n") ≡ Some (2, BadScalar)
unfolding computing
two_blanks_before_a_literal = refl

list : fault_of (codes "rules:\n- name: a\n  label: [b]\n") ≡ Some (3, BadScalar)
unfolding computing
list = refl

-- a literal's first line that is not deeper than its key is a line of its own
shallow_literal : fault_of (codes "rules:\n- pattern: |\n  a\n") ≡ Some (3, BadKey)
unfolding computing
shallow_literal = refl

-- ## No rules

empty : fault_of [] ≡ Some (1, NoRules)
unfolding computing
empty = refl

rules_alone : fault_of (codes "# c\nvars:\nrules:\n") ≡ Some (3, NoRules)
unfolding computing
rules_alone = refl

-- the first line with a fault decides, not the kind
first_line : fault_of (codes "rules:\n- name: [\n\t- name: b\n") ≡ Some (2, BadScalar)
unfolding computing
first_line = refl
