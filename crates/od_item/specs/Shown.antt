-- What the program's values show.
use Rattle.std.specs.Prelude.{option_copied}
use Rattle.od_rule_text.specs.Items.{Fields, RuleType, basic, event}
use Rattle.od_item.specs.declared.fields.Fields.{Fields as Read}
use Rattle.od_item.specs.declared.fields.RuleType.{RuleType as Chosen}
use Rattle.od_item.specs.declared.fields.RuleType.TheVariants.{Basic, Event}

-- the texts of an item
abbrev pub shown : Read → Fields
shown f = record {
  name = f.name.now;
  label = f.label.now;
  type = f.type_text.now;
  priority = option_copied f.priority;
  pattern = f.pattern.now;
}

-- the type of a rule
abbrev pub shown_type : Chosen → RuleType
shown_type Basic = basic
shown_type Event = event
