-- Sections, and roles of entries, as the definitions name them.
use Rattle.od_rule_text.specs.RuleFiles as files
use Rattle.od_yaml.specs.declared.section.Section.{Section}
use Rattle.od_yaml.specs.declared.section.Section.TheVariants.{Vars, Rules}
use Rattle.od_yaml.specs.declared.section.Role.{Role}
use Rattle.od_yaml.specs.declared.section.Role.TheVariants.{Variable, FirstKey, FurtherKey}

-- a section as it is defined
abbrev pub section_shown : Section → files.Section
section_shown Vars = files.in_vars
section_shown Rules = files.in_rules

-- a role as it is defined
abbrev pub role_shown : Role → files.Role
role_shown Variable = files.variable
role_shown FirstKey = files.first_key
role_shown FurtherKey = files.further_key
