-- An entry as it stands on its line.
use Rattle.od_rule_text.specs.Statements as statements
use Rattle.od_yaml.specs.declared.entry.Entry.{Entry}

-- what an entry shows
abbrev pub entry_shown : Entry → statements.Entry
entry_shown e = record { key = e.key.now; rest = e.rest.now }
