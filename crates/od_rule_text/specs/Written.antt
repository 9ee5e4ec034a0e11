-- A rule file written out, each value between double quotes.
use Rattle.std.specs.Prelude.{ℕ, ◌==◌, ◌||◌, if◌then◌else◌, List, [], ◌∷◌, ◌++◌, map, codes}
use Rattle.std.specs.List.{flat_map}
use Rattle.od_rule_text.specs.declared.rule_file.KeyText.{KeyText}
use Rattle.od_rule_text.specs.declared.rule_file.RuleFile.{RuleFile}

-- a byte of a value; `"`, `\` and line feeds stand behind a backslash
abbrev pub escape : ℕ → List ℕ
escape c =
    if c == 34 || c == 92 then 92 ∷ c ∷ [] else
    if c == 10 then 92 ∷ 110 ∷ [] else
    c ∷ []

-- a value without its quotes
abbrev pub escaped_text : List ℕ → List ℕ
escaped_text [] = []
escaped_text (c ∷ text) = escape c ++ escaped_text text

-- an entry: its key, `: `, and its value between double quotes
abbrev pub written_entry : KeyText → List ℕ
written_entry e = e.key ++ 58 ∷ 32 ∷ 34 ∷ (escaped_text e.value ++ 34 ∷ [])

-- on a line of its own
abbrev pub entry_line : KeyText → List ℕ
entry_line e = 32 ∷ 32 ∷ written_entry e

-- the lines of an item
abbrev pub item_lines : List KeyText → List (List ℕ)
item_lines [] = []
item_lines (e ∷ more) = (45 ∷ 32 ∷ written_entry e) ∷ map entry_line more

-- the lines of a rule file
abbrev pub file_lines : RuleFile → List (List ℕ)
file_lines file = codes "vars:" ∷ (map entry_line file.vars ++ codes "rules:" ∷ flat_map item_lines file.rules)

-- each line with a line feed
abbrev pub joined : List (List ℕ) → List ℕ
joined [] = []
joined (line ∷ more) = line ++ 10 ∷ joined more

-- a rule file as a text
abbrev pub written_file : RuleFile → List ℕ
written_file file = joined (file_lines file)
