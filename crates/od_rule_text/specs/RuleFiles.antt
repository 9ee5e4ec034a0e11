-- What a rule file says, or its first fault: a fold over its statements.
use Rattle.std.specs.Prelude.{◌≡◌, ℕ, ◌+◌, ◌==◌, ◌&&◌, ◌||◌, not, Bool, true, false, List, [], ◌∷◌, ◌++◌, if◌then◌else◌, Option, None, Some, unwrap_or, Result, Ok, Err, codes}
use Rattle.std.specs.Option.{is_some}
use Rattle.std.specs.List.{list_any}
use Rattle.std.specs.Str.{bytes_eq}
use Rattle.std.specs.Str.Lines.{lines}
use Rattle.od_rule_text.specs.declared.rule_file.KeyText.{KeyText}
use Rattle.od_rule_text.specs.declared.rule_file.RuleFile.{RuleFile}
use Rattle.od_rule_text.specs.declared.rule_file.YamlKind.{YamlKind}
use Rattle.od_rule_text.specs.declared.rule_file.YamlKind.TheVariants.{Tab, Indent, Item, BadKey, SameKey, BadScalar, NoRules}
use Rattle.od_rule_text.specs.declared.rule_file.YamlFault.{YamlFault}
use Rattle.od_rule_text.specs.declared.rule_file.YamlFault.TheVariants as fault
use Rattle.od_rule_text.specs.Texts.{begins_with}
use Rattle.od_rule_text.specs.Scalars.{scalar}
use Rattle.od_rule_text.specs.Statements.{Statement, Entry, is_item, entry_of, statements}

-- under `vars:`, or under `rules:`
pub data Section : Type 0 where
  in_vars : Section
  in_rules : Section

-- What some statements have said.
pub record Outline : Type 0 where
  -- the section in which they end, where one has begun
  pub section : Option Section
  -- whether `vars:` stands among them, and the line of `rules:`
  pub has_vars : Bool
  pub rules_line : Option ℕ
  -- the columns of the entries under `vars:` and of the items under `rules:`
  pub vars_column : Option ℕ
  pub items_column : Option ℕ
  -- the entries under `vars:`
  pub vars : List KeyText
  -- the items before the last, and the entries of the last, which may go on
  pub complete : List (List KeyText)
  pub item : List KeyText

-- before the first statement
abbrev pub nothing_said : Outline
nothing_said = record {
  section = None;
  has_vars = false;
  rules_line = None;
  vars_column = None;
  items_column = None;
  vars = [];
  complete = [];
  item = [];
}

-- complete items and the last one, where there is one
abbrev pub with_last_item : List (List KeyText) → List KeyText → List (List KeyText)
with_last_item complete [] = complete
with_last_item complete (e ∷ item) = complete ++ (e ∷ item) ∷ []

-- all items
abbrev pub items_of : Outline → List (List KeyText)
items_of o = with_last_item o.complete o.item

-- ## Where a statement may stand

-- whether a column is this one, where it is known
abbrev pub fits : Option ℕ → ℕ → Bool
fits None column = true
fits (Some c) column = column == c

-- whether a column is that of the items or of their keys, where it is known
abbrev pub fits_item : Option ℕ → ℕ → Bool
fits_item None column = true
fits_item (Some c) column = column == c || column == c + 2

-- whether a statement may stand at this column, above 0
abbrev pub may_stand : Option Section → Outline → ℕ → Bool
may_stand None o column = false
may_stand (Some in_vars) o column = fits o.vars_column column
may_stand (Some in_rules) o column = fits_item o.items_column column

-- whether an item must begin at this column:
-- it is that of the items, or it is above 0 and the first item is awaited
abbrev pub wants_item : Option Section → Option ℕ → ℕ → Bool
wants_item None items_column column = false
wants_item (Some in_vars) items_column column = false
wants_item (Some in_rules) None column = not (column == 0)
wants_item (Some in_rules) (Some c) column = column == c

-- the section that a statement begins: `vars:` or `rules:` at column 0
abbrev pub heading : ℕ → List ℕ → Option Section
heading column text =
    if column == 0 && bytes_eq text (codes "vars:") then Some in_vars else
    if column == 0 && bytes_eq text (codes "rules:") then Some in_rules else
    None

-- whether a statement begins with `- `, or is a heading
abbrev pub begins_item_or_section : Statement → Bool
begins_item_or_section s = is_item s.text || is_some (heading s.column s.text)

-- why a statement may not stand where it stands
abbrev pub misplaced : Outline → Statement → Option YamlKind
misplaced o s =
    if begins_with 9 s.text then Some Tab else
    if not (s.column == 0 || may_stand o.section o s.column) then Some Indent else
    if wants_item o.section o.items_column s.column && not (begins_item_or_section s)
    then Some Item
    else None

-- ## Entries

-- what an entry is: a variable, the first key of an item, or a further key of the last item
pub data Role : Type 0 where
  variable : Role
  first_key : Role
  further_key : Role

-- what an entry is that stands at this column of a section; none where no entry may begin there
abbrev pub role_of : Option Section → Option ℕ → ℕ → List ℕ → Option Role
role_of None items_column column text = None
role_of (Some in_vars) items_column column text =
    if column == 0 || is_item text then None else Some variable
role_of (Some in_rules) items_column column text =
    if is_item text then (if fits items_column column then Some first_key else None) else
    if column == 0 then None else
    Some further_key

-- the entries among which its key must be new
abbrev pub siblings : Outline → Role → List KeyText
siblings o variable = o.vars
siblings o first_key = []
siblings o further_key = o.item

-- whether one of the entries has this key
abbrev pub has_key : List ℕ → List KeyText → Bool
has_key key entries = list_any (λ e. bytes_eq e.key key) entries

-- one entry more
abbrev pub with_entry : Outline → Role → ℕ → KeyText → Outline
with_entry o variable column e = record o { vars_column = Some column; vars = o.vars ++ e ∷ [] }
with_entry o first_key column e =
    record o { items_column = Some column; complete = items_of o; item = e ∷ [] }
with_entry o further_key column e = record o { item = o.item ++ e ∷ [] }

-- ## One statement

-- at the heading of a section, which must be new
abbrev pub enter : Outline → ℕ → Section → Result Outline YamlKind
enter o line in_vars =
    if o.has_vars then Err SameKey else Ok (record o { section = Some in_vars; has_vars = true })
enter o line in_rules =
    if is_some o.rules_line then Err SameKey else
    Ok (record o { section = Some in_rules; rules_line = Some line })

-- with a new key and its scalar
abbrev pub take_scalar : Outline → Role → ℕ → List ℕ → Option (List ℕ) → Result Outline YamlKind
take_scalar o role column key None = Err BadScalar
take_scalar o role column key (Some text) =
    Ok (with_entry o role column (record { key = key; value = text }))

-- with an entry, to which these lines belong
abbrev pub take_entry : Outline → Role → ℕ → List (List ℕ) → Option Entry → Result Outline YamlKind
take_entry o role column below None = Err BadKey
take_entry o role column below (Some e) =
    if has_key e.key (siblings o role) then Err SameKey else
    take_scalar o role column e.key (scalar e.rest below)

-- with a statement that is an entry, where one may begin there
abbrev pub take_role : Outline → Statement → Option Role → Result Outline YamlKind
take_role o s None = Err BadKey
take_role o s (Some role) = take_entry o role s.column s.below (entry_of s.text)

-- with a statement that may stand where it stands: a heading, or an entry
abbrev pub take_placed : Outline → Statement → Option Section → Result Outline YamlKind
take_placed o s (Some section) = enter o s.line section
take_placed o s None = take_role o s (role_of o.section o.items_column s.column s.text)

-- with a statement, unless it may not stand where it stands
abbrev pub take_unless : Outline → Statement → Option YamlKind → Result Outline YamlKind
take_unless o s (Some kind) = Err kind
take_unless o s None = take_placed o s (heading s.column s.text)

-- what is said with one statement more, or the first fault of its line
abbrev pub take_statement : Outline → Statement → Result Outline YamlKind
take_statement o s = take_unless o s (misplaced o s)

-- ## The file

-- a rule file, or the line and the kind of its first fault
abbrev pub Reading : Type 0
Reading = Result RuleFile (ℕ × YamlKind)

-- at the end there must be an item
abbrev pub file_of : Outline → List (List KeyText) → Reading
file_of o [] = Err (unwrap_or o.rules_line 1, NoRules)
file_of o (item ∷ items) = Ok (record { vars = o.vars; rules = item ∷ items })

-- what follows what was said, or the fault at this line
abbrev pub goes_on : ℕ → (Outline → Reading) → Result Outline YamlKind → Reading
goes_on line more (Ok o) = more o
goes_on line more (Err kind) = Err (line, kind)

-- statement by statement
abbrev pub file_after : Outline → List Statement → Reading
file_after o [] = file_of o (items_of o)
file_after o (s ∷ more) = goes_on s.line (λ next. file_after next more) (take_statement o s)

-- the rule file that a text is, or its first fault with its line
unfoldable pub rule_file_of : List ℕ → Reading
rule_file_of text = file_after nothing_said (statements 1 0 (lines text))

-- what a reader may answer in place of a rule file: the first fault, or that memory was refused
abbrev pub IsYamlFault : List ℕ → YamlFault → Type 0
IsYamlFault text (fault.Bad line kind) = rule_file_of text ≡ Err (line, kind)
IsYamlFault text fault.NoMemory = Unit {0}
