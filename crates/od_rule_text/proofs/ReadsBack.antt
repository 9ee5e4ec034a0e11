-- A rule file that is written out is read as what was written.
use Rattle.std.proofs.Common.{◌≡◌, ◌≢◌, ℕ, ◌+◌, ◌-◌, ◌<◌, List, [], ◌∷◌, ◌++◌, length, map, Bool, true, false, refl, sym, ap, ap₂, ◌∙◌, subst, arith, Option, None, Some, Ok, append_assoc, append-nil}
use Rattle.std.specs.Prelude.{◌==◌, ◌&&◌, ◌||◌, if◌then◌else◌, nat_lt, not, slice_index, codes}
use Rattle.std.specs.List.{list_all, slice_split, flat_map}
use Rattle.std.specs.Str.Lines.{lines, lines_of_parts, strip_carriage_return}
use Rattle.std.specs.Int.{is_in_range}
use Rattle.std.proofs.lemmas.Bool.{false≢true, eqb-true, ne_eqb}
use Rattle.std.proofs.lemmas.List.Folds.{list_all-append}
use Rattle.od_text.specs.Lists.{Each, points_after}
use Rattle.od_text.specs.Cuts.{split_once}
use Rattle.od_text.proofs.Lists.{Each-append}
use Rattle.od_language.specs.Identifier.{is_identifier, begins_identifier, in_identifier}
use Rattle.od_rule_text.specs.declared.rule_file.KeyText.{KeyText}
use Rattle.od_rule_text.specs.declared.rule_file.RuleFile.{RuleFile}
use Rattle.od_rule_text.specs.Scalars.{quoted}
use Rattle.od_rule_text.specs.Written.{escape, escaped_text, written_entry, entry_line, item_lines, file_lines, joined}
use Rattle.od_rule_text.specs.Statements.{Statement, cut_entry, entry_of, is_item, statement_of, statements}
use Rattle.od_rule_text.specs.Texts.{begins_with}
use Rattle.od_rule_text.specs.Blanks.{says_nothing, indentation}
use Rattle.od_rule_text.specs.RuleFiles.{Reading, in_vars, in_rules, Outline, nothing_said, with_last_item, fits, heading, misplaced, Role, variable, first_key, further_key, role_of, siblings, has_key, with_entry, take_entry, take_role, take_placed, take_unless, take_statement, goes_on, file_of, file_after, rule_file_of}
use Rattle.od_rule_text.specs.Laws.{HasKeys, IsItem, IsRuleFile, ReadsBack}
use Rattle.od_rule_text.proofs.Outcomes.{both}
use Rattle.od_rule_text.proofs.Cutting.{Avoids, cut_at, split_line, last_byte}

-- ## Values

-- a byte that was escaped is read as itself
escaped_byte : (c : ℕ) (rest value : List ℕ) (mark slash feed : Bool) → (c == 34) ≡ mark → (c == 92) ≡ slash → (c == 10) ≡ feed → quoted false rest ≡ Some value →
    quoted false ((if mark || slash then 92 ∷ c ∷ [] else if feed then 92 ∷ 110 ∷ [] else c ∷ []) ++ rest) ≡ Some (c ∷ value)
escaped_byte c rest value true slash feed m s f h = rw (m, h) refl
escaped_byte c rest value false true feed m s f h = rw (m, s, h) refl
escaped_byte c rest value false false true m s f h = rw (h, eqb-true c 10 f) refl
escaped_byte c rest value false false false m s f h = rw (m, s, h) refl

value_back : (text : List ℕ) → quoted false (escaped_text text ++ 34 ∷ []) ≡ Some text
value_back [] = refl
value_back (c ∷ text) =
    ap (quoted false) (append_assoc (escape c) (escaped_text text) (34 ∷ []))
    ∙ escaped_byte c (escaped_text text ++ 34 ∷ []) text (c == 34) (c == 92) (c == 10) refl refl refl (value_back text)

-- ## Lines

-- a line in which no line feed stands, and at whose end no carriage return
record IsLine (line : List ℕ) : Type 0 where
  feeds : Avoids 10 line
  ends : (slice_index line (length line - 1) == 13) ≡ false

stripped : (line : List ℕ) → IsLine line → strip_carriage_return line ≡ line
stripped line h = rw h.ends refl

parts_lines : (ls : List (List ℕ)) → Each IsLine ls → lines_of_parts (ls ++ [] ∷ []) ≡ ls
parts_lines [] h = refl
parts_lines (l ∷ []) h = ap (λ x. x ∷ []) (stripped l h.0)
parts_lines (l ∷ m ∷ more) h = rw (stripped l h.0) (ap (λ xs. l ∷ xs) (parts_lines (m ∷ more) h.1))

joined_parts : (ls : List (List ℕ)) → Each IsLine ls → slice_split (λ b. b == 10) (joined ls) ≡ ls ++ [] ∷ []
joined_parts [] h = refl
joined_parts (l ∷ more) h = split_line 10 l (joined more) h.0.feeds ∙ ap (λ xs. l ∷ xs) (joined_parts more h.1)

lines_back : (ls : List (List ℕ)) → Each IsLine ls → lines (joined ls) ≡ ls
lines_back ls h = ap lines_of_parts (joined_parts ls h) ∙ parts_lines ls h

-- ## Keys

-- what an identifier's characters are not
no_such : (c : ℕ) → in_identifier c ≡ false → (xs : List ℕ) → list_all in_identifier xs ≡ true → Avoids c xs
no_such c other [] h = refl
no_such c other (x ∷ xs) h =
    let t = both (in_identifier x) (list_all in_identifier xs) h in
    let apart : x ≢ c = λ same. false≢true (sym other ∙ ap in_identifier (sym same) ∙ t.0) in
    rw (ne_eqb x c apart) (no_such c other xs t.1)

-- a key begins with a character of identifiers, and so do the others
record IsKey (key : List ℕ) : Type 0 where
  first : ℕ
  more : List ℕ
  is : key ≡ first ∷ more
  begins : begins_identifier first ≡ true
  characters : list_all in_identifier key ≡ true
  named : is_identifier key ≡ true

wider : (digit upper lower line : Bool) → ((upper || lower) || line) ≡ true → (((digit || upper) || lower) || line) ≡ true
wider true upper lower line h = refl
wider false upper lower line h = h

begins_in : (c : ℕ) → begins_identifier c ≡ true → in_identifier c ≡ true
begins_in c h = wider (is_in_range 48 57 c) (is_in_range 65 90 c) (is_in_range 97 122 c) (c == 95) h

key_of : (key : List ℕ) → is_identifier key ≡ true → IsKey key
key_of [] h = absurd (cc)
key_of (c ∷ more) h =
    let m = both (begins_identifier c && nat_lt (length more) 64) (list_all in_identifier more) h in
    let b = both (begins_identifier c) (nat_lt (length more) 64) m.0 in
    record { first = c; more = more; is = refl; begins = b.0; characters = rw (begins_in c b.0) m.1; named = h }

-- a character that begins an identifier is another one than these
begins_not : (c d : ℕ) → begins_identifier d ≡ false → begins_identifier c ≡ true → (c == d) ≡ false
begins_not c d other h = ne_eqb c d (λ same. false≢true (sym other ∙ ap begins_identifier (sym same) ∙ h))

-- ## Lines of entries

-- no line feed stands in an escaped text
fed_byte : (c : ℕ) (mark slash feed : Bool) → (c == 34) ≡ mark → (c == 92) ≡ slash → (c == 10) ≡ feed →
    Avoids 10 (if mark || slash then 92 ∷ c ∷ [] else if feed then 92 ∷ 110 ∷ [] else c ∷ [])
fed_byte c true slash feed m s f = rw (eqb-true c 34 m) refl
fed_byte c false true feed m s f = rw (eqb-true c 92 s) refl
fed_byte c false false true m s f = refl
fed_byte c false false false m s f = rw f refl

avoids-append : (c : ℕ) (xs ys : List ℕ) → Avoids c xs → Avoids c ys → Avoids c (xs ++ ys)
avoids-append c xs ys h k = list_all-append (λ x. not (x == c)) xs ys ∙ rw (h, k) refl

fed_text : (text : List ℕ) → Avoids 10 (escaped_text text)
fed_text [] = refl
fed_text (c ∷ text) = avoids-append 10 (escape c) (escaped_text text) (fed_byte c (c == 34) (c == 92) (c == 10) refl refl refl) (fed_text text)

fed_entry : (e : KeyText) → IsKey e.key → Avoids 10 (written_entry e)
fed_entry e k =
    avoids-append 10 e.key (58 ∷ 32 ∷ 34 ∷ (escaped_text e.value ++ 34 ∷ [])) (no_such 10 refl e.key k.characters)
    (avoids-append 10 (escaped_text e.value) (34 ∷ []) (fed_text e.value) refl)

ends_so : (front : List ℕ) (e : KeyText) → (slice_index (front ++ written_entry e) (length (front ++ written_entry e) - 1) == 13) ≡ false
ends_so front e =
    let body : List ℕ = front ++ (e.key ++ 58 ∷ 32 ∷ 34 ∷ escaped_text e.value) in
    let same : front ++ written_entry e ≡ body ++ 34 ∷ [] =
    ap (λ xs. front ++ xs) (sym (append_assoc e.key (58 ∷ 32 ∷ 34 ∷ escaped_text e.value) (34 ∷ [])))
    ∙ sym (append_assoc front (e.key ++ 58 ∷ 32 ∷ 34 ∷ escaped_text e.value) (34 ∷ [])) in
    rw (same, last_byte body 34) refl

entry_is_line : (e : KeyText) → IsKey e.key → IsLine (entry_line e)
entry_is_line e k = record { feeds = fed_entry e k; ends = ends_so (32 ∷ 32 ∷ []) e }

first_is_line : (e : KeyText) → IsKey e.key → IsLine (45 ∷ 32 ∷ written_entry e)
first_is_line e k = record { feeds = fed_entry e k; ends = ends_so (45 ∷ 32 ∷ []) e }

entries_are_lines : (entries : List KeyText) → Each (λ e. is_identifier e.key ≡ true) entries → Each IsLine (map entry_line entries)
entries_are_lines [] h = tt
entries_are_lines (e ∷ more) h = (entry_is_line e (key_of e.key h.0), entries_are_lines more h.1)

item_is_lines : (item : List KeyText) → Each (λ e. is_identifier e.key ≡ true) item → Each IsLine (item_lines item)
item_is_lines [] h = tt
item_is_lines (e ∷ more) h = (first_is_line e (key_of e.key h.0), entries_are_lines more h.1)

items_are_lines : (items : List (List KeyText)) → Each IsItem items → Each IsLine (flat_map item_lines items)
items_are_lines [] h = tt
items_are_lines (item ∷ items) h = Each-append IsLine (item_lines item) (flat_map item_lines items) (item_is_lines item h.0.keys.identifiers) (items_are_lines items h.1)

file_is_lines : (file : RuleFile) → IsRuleFile file → Each IsLine (file_lines file)
file_is_lines file h = (
  record { feeds = refl; ends = refl },
  Each-append IsLine (map entry_line file.vars) (codes "rules:" ∷ flat_map item_lines file.rules) (entries_are_lines file.vars h.vars.identifiers)
      (record { feeds = refl; ends = refl }, items_are_lines file.rules h.items),
)

-- ## Statements

-- what follows a key
abbrev rest_of : KeyText → List ℕ
rest_of e = 34 ∷ (escaped_text e.value ++ 34 ∷ [])

-- a text is that of an entry
record IsEntry (e : KeyText) (text : List ℕ) : Type 0 where
  says : says_nothing (32 ∷ 32 ∷ text) ≡ false
  indented : indentation (32 ∷ 32 ∷ text) ≡ 2
  no_tab : begins_with 9 text ≡ false
  no_item : is_item text ≡ false
  cut : cut_entry (split_once 58 text) ≡ Some (record { key = e.key; rest = rest_of e })

-- as every written one is, by its first character
says_something : (c : ℕ) (text : List ℕ) → begins_identifier c ≡ true → says_nothing (32 ∷ 32 ∷ c ∷ text) ≡ false
says_something c text h = rw (begins_not c 32 refl h, begins_not c 9 refl h) (begins_not c 35 refl h)

indented_by_2 : (c : ℕ) (text : List ℕ) → begins_identifier c ≡ true → indentation (32 ∷ 32 ∷ c ∷ text) ≡ 2
indented_by_2 c text h = rw (begins_not c 32 refl h) refl

begins_no_item : (c : ℕ) (text : List ℕ) → begins_identifier c ≡ true → is_item (c ∷ text) ≡ false
begins_no_item c text h = rw (ne_eqb 45 c (λ same. false≢true (ap begins_identifier same ∙ h))) refl

written_is_entry : (e : KeyText) → IsKey e.key → IsEntry e (written_entry e)
written_is_entry e k =
    let front : written_entry e ≡ k.first ∷ (k.more ++ 58 ∷ 32 ∷ rest_of e) = ap (λ key. key ++ 58 ∷ 32 ∷ rest_of e) k.is in
    record {
      says = ap (λ text. says_nothing (32 ∷ 32 ∷ text)) front ∙ says_something k.first (k.more ++ 58 ∷ 32 ∷ rest_of e) k.begins;
      indented = ap (λ text. indentation (32 ∷ 32 ∷ text)) front ∙ indented_by_2 k.first (k.more ++ 58 ∷ 32 ∷ rest_of e) k.begins;
      no_tab = ap (begins_with 9) front ∙ begins_not k.first 9 refl k.begins;
      no_item = ap is_item front ∙ begins_no_item k.first (k.more ++ 58 ∷ 32 ∷ rest_of e) k.begins;
      cut = rw (cut_at 58 e.key (32 ∷ rest_of e) (no_such 58 refl e.key k.characters), k.named) refl;
    }

-- the statements of the two kinds of lines
entry_statement : (e : KeyText) (text : List ℕ) (n : ℕ) (ls : List (List ℕ)) → IsEntry e text →
    statement_of n (32 ∷ 32 ∷ text) ls ≡ record { line = n; column = 2; text = text; below = [] }
entry_statement e text n ls h = rw (h.indented, h.no_item, h.cut) refl

item_statement : (e : KeyText) (text : List ℕ) (n : ℕ) (ls : List (List ℕ)) → IsEntry e text →
    statement_of n (45 ∷ 32 ∷ text) ls ≡ record { line = n; column = 0; text = 45 ∷ 32 ∷ text; below = [] }
item_statement e text n ls h = rw h.cut refl

-- ## What was said

-- under `vars:`, with these variables
abbrev under_vars : Option ℕ → List KeyText → Outline
under_vars column vars = record { section = Some in_vars; has_vars = true; rules_line = None; vars_column = column; items_column = None; vars = vars; complete = []; item = [] }

-- under `rules:`, with these items
abbrev under_rules : ℕ → Option ℕ → List KeyText → Option ℕ → List (List KeyText) → List KeyText → Outline
under_rules line column vars items_column complete item =
    record { section = Some in_rules; has_vars = true; rules_line = Some line; vars_column = column; items_column = items_column; vars = vars; complete = complete; item = item }

-- an entry with a new key is taken
entry_taken : (o : Outline) (role : Role) (column : ℕ) (e : KeyText) → has_key e.key (siblings o role) ≡ false →
    take_entry o role column [] (Some (record { key = e.key; rest = rest_of e })) ≡ Ok (with_entry o role column e)
entry_taken o role column e new = rw (new, value_back e.value) refl

-- as a statement that may stand there, and is no heading
placed : (o : Outline) (s : Statement) (role : Role) (e : KeyText) → misplaced o s ≡ None → heading s.column s.text ≡ None → role_of o.section o.items_column s.column s.text ≡ Some role →
    s.below ≡ [] → entry_of s.text ≡ Some (record { key = e.key; rest = rest_of e }) → has_key e.key (siblings o role) ≡ false → take_statement o s ≡ Ok (with_entry o role s.column e)
placed o s role e stands no_heading is none found new =
    ap (take_unless o s) stands ∙ ap (take_placed o s) no_heading ∙ ap (take_role o s) is
    ∙ ap₂ (take_entry o role s.column) none found ∙ entry_taken o role s.column e new

entry_found : (e : KeyText) (text : List ℕ) → IsEntry e text → entry_of text ≡ Some (record { key = e.key; rest = rest_of e })
entry_found e text h = rw h.no_item h.cut

variable_taken : (e : KeyText) (text : List ℕ) (n : ℕ) (column : Option ℕ) (vars : List KeyText) → IsEntry e text → fits column 2 ≡ true → has_key e.key vars ≡ false →
    take_statement (under_vars column vars) (record { line = n; column = 2; text = text; below = [] }) ≡ Ok (under_vars (Some 2) (vars ++ e ∷ []))
variable_taken e text n column vars h fit new =
    placed (under_vars column vars) (record { line = n; column = 2; text = text; below = [] }) variable e (rw (h.no_tab, fit) refl) refl (rw h.no_item refl) refl (entry_found e text h) new

-- the first key of an item stands nowhere else
first_stands : (text : List ℕ) (n line : ℕ) (column : Option ℕ) (vars : List KeyText) (items_column : Option ℕ) (complete : List (List KeyText)) (item : List KeyText) → fits items_column 0 ≡ true →
    misplaced (under_rules line column vars items_column complete item) (record { line = n; column = 0; text = 45 ∷ 32 ∷ text; below = [] }) ≡ None
first_stands text n line column vars None complete item fit = refl
first_stands text n line column vars (Some c) complete item fit = rw fit refl

first_taken : (e : KeyText) (text : List ℕ) (n line : ℕ) (column : Option ℕ) (vars : List KeyText) (items_column : Option ℕ) (complete : List (List KeyText)) (item : List KeyText) → IsEntry e text →
    fits items_column 0 ≡ true →
    take_statement (under_rules line column vars items_column complete item) (record { line = n; column = 0; text = 45 ∷ 32 ∷ text; below = [] })
    ≡ Ok (under_rules line column vars (Some 0) (with_last_item complete item) (e ∷ []))
first_taken e text n line column vars items_column complete item h fit =
    placed (under_rules line column vars items_column complete item) (record { line = n; column = 0; text = 45 ∷ 32 ∷ text; below = [] }) first_key e
    (first_stands text n line column vars items_column complete item fit) refl (rw fit refl) refl h.cut refl

further_taken : (e : KeyText) (text : List ℕ) (n line : ℕ) (column : Option ℕ) (vars : List KeyText) (complete : List (List KeyText)) (item : List KeyText) → IsEntry e text →
    has_key e.key item ≡ false →
    take_statement (under_rules line column vars (Some 0) complete item) (record { line = n; column = 2; text = text; below = [] })
    ≡ Ok (under_rules line column vars (Some 0) complete (item ++ e ∷ []))
further_taken e text n line column vars complete item h new =
    placed (under_rules line column vars (Some 0) complete item) (record { line = n; column = 2; text = text; below = [] }) further_key e (rw h.no_tab refl) refl (rw h.no_item refl) refl (entry_found e text h) new

-- ## Line by line

abbrev after : Outline → ℕ → List (List ℕ) → Reading
after o n ls = file_after o (statements n 0 ls)

-- a line that says something, without lines of a literal
its_statement : (n : ℕ) (line : List ℕ) (ls : List (List ℕ)) (column : ℕ) (text : List ℕ) → says_nothing line ≡ false → statement_of n line ls ≡ record { line = n; column = column; text = text; below = [] } →
    statements n 0 (line ∷ ls) ≡ record { line = n; column = column; text = text; below = [] } ∷ statements (n + 1) 0 ls
its_statement n line ls column text says is = rw says (ap (λ (s : Statement). s ∷ statements (n + 1) (length s.below) ls) is)

one_line : (o next : Outline) (n : ℕ) (line : List ℕ) (ls : List (List ℕ)) (column : ℕ) (text : List ℕ) → says_nothing line ≡ false →
    statement_of n line ls ≡ record { line = n; column = column; text = text; below = [] } →
    take_statement o (record { line = n; column = column; text = text; below = [] }) ≡ Ok next → after o n (line ∷ ls) ≡ after next (n + 1) ls
one_line o next n line ls column text says is took =
    ap (file_after o) (its_statement n line ls column text says is) ∙ ap (goes_on n (λ m. file_after m (statements (n + 1) 0 ls))) took

-- keys that are new behind these entries
abbrev AreNew : List KeyText → List KeyText → Type 0
AreNew before entries = Each (λ p. has_key p.1.key p.0 ≡ false) (points_after before entries)

vars_read : (entries before : List KeyText) (column : Option ℕ) (n : ℕ) (ls : List (List ℕ)) (answer : Reading) → Each (λ e. is_identifier e.key ≡ true) entries → AreNew before entries →
    fits column 2 ≡ true → ((last : Option ℕ) (m : ℕ) → after (under_vars last (before ++ entries)) m ls ≡ answer) → after (under_vars column before) n (map entry_line entries ++ ls) ≡ answer
vars_read [] before column n ls answer keys new fit go = rw (append-nil before) at (go column n)
vars_read (e ∷ more) before column n ls answer keys new fit go =
    let is = written_is_entry e (key_of e.key keys.0) in
    one_line (under_vars column before) (under_vars (Some 2) (before ++ e ∷ [])) n (entry_line e) (map entry_line more ++ ls) 2 (written_entry e) is.says
    (entry_statement e (written_entry e) n (map entry_line more ++ ls) is) (variable_taken e (written_entry e) n column before is fit new.0)
    ∙ vars_read more (before ++ e ∷ []) (Some 2) (n + 1) ls answer keys.1 new.1 refl
    (λ last m. subst (λ vars. after (under_vars last vars) m ls ≡ answer) (sym (append_assoc before (e ∷ []) more)) (go last m))

further_read : (entries before : List KeyText) (line : ℕ) (column : Option ℕ) (vars : List KeyText) (complete : List (List KeyText)) (n : ℕ) (ls : List (List ℕ)) (answer : Reading) →
    Each (λ e. is_identifier e.key ≡ true) entries → AreNew before entries → ((m : ℕ) → after (under_rules line column vars (Some 0) complete (before ++ entries)) m ls ≡ answer) →
    after (under_rules line column vars (Some 0) complete before) n (map entry_line entries ++ ls) ≡ answer
further_read [] before line column vars complete n ls answer keys new go = rw (append-nil before) at (go n)
further_read (e ∷ more) before line column vars complete n ls answer keys new go =
    let is = written_is_entry e (key_of e.key keys.0) in
    one_line (under_rules line column vars (Some 0) complete before) (under_rules line column vars (Some 0) complete (before ++ e ∷ [])) n (entry_line e) (map entry_line more ++ ls) 2 (written_entry e) is.says
    (entry_statement e (written_entry e) n (map entry_line more ++ ls) is) (further_taken e (written_entry e) n line column vars complete before is new.0)
    ∙ further_read more (before ++ e ∷ []) line column vars complete (n + 1) ls answer keys.1 new.1
    (λ m. subst (λ item. after (under_rules line column vars (Some 0) complete item) m ls ≡ answer) (sym (append_assoc before (e ∷ []) more)) (go m))

item_read : (item : List KeyText) (line : ℕ) (column : Option ℕ) (vars : List KeyText) (items_column : Option ℕ) (complete : List (List KeyText)) (last : List KeyText) (n : ℕ) (ls : List (List ℕ)) (answer : Reading) →
    IsItem item → fits items_column 0 ≡ true → ((m : ℕ) → after (under_rules line column vars (Some 0) (with_last_item complete last) item) m ls ≡ answer) →
    after (under_rules line column vars items_column complete last) n (item_lines item ++ ls) ≡ answer
item_read [] line column vars items_column complete last n ls answer h fit go = absurd (omega (arith, h.some))
item_read (e ∷ more) line column vars items_column complete last n ls answer h fit go =
    let is = written_is_entry e (key_of e.key h.keys.identifiers.0) in
    one_line (under_rules line column vars items_column complete last) (under_rules line column vars (Some 0) (with_last_item complete last) (e ∷ [])) n (45 ∷ 32 ∷ written_entry e) (map entry_line more ++ ls) 0 (45 ∷ 32 ∷ written_entry e) refl
    (item_statement e (written_entry e) n (map entry_line more ++ ls) is) (first_taken e (written_entry e) n line column vars items_column complete last is fit)
    ∙ further_read more (e ∷ []) line column vars (with_last_item complete last) (n + 1) ls answer h.keys.identifiers.1 h.keys.distinct.1 go

-- where an item is the last, the file has it
ended : (o : Outline) (complete : List (List KeyText)) (item : List KeyText) → file_of o (complete ++ item ∷ []) ≡ Ok (record { vars = o.vars; rules = complete ++ item ∷ [] })
ended o [] item = refl
ended o (first ∷ more) item = refl

-- the items behind a first one
items_read : (items : List (List KeyText)) (line : ℕ) (column : Option ℕ) (vars : List KeyText) (complete : List (List KeyText)) (last : List KeyText) (n : ℕ) →
    0 < length last → Each IsItem items →
    after (under_rules line column vars (Some 0) complete last) n (flat_map item_lines items) ≡ Ok (record { vars = vars; rules = (complete ++ last ∷ []) ++ items })
items_read items line column vars complete [] n some h = absurd (omega (arith, some))
items_read [] line column vars complete (e ∷ more) n some h =
    ended (under_rules line column vars (Some 0) complete (e ∷ more)) complete (e ∷ more) ∙ ap (λ rules. Ok (record { vars = vars; rules = rules })) (sym (append-nil (complete ++ (e ∷ more) ∷ [])))
items_read (item ∷ items) line column vars complete (e ∷ more) n some h =
    item_read item line column vars (Some 0) complete (e ∷ more) n (flat_map item_lines items) (Ok (record { vars = vars; rules = (complete ++ (e ∷ more) ∷ []) ++ item ∷ items })) h.0 refl
    (λ m. items_read items line column vars (complete ++ (e ∷ more) ∷ []) item m h.0.some h.1
    ∙ ap (λ rules. Ok (record { vars = vars; rules = rules })) (append_assoc (complete ++ (e ∷ more) ∷ []) (item ∷ []) items))

-- a file with a first item
file_back : (vars : List KeyText) (item : List KeyText) (items : List (List KeyText)) → HasKeys vars → IsItem item → Each IsItem items →
    after nothing_said 1 (codes "vars:" ∷ (map entry_line vars ++ codes "rules:" ∷ (item_lines item ++ flat_map item_lines items))) ≡ Ok (record { vars = vars; rules = item ∷ items })
file_back vars item items keys is h =
    one_line nothing_said (under_vars None []) 1 (codes "vars:") (map entry_line vars ++ codes "rules:" ∷ (item_lines item ++ flat_map item_lines items)) 0 (codes "vars:") refl refl refl
    ∙ vars_read vars [] None 2 (codes "rules:" ∷ (item_lines item ++ flat_map item_lines items)) (Ok (record { vars = vars; rules = item ∷ items })) keys.identifiers keys.distinct refl
    (λ last m. one_line (under_vars last vars) (under_rules m last vars None [] []) m (codes "rules:") (item_lines item ++ flat_map item_lines items) 0 (codes "rules:") refl refl refl
    ∙ item_read item m last vars None [] [] (m + 1) (flat_map item_lines items) (Ok (record { vars = vars; rules = item ∷ items })) is refl
    (λ k. items_read items m last vars [] item k is.some h))

whole : (vars : List KeyText) (items : List (List KeyText)) → HasKeys vars → 0 < length items → Each IsItem items →
    after nothing_said 1 (codes "vars:" ∷ (map entry_line vars ++ codes "rules:" ∷ flat_map item_lines items)) ≡ Ok (record { vars = vars; rules = items })
whole vars [] keys some h = absurd (omega (arith, some))
whole vars (item ∷ items) keys some h = file_back vars item items keys h.0 h.1

pub reads_back : ReadsBack
unfolding rule_file_of
reads_back file h =
    ap (λ ls. file_after nothing_said (statements 1 0 ls)) (lines_back (file_lines file) (file_is_lines file h)) ∙ whole file.vars file.rules h.vars h.some h.items
