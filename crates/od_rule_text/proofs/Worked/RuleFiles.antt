-- Rule files that are accepted, worked out.
use Rattle.std.specs.Prelude.{◌≡◌, ℕ, refl, List, [], ◌∷◌, Ok, codes}
use Rattle.od_rule_text.specs.declared.rule_file.KeyText.{KeyText}
use Rattle.od_rule_text.specs.RuleFiles.{rule_file_of}

abbrev entry : List ℕ → List ℕ → KeyText
entry key value = record { key = key; value = value }

-- two rules, the second with a literal; a comment, a blank line and CRLF
two_rules : rule_file_of (codes "rules:\r\n  - name: animal # c\r\n\r\n    pattern: |\r\n      [tag=NN]\r\n\r\n# c\r\n  - name: \"deed\"\r\n    pattern: |-\r\n     trigger = x\r\n      who = >y")
    ≡ Ok (record {
      vars = [];
      rules = (entry (codes "name") (codes "animal") ∷ entry (codes "pattern") (codes "[tag=NN]\n") ∷ [])
          ∷ (entry (codes "name") (codes "deed") ∷ entry (codes "pattern") (codes "trigger = x\n who = >y") ∷ []) ∷ [];
    })
unfolding rule_file_of
two_rules = refl

-- variables before and behind the rules, which stand at column 0
vars_behind : rule_file_of (codes "rules:\n- name:  a\nvars:\n b: ${c}\n c: |\n d: e\n")
    ≡ Ok (record {
      vars = entry (codes "b") (codes "${c}") ∷ entry (codes "c") [] ∷ entry (codes "d") (codes "e") ∷ [];
      rules = (entry (codes "name") (codes "a") ∷ []) ∷ [];
    })
unfolding rule_file_of
vars_behind = refl

-- `vars:` within a literal is text
heading_in_a_literal : rule_file_of (codes "rules:\n- name: |-\n   vars:\n   - x\n")
    ≡ Ok (record { vars = []; rules = (entry (codes "name") (codes "vars:\n- x") ∷ []) ∷ [] })
unfolding rule_file_of
heading_in_a_literal = refl

-- a carriage return at the end of the text belongs to its line
last_return : rule_file_of (codes "rules:\n- name: a\r") ≡ Ok (record { vars = []; rules = (entry (codes "name") (codes "a\r") ∷ []) ∷ [] })
unfolding rule_file_of
last_return = refl
