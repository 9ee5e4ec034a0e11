-- The lines of a literal, one at a time.
use Rattle.std.proofs.Common.{◌≡◌, ℕ, ◌+◌, ◌-◌, ◌<◌, List, [], ◌∷◌, ◌++◌, length, Bool, true, false, cond, refl, sym, ap, ◌∙◌, arith, append_assoc, append-nil, length-append, get_or-append-add}
use Rattle.std.specs.Prelude.{◌||◌, ◌&&◌, if◌then◌else◌, nat_le}
use Rattle.std.specs.List.{list_all, take_while}
use Rattle.std.proofs.lemmas.Bool.{lt-ltb, le-leb}
use Rattle.std.proofs.lemmas.List.Sums.{take_while-cons}
use Rattle.od_rule_text.specs.Blanks.{is_blank_line, without_last, indentation}
use Rattle.od_rule_text.specs.Scalars.{is_literal_line, joined_lines, unindented, first_indentation, literal_lines}
use Rattle.od_yaml.specs.Literals.{joined_text, added, EndsWithFeed}

-- ## What lines say

none_added : (n : ℕ) (ws : List (List ℕ)) (t : Bool) → list_all is_blank_line ws ≡ t → (if t then [] else [] ++ joined_text n ws) ≡ joined_text n ws
none_added n [] true e = refl
none_added n (w ∷ ws) true e = ap (λ (t : Bool). joined_lines n (if t then [] else w ∷ without_last is_blank_line ws)) (sym e)
none_added n ws false e = refl

-- where nothing is held back
pub none_held : (n : ℕ) (ws : List (List ℕ)) → added n [] ws ≡ joined_text n ws
none_held n ws = none_added n ws (list_all is_blank_line ws) refl

filled_by : (n : ℕ) (held line : List ℕ) (ws : List (List ℕ)) (b : Bool) → b ≡ false
    → (if b && list_all is_blank_line ws then [] else held ++ joined_lines n (if b && list_all is_blank_line ws then [] else line ∷ without_last is_blank_line ws)) ≡ (held ++ unindented n line ++ 10 ∷ []) ++ added n [] ws
filled_by n held line ws true e = absurd (cc)
filled_by n held line ws false e =
    sym (append_assoc held (unindented n line ++ 10 ∷ []) (joined_text n ws))
    ∙ ap (λ xs. xs ++ joined_text n ws) (sym (append_assoc held (unindented n line) (10 ∷ [])))
    ∙ ap (λ xs. (held ++ unindented n line ++ 10 ∷ []) ++ xs) (sym (none_held n ws))

-- another line follows what was held back
filled_more : (n : ℕ) (held line : List ℕ) (ws : List (List ℕ)) → is_blank_line line ≡ false → added n held (line ∷ ws) ≡ (held ++ unindented n line ++ 10 ∷ []) ++ added n [] ws
filled_more n held line ws filled = filled_by n held line ws (is_blank_line line) filled

-- and both are said
pub filled_step : (n : ℕ) (text held line new cleared : List ℕ) (ws : List (List ℕ)) → is_blank_line line ≡ false → new ≡ text ++ held ++ (unindented n line ++ 10 ∷ []) → cleared ≡ []
    → text ++ added n held (line ∷ ws) ≡ new ++ added n cleared ws
filled_step n text held line new cleared ws filled grown clear =
    ap (λ xs. text ++ xs) (filled_more n held line ws filled) ∙ sym (append_assoc text (held ++ unindented n line ++ 10 ∷ []) (added n [] ws))
    ∙ ap (λ xs. xs ++ added n [] ws) (ap (λ xs. text ++ xs) (append_assoc held (unindented n line) (10 ∷ [])) ∙ sym (append_assoc text held (unindented n line ++ 10 ∷ [])) ∙ sym grown)
    ∙ ap (λ xs. new ++ added n xs ws) (sym clear)

-- ## Which lines belong

first_by : (n : ℕ) (line : List ℕ) (ws : List (List ℕ)) (b : Bool) → is_blank_line line ≡ b → (if b then first_indentation ws else indentation line) ≡ n
    → (first_indentation ws ≡ n → first_indentation (take_while (is_literal_line n) ws) ≡ n) → first_indentation (take_while (is_literal_line n) (line ∷ ws)) ≡ n
first_by n line ws true e first more =
    ap first_indentation (take_while-cons (is_literal_line n) line ws ∙ ap (λ (t : Bool). cond (t || nat_le n (indentation line)) (line ∷ take_while (is_literal_line n) ws) []) e)
    ∙ ap (λ (t : Bool). if t then first_indentation (take_while (is_literal_line n) ws) else indentation line) e ∙ more first
first_by n line ws false e first more =
    let fits : nat_le n (indentation line) ≡ true = le-leb n (indentation line) (omega (arith, first)) in
    ap first_indentation (take_while-cons (is_literal_line n) line ws ∙ ap (λ (t : Bool). cond (t || nat_le n (indentation line)) (line ∷ take_while (is_literal_line n) ws) []) e ∙ ap (λ (t : Bool). cond t (line ∷ take_while (is_literal_line n) ws) []) fits)
    ∙ ap (λ (t : Bool). if t then first_indentation (take_while (is_literal_line n) ws) else indentation line) e ∙ first

-- the lines that belong have the indentation of all
pub first_taken : (n : ℕ) (ws : List (List ℕ)) → first_indentation ws ≡ n → first_indentation (take_while (is_literal_line n) ws) ≡ n
first_taken n [] e = e
first_taken n (line ∷ ws) e = first_by n line ws (is_blank_line line) refl e (first_taken n ws)

-- a literal that is indented above its key has these lines
pub deep_lines : (column n : ℕ) (ws : List (List ℕ)) → first_indentation ws ≡ n → column < n → literal_lines column ws ≡ take_while (is_literal_line n) ws
deep_lines column n ws e deep = rw (e, lt-ltb column n deep) refl

-- ## The last line feed

ends_by : (front more : List ℕ) → EndsWithFeed more → EndsWithFeed ((front ++ 10 ∷ []) ++ more)
ends_by front [] ends h =
    let at : length ((front ++ 10 ∷ []) ++ []) - 1 ≡ length front + 0 = omega (arith, length-append (front ++ 10 ∷ []) [], length-append front (10 ∷ [])) in
    rw (at, append-nil) (get_or-append-add front (10 ∷ []) 0 0)
ends_by front (c ∷ more) ends h =
    let at : length ((front ++ 10 ∷ []) ++ (c ∷ more)) - 1 ≡ length (front ++ 10 ∷ []) + (length (c ∷ more) - 1) = omega (arith, length-append (front ++ 10 ∷ []) (c ∷ more)) in
    rw at (get_or-append-add (front ++ 10 ∷ []) (c ∷ more) (length (c ∷ more) - 1) 0 ∙ ends (omega arith))

-- joined lines end with a line feed
pub joined_ends : (n : ℕ) (ws : List (List ℕ)) → EndsWithFeed (joined_lines n ws)
joined_ends n [] h = absurd (omega (arith, h))
joined_ends n (w ∷ ws) h = ends_by (unindented n w) (joined_lines n ws) (joined_ends n ws) h
