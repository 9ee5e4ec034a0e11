-- A script that is written reads back as itself.
use Rattle.std.proofs.Common.{◌≡◌, ℕ, ◌+◌, ◌≤◌, List, [], ◌∷◌, ◌++◌, length, map, flat_map, false, refl, sym, ap, ◌∙◌, subst, arith, append_assoc, append-nil, length-append}
use Rattle.std.specs.Prelude.{nat_le, codes, Ok, Err}
use Rattle.std.specs.List.{concat}
use Rattle.std.proofs.lemmas.Bool.{le-ltb, lt-ltb, lt-leb}
use Rattle.std.proofs.lemmas.List.Sums.{sum_by-cons, sum_by_push}
use Rattle.od_text.specs.Lists.{Each, points_after}
use Rattle.od_pattern.specs.declared.grammar.Head.{Head}
use Rattle.od_order.specs.declared.script.Order.{Order}
use Rattle.od_order.specs.declared.script.Script.{Script}
use Rattle.od_order.specs.declared.script.TheConstants.{SCRIPT_BYTES, HEADS, CLIENTS, ORDERS}
use Rattle.od_order.specs.declared.script_kind.ScriptKind.{ScriptKind}
use Rattle.od_order.specs.Lines.{whole_lines}
use Rattle.od_order.specs.Scripts.{Reading, has_head, order_count, with_order, script_lines, script_after, script_of}
use Rattle.od_script.specs.declared.script.ScriptFault.{ScriptFault}
use Rattle.od_script.specs.declared.script.ScriptFault.TheVariants.{Bad, NoMemory}
use Rattle.od_script.specs.Faults.{IsScriptFault}
use Rattle.od_script.specs.Written.{line_of, head_bytes, order_bytes, client_statements, script_bytes, IsHead, IsOrder, AreApart, IsWritable}
use Rattle.od_script.proofs.Folds.{script_is}
use Rattle.od_script.proofs.WrittenLines.{EndsBefore, ends_before}
use Rattle.od_script.proofs.WrittenStatements.{Makes, with_heads, grammar_reads, client_reads, order_reads}

-- ## Statements in a row

-- behind one script, statements are read as the other
abbrev Reads : Script → List (List ℕ) → Script → Type 0
Reads s parts t = AreApart parts → length (concat parts) ≤ SCRIPT_BYTES → (number : ℕ) → script_after s (script_lines number 0 (whole_lines (concat parts))) ≡ Ok t

none_read : (s : Script) → Reads s [] s
none_read s apart small number = refl

end_apart : (part : List ℕ) (more : List (List ℕ)) → AreApart (part ∷ more) → EndsBefore part (concat more) × AreApart more
end_apart part [] h = (tt, tt)
end_apart part (next ∷ more) h = (ends_before part (concat (next ∷ more)) h.0, h.1)

-- a statement, and those behind it
one_read : (s t u : Script) (part : List ℕ) (more : List (List ℕ)) → (length part ≤ SCRIPT_BYTES → Makes s part t) → Reads t more u → Reads s (part ∷ more) u
one_read s t u part more first rest apart small number =
    let ends = end_apart part more apart in
    let long : length (concat (part ∷ more)) ≡ length part + length (concat more) = length-append part (concat more) in
    let made = first (omega (arith, long, small)) number (concat more) ends.0 in
    made.1 ∙ rest ends.1 (omega (arith, long, small)) made.0

-- ## Heads

heads_read : (seen heads : List Head) (more : List (List ℕ)) (t : Script) → Each IsHead heads → Each (λ p. has_head p.1.name p.0 ≡ false) (points_after seen heads) → length seen + length heads ≤ HEADS → Reads (with_heads (seen ++ heads)) more t
    → Reads (with_heads seen) (map head_bytes heads ++ more) t
heads_read seen [] more t h new few rest = subst (λ l. Reads (with_heads l) more t) (append-nil seen) rest
heads_read seen (head ∷ heads) more t h new few rest =
    one_read (with_heads seen) (with_heads (seen ++ head ∷ [])) t (head_bytes head) (map head_bytes heads ++ more)
    (grammar_reads seen head.kind head.name head.text h.0.0 h.0.1 new.0 (lt-leb HEADS (length seen) (omega (arith, few))))
    (heads_read (seen ++ head ∷ []) heads more t h.1 new.1 (omega (arith, length-append seen (head ∷ []), few))
    (subst (λ l. Reads (with_heads l) more t) (sym (append_assoc seen (head ∷ []) heads)) rest))

-- ## Clients

last_order : (x : Order) (clients : List (List Order)) (orders : List Order) → with_order x (clients ++ orders ∷ []) ≡ clients ++ (orders ++ x ∷ []) ∷ []
last_order x [] orders = refl
last_order x (c ∷ []) orders = refl
last_order x (c ∷ d ∷ clients) orders = ap (λ (l : List (List Order)). c ∷ l) (last_order x (d ∷ clients) orders)

module _ (heads : List Head) where
  abbrev of : List (List Order) → Script
  of clients = record { heads = heads; clients = clients }

  orders_read : (seen : List (List Order)) (done todo : List Order) (more : List (List ℕ)) (t : Script) → Each IsOrder todo → order_count seen + (length done + length todo) ≤ ORDERS → Reads (of (seen ++ (done ++ todo) ∷ [])) more t
      → Reads (of (seen ++ done ∷ [])) (map order_bytes todo ++ more) t
  orders_read seen done [] more t h few rest = subst (λ (l : List Order). Reads (of (seen ++ l ∷ [])) more t) (append-nil done) rest
  orders_read seen done (x ∷ todo) more t h few rest =
      let count : order_count (seen ++ done ∷ []) ≡ order_count seen + length done = sum_by_push (λ (orders : List Order). length orders) seen done in
      let room : nat_le ORDERS (order_count (seen ++ done ∷ [])) ≡ false = lt-leb ORDERS (order_count (seen ++ done ∷ [])) (omega (arith, count, few)) in
      let begun = lt-ltb 0 (length (seen ++ done ∷ [])) (omega (arith, length-append seen (done ∷ []))) in
      one_read (of (seen ++ done ∷ [])) (of (seen ++ (done ++ x ∷ []) ∷ [])) t (order_bytes x) (map order_bytes todo ++ more)
      (λ small. subst (λ l. Makes (of (seen ++ done ∷ [])) (order_bytes x) (of l)) (last_order x seen done) (order_reads (of (seen ++ done ∷ [])) begun room x h.0 small))
      (orders_read seen (done ++ x ∷ []) todo more t h.1 (omega (arith, length-append done (x ∷ []), few))
      (subst (λ (l : List Order). Reads (of (seen ++ l ∷ [])) more t) (sym (append_assoc done (x ∷ []) todo)) rest))

  clients_read : (seen todo : List (List Order)) → Each (Each IsOrder) todo → order_count seen + order_count todo ≤ ORDERS → length seen + length todo ≤ CLIENTS
      → Reads (of seen) (flat_map client_statements todo) (of (seen ++ todo))
  clients_read seen [] h few some = subst (λ (l : List (List Order)). Reads (of seen) [] (of l)) (sym (append-nil seen)) (none_read (of seen))
  clients_read seen (orders ∷ todo) h few some =
      let size : List Order → ℕ = λ l. length l in
      let all : order_count (orders ∷ todo) ≡ length orders + order_count todo = sum_by-cons size orders todo in
      let now : order_count (seen ++ orders ∷ []) ≡ order_count seen + length orders = sum_by_push size seen orders in
      let rest = clients_read (seen ++ orders ∷ []) todo h.1 (omega (arith, now, all, few)) (omega (arith, length-append seen (orders ∷ []), some)) in
      let after = subst (λ (l : List (List Order)). Reads (of (seen ++ orders ∷ [])) (flat_map client_statements todo) (of l)) (append_assoc seen (orders ∷ []) todo) rest in
      one_read (of seen) (of (seen ++ [] ∷ [])) (of (seen ++ orders ∷ todo)) (line_of (codes "client" ∷ [])) (map order_bytes orders ++ flat_map client_statements todo)
      (λ small. client_reads heads seen (lt-leb CLIENTS (length seen) (omega (arith, some))))
      (orders_read seen [] orders (flat_map client_statements todo) (of (seen ++ orders ∷ todo)) h.0 (omega (arith, few, all)) after)

-- ## Scripts

-- what is written reads as the script
pub reads_back : (script : Script) → IsWritable script → script_of (script_bytes script) ≡ Ok script
reads_back script h =
    let clients = clients_read script.heads [] script.clients h.orders (omega (arith, h.few.orders)) (omega (arith, h.few.clients)) in
    let all = heads_read [] script.heads (flat_map client_statements script.clients) script h.heads h.few.distinct (omega (arith, h.few.heads)) clients in
    script_is (script_bytes script) (le-ltb SCRIPT_BYTES (length (script_bytes script)) h.short) ∙ all h.apart h.short 1

same_ok : (r : Reading) (a b : Script) → r ≡ Ok a → r ≡ Ok b → a ≡ b
same_ok r a b e f = cc

not_ok : {A : Type 0} (r : Reading) (e : ℕ × ScriptKind) (a : Script) → r ≡ Err e → r ≡ Ok a → A
not_ok r e a bad good = absurd (cc)

-- so a script that is read of it is the same
pub back_ok : (bytes : List ℕ) (read : Script) → script_of bytes ≡ Ok read → (script : Script) → IsWritable script → bytes ≡ script_bytes script → read ≡ script
back_ok bytes read is script h same = same_ok (script_of bytes) read script is (ap script_of same ∙ reads_back script h)

-- and no fault is told but that memory was refused
pub back_fault : (bytes : List ℕ) (fault : ScriptFault) → IsScriptFault bytes fault → (script : Script) → IsWritable script → bytes ≡ script_bytes script → fault ≡ NoMemory
back_fault bytes (Bad line kind) is script h same = not_ok (script_of bytes) _ script is (ap script_of same ∙ reads_back script h)
back_fault bytes NoMemory is script h same = refl
