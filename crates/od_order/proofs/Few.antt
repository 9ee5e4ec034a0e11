-- Every script that is read has no more grammars, clients and orders than it may have.
use Rattle.std.proofs.Common.{◌≡◌, ℕ, zero, suc, ◌+◌, ◌<◌, ◌≤◌, List, [], ◌∷◌, ◌++◌, length, Bool, true, false, refl, ap, ◌∙◌, subst, arith, length-append}
use Rattle.std.specs.Prelude.{Option, Some, None, Result, Ok, Err, IfOk, if◌then◌else◌, nat_le, nat_lt}
use Rattle.std.proofs.lemmas.Bool.{leb-false}
use Rattle.std.proofs.lemmas.List.Sums.{sum_by-cons, sum_by_push}
use Rattle.od_pattern.specs.declared.grammar.Head.{Head}
use Rattle.od_language.specs.Machine.{◌>>=◌}
use Rattle.od_text.proofs.Lists.{EachPoint-snoc}
use Rattle.od_order.specs.declared.keyword.Keyword.{Keyword}
use Rattle.od_order.specs.declared.script.Order.{Order}
use Rattle.od_order.specs.declared.script.Script.{Script}
use Rattle.od_order.specs.declared.script.TheConstants.{SCRIPT_BYTES, HEADS, CLIENTS, ORDERS}
use Rattle.od_order.specs.declared.script_kind.ScriptKind.{ScriptKind}
use Rattle.od_order.specs.Laws.{IsFew, ScriptsAreFew}
use Rattle.od_order.specs.Lines.{whole_lines, line_text, says_nothing, has_bad_byte}
use Rattle.od_order.specs.Scripts.{ScriptLine, Reading, nothing_said, text_at, keyword_at, has_head, order_count, with_order, with_head, with_rules, block_at, misplaced, head_fault, order_fault, client_fault, unless_fault, take_statement, take_saying, take_keyword, take_line, script_after, script_lines, script_of}
use Rattle.od_order.specs.Statements.{Statement, rules, query, client, document, order, Saying, statement_of}

-- ## One order more

pub same_clients : (x : Order) (clients : List (List Order)) → length (with_order x clients) ≡ length clients
same_clients x [] = refl
same_clients x (c ∷ []) = refl
same_clients x (c ∷ d ∷ more) = ap suc (same_clients x (d ∷ more))

pub one_order : (x : Order) (clients : List (List Order)) → order_count (with_order x clients) ≤ order_count clients + 1
one_order x [] = omega arith
one_order x (c ∷ []) = let e = length-append c (x ∷ []) in omega (arith, e)
one_order x (c ∷ d ∷ more) =
    let size : List Order → ℕ = λ orders. length orders in
    let e : order_count (with_order x (d ∷ more)) ≤ order_count (d ∷ more) + 1 = one_order x (d ∷ more) in
    let now = sum_by-cons size c (with_order x (d ∷ more)) in
    let before = sum_by-cons size c (d ∷ more) in
    omega (arith, e, now, before)

-- ## Readings

abbrev AreFew : Reading → Type 0
AreFew reading = IfOk reading IsFew

few-then : (r : Reading) (f : Script → Reading) → AreFew r → ((s : Script) → IsFew s → AreFew (f s)) → AreFew (r >>= f)
few-then (Ok s) f h more = more s h
few-then (Err e) f h more = tt

few-if : (b : Bool) (r r' : Reading) → AreFew r → AreFew r' → AreFew (if b then r else r')
few-if true r r' h h' = h
few-if false r r' h h' = h'

few-unless : (n : ℕ) (fault : Option ScriptKind) (r : Reading) → (fault ≡ None → AreFew r) → AreFew (unless_fault n fault r)
few-unless n None r h = h refl
few-unless n (Some kind) r h = tt

-- ## The tests

no_head_fault : (a b c : Bool) (x y z : ScriptKind) → (if a then Some x else if b then Some y else if c then Some z else None) ≡ None → (a ≡ false) × (c ≡ false)
no_head_fault true b c x y z e = absurd (cc)
no_head_fault false true c x y z e = absurd (cc)
no_head_fault false false true x y z e = absurd (cc)
no_head_fault false false false x y z e = (refl, refl)

no_order_fault : (a b : Bool) (x y : ScriptKind) → (if a then Some x else if b then Some y else None) ≡ None → b ≡ false
no_order_fault true b x y e = absurd (cc)
no_order_fault false true x y e = absurd (cc)
no_order_fault false false x y e = refl

no_client_fault : (a : Bool) (x : ScriptKind) → (if a then Some x else None) ≡ None → a ≡ false
no_client_fault true x e = absurd (cc)
no_client_fault false x e = refl

-- ## One line

few-head : (s : Script) (name : List ℕ) (head : Head) → head.name ≡ name → IsFew s → (has_head name s.heads ≡ false) × (nat_le HEADS (length s.heads) ≡ false) → IsFew (with_head s head)
few-head s name head is h free =
    let room : length s.heads < HEADS = leb-false HEADS (length s.heads) free.1 in
    record {
      heads = omega (arith, length-append s.heads (head ∷ []), room);
      clients = h.clients;
      orders = h.orders;
      distinct = EachPoint-snoc (λ (seen : List Head) x. has_head x.name seen ≡ false) s.heads head h.distinct (ap (λ n. has_head n s.heads) is ∙ free.0);
    }

few-order : (s : Script) (x : Order) → IsFew s → nat_le ORDERS (order_count s.clients) ≡ false → IsFew (record s { clients = with_order x s.clients })
few-order s x h free =
    let room : order_count s.clients < ORDERS = leb-false ORDERS (order_count s.clients) free in
    record {
      heads = h.heads;
      clients = omega (arith, same_clients x s.clients, h.clients);
      orders = omega (arith, one_order x s.clients, room);
      distinct = h.distinct;
    }

few-client : (s : Script) → IsFew s → nat_le CLIENTS (length s.clients) ≡ false → IsFew (record s { clients = s.clients ++ [] ∷ [] })
few-client s h free =
    let room : length s.clients < CLIENTS = leb-false CLIENTS (length s.clients) free in
    let same = sum_by_push (λ (orders : List Order). length orders) s.clients [] in
    record {
      heads = h.heads;
      clients = omega (arith, length-append s.clients ([] ∷ []), room);
      orders = omega (arith, same, h.orders);
      distinct = h.distinct;
    }

few-statement : (s : Script) (p : ScriptLine) (said : Statement) → IsFew s → AreFew (take_statement s p said)
few-statement s p (rules name count) h =
    few-unless p.number (head_fault s name p count) (with_rules s p name (block_at p count))
    (λ e. few-if (has_bad_byte (block_at p count)) _ _ tt (few-head s name _ refl h (no_head_fault (has_head name s.heads) _ (nat_le HEADS (length s.heads)) _ _ _ e)))
few-statement s p (query name pattern) h =
    few-unless p.number (head_fault s name p 0) _
    (λ e. few-head s name _ refl h (no_head_fault (has_head name s.heads) _ (nat_le HEADS (length s.heads)) _ _ _ e))
few-statement s p client h =
    few-unless p.number (client_fault s) _ (λ e. few-client s h (no_client_fault (nat_le CLIENTS (length s.clients)) _ e))
few-statement s p (document name count) h =
    few-unless p.number (order_fault s p count) _ (λ e. few-order s _ h (no_order_fault _ (nat_le ORDERS (order_count s.clients)) _ _ e))
few-statement s p (order x) h =
    few-unless p.number (order_fault s p 0) _ (λ e. few-order s x h (no_order_fault _ (nat_le ORDERS (order_count s.clients)) _ _ e))

few-saying : (s : Script) (p : ScriptLine) (saying : Saying) → IsFew s → AreFew (take_saying s p saying)
few-saying s p (Ok said) h = few-statement s p said h
few-saying s p (Err kind) h = tt

few-keyword : (s : Script) (p : ScriptLine) (k : Option Keyword) → IsFew s → AreFew (take_keyword s p k)
few-keyword s p None h = tt
few-keyword s p (Some k) h = few-unless p.number (misplaced s k) _ (λ e. few-saying s p (statement_of k (text_at p)) h)

few-line : (s : Script) (p : ScriptLine) → IsFew s → AreFew (take_line s p)
few-line s p h = few-if (has_bad_byte p.line) _ _ tt (few-if (says_nothing (text_at p)) _ _ h (few-keyword s p (keyword_at p) h))

few-after : (s : Script) (lines : List ScriptLine) → IsFew s → AreFew (script_after s lines)
few-after s [] h = h
few-after s (p ∷ more) h = few-then (take_line s p) (λ t. script_after t more) (few-line s p h) (λ t k. few-after t more k)

few-nothing : IsFew nothing_said
few-nothing = record { heads = omega arith; clients = omega arith; orders = omega arith; distinct = tt }

few-script : (bytes : List ℕ) → AreFew (script_of bytes)
unfolding script_of
few-script bytes = few-if (nat_lt SCRIPT_BYTES (length bytes)) _ _ tt (few-after nothing_said (script_lines 1 0 (whole_lines bytes)) few-nothing)

pub scripts_are_few : ScriptsAreFew
scripts_are_few bytes script is = subst AreFew is (few-script bytes)
