-- One written line with its block, and the script that it leaves.
use Rattle.std.proofs.Common.{◌≡◌, ℕ, ◌+◌, ◌^◌, ◌<◌, ◌≤◌, List, [], ◌∷◌, ◌++◌, length, Bool, true, false, refl, sym, ap, ◌∙◌, subst, arith, append_assoc, append-nil, length-append}
use Rattle.std.specs.Prelude.{◌==◌, ◌&&◌, nat_eq, nat_lt, nat_le, not, codes, decimal, Some, None, Ok, if◌then◌else◌}
use Rattle.std.specs.List.{join_with_byte, list_all, starts_with}
use Rattle.std.specs.Str.{IsUtf8, is_utf8}
use Rattle.std.proofs.lemmas.Bool.{le-ltb, ltb-true, ne_eqb, or_from}
use Rattle.std.proofs.lemmas.List.Folds.{list_all-append}
use Rattle.std.proofs.lemmas.Str.{IsUtf8-from_is_utf8, IsUtf8-append}
use Rattle.od_text.specs.Lists.{Each}
use Rattle.od_text.specs.Cuts.{split_once}
use Rattle.od_pattern.specs.declared.grammar.GrammarKind.{GrammarKind}
use Rattle.od_pattern.specs.declared.grammar.GrammarKind.TheVariants.{RuleFile, Query}
use Rattle.od_pattern.specs.declared.grammar.Head.{Head}
use Rattle.od_command.specs.declared.history.Command.TheVariants.{AddDoc, OpenSession, Step, Resume, Print, Release, Settle}
use Rattle.od_order.specs.declared.keyword.Keyword.{Keyword}
use Rattle.od_order.specs.declared.keyword.Keyword.TheVariants as keyword
use Rattle.od_order.specs.declared.script.Order.{Order}
use Rattle.od_order.specs.declared.script.Order.TheVariants.{One, Run}
use Rattle.od_order.specs.declared.script.Script.{Script}
use Rattle.od_order.specs.declared.script.TheConstants.{SCRIPT_BYTES, NUMBER_DIGITS, HEADS, CLIENTS, ORDERS}
use Rattle.od_order.specs.declared.script_kind.ScriptKind.TheVariants.{NoClient}
use Rattle.od_order.specs.Lines.{whole_lines, line_text, says_nothing, has_bad_byte}
use Rattle.od_order.specs.Names.{is_name}
use Rattle.od_order.specs.Scripts.{ScriptLine, script_lines, script_after, has_client, has_head, order_count, with_order, with_head, with_rules, misplaced, block_at, take_statement, take_keyword, take_line}
use Rattle.od_order.specs.Statements.{words_of, first_word, keyword_of, keyword_in, begins_head, begins_order, Statement, rules, query, client, document, order, Saying, alone, naming, counting, opening, querying, query_parts, statement_of, block_count, block_behind}
use Rattle.od_script.specs.Readers.{line_at}
use Rattle.od_script.specs.Written.{line_of, line_count, block_bytes, grammar_bytes, order_bytes, ends_a_line, is_grammar_text, IsOrder}
use Rattle.od_script.proofs.Blocks.{good_bytes}
use Rattle.od_script.proofs.Folds.{line_taken, text_taken, said_block, some_block, goes_on}
use Rattle.od_script.proofs.WrittenLines.{both, not_true, EndsBefore, IsLine, cut_line, said_text, few_lines, block_left}
use Rattle.od_script.proofs.WrittenWords.{IsWord, name_is_word, word_utf8, word_avoids, cut_word, cut_once, spaced_end, one_byte, words_back, words_line, number_back, number_word}

-- ## From one script to the next

-- behind one script, a statement makes another of it, whatever its line's number and what follows
abbrev pub Makes : Script → List ℕ → Script → Type 0
Makes s bytes t = (number : ℕ) (rest : List ℕ) → EndsBefore bytes rest → (next : ℕ) × (script_after s (script_lines number 0 (whole_lines (bytes ++ rest))) ≡ script_after t (script_lines next 0 (whole_lines rest)))

module _ (s t : Script) (k : Keyword) (said : Statement) (text block : List ℕ) where
  -- a line with its block
  pub line_reads : IsLine text → says_nothing text ≡ false → keyword_in text ≡ Some k → misplaced s k ≡ None → statement_of k text ≡ Ok said → block_count (Ok said) ≡ line_count block
      → ((p : ScriptLine) → nat_lt (length p.behind) (line_count block) ≡ false → block_at p (line_count block) ≡ block → take_statement s p said ≡ Ok t)
      → Makes s ((text ++ 10 ∷ []) ++ block) t
  line_reads line some begins may says counts takes number rest ends =
      let ended : List ℕ = text ++ 10 ∷ [] in
      let behind : List ℕ = block ++ rest in
      let left = block_left ended block rest ends in
      let cut : whole_lines ((ended ++ block) ++ rest) ≡ ended ∷ whole_lines behind =
      ap whole_lines (append_assoc ended block rest ∙ append_assoc text (10 ∷ []) behind) ∙ cut_line text behind line.one in
      let same : line_text ended ≡ text = said_text text line in
      let good : has_bad_byte ended ≡ false = good_bytes ended (IsUtf8-append text (10 ∷ []) line.good (one_byte 10 (omega arith))) in
      let taken : take_line s (line_at number ended behind) ≡ Ok t =
      line_taken s number ended behind good (ap says_nothing same ∙ some)
      ∙ ap (λ x. take_keyword s (line_at number ended behind) (keyword_in x)) same
      ∙ text_taken s number ended behind text k said begins may says same
      ∙ takes (line_at number ended behind) (le-ltb (length (whole_lines behind)) (line_count block) left.0) left.1 in
      let count : block_behind (line_text ended) ≡ line_count block = ap block_behind same ∙ some_block text some ∙ said_block text k said begins says ∙ counts in (
        number + (1 + line_count block),
        goes_on s t number (line_count block) ended ((ended ++ block) ++ rest) behind rest cut taken (sym count) (rw count left.0) (rw count (sym left.2)),
      )

-- a line without a block
pub alone_reads : (s t : Script) (k : Keyword) (said : Statement) (text : List ℕ) → IsLine text → says_nothing text ≡ false → keyword_in text ≡ Some k → misplaced s k ≡ None → statement_of k text ≡ Ok said → block_count (Ok said) ≡ 0
    → ((p : ScriptLine) → nat_lt (length p.behind) 0 ≡ false → take_statement s p said ≡ Ok t)
    → Makes s (text ++ 10 ∷ []) t
alone_reads s t k said text line some begins may says none takes =
    subst (λ bytes. Makes s bytes t) (append-nil (text ++ 10 ∷ [])) (line_reads s t k said text [] line some begins may says none (λ p free _. takes p free))

-- a text that does not begin with `#`
something : (text : List ℕ) → 0 < length text → starts_with nat_eq text (35 ∷ []) ≡ false → says_nothing text ≡ false
something text some other = or_from (length text == 0) _ (ne_eqb (length text) 0 (λ none. omega (arith, none, some))) other

-- a line of words: a keyword, and what is said by the words
pub record IsSaid (k : Keyword) (said : Statement) (word : List ℕ) (words : List (List ℕ)) : Type 0 where
  pub are_words : Each IsWord (word ∷ words)
  pub some : says_nothing (join_with_byte 32 (word ∷ words)) ≡ false
  pub keyword_is : keyword_of word ≡ Some k
  pub reader : List (List ℕ) → Saying
  pub read_so : (text : List ℕ) → statement_of k text ≡ reader (words_of text)
  pub says : reader (word ∷ words) ≡ Ok said

module _ (s t : Script) (k : Keyword) (said : Statement) (word : List ℕ) (words : List (List ℕ)) (h : IsSaid k said word words) (may : misplaced s k ≡ None) where
  begins : keyword_in (join_with_byte 32 (word ∷ words)) ≡ Some k
  begins = ap (λ ws. keyword_of (first_word ws)) (words_back word words h.are_words) ∙ h.keyword_is

  says : statement_of k (join_with_byte 32 (word ∷ words)) ≡ Ok said
  says = h.read_so (join_with_byte 32 (word ∷ words)) ∙ ap h.reader (words_back word words h.are_words) ∙ h.says

  -- with a block
  pub words_read : (block : List ℕ) → block_count (Ok said) ≡ line_count block
      → ((p : ScriptLine) → nat_lt (length p.behind) (line_count block) ≡ false → block_at p (line_count block) ≡ block → take_statement s p said ≡ Ok t)
      → Makes s (line_of (word ∷ words) ++ block) t
  words_read block counts takes =
      line_reads s t k said (join_with_byte 32 (word ∷ words)) block (words_line (word ∷ words) h.are_words) h.some begins may says counts takes

  -- without one
  pub words_alone : block_count (Ok said) ≡ 0 → ((p : ScriptLine) → nat_lt (length p.behind) 0 ≡ false → take_statement s p said ≡ Ok t) → Makes s (line_of (word ∷ words)) t
  words_alone none takes =
      alone_reads s t k said (join_with_byte 32 (word ∷ words)) (words_line (word ∷ words) h.are_words) h.some begins may says none takes

-- ## Heads

module _ (s : Script) (name : List ℕ) where
  rules_taken : (p : ScriptLine) (text : List ℕ) → has_head name s.heads ≡ false → nat_le HEADS (length s.heads) ≡ false → has_bad_byte text ≡ false → nat_lt (length p.behind) (line_count text) ≡ false → block_at p (line_count text) ≡ text
      → take_statement s p (rules name (line_count text)) ≡ Ok (with_head s (record { name = name; kind = RuleFile; text = text }))
  rules_taken p text new room good free is = rw (new, free, room) (ap (λ b. with_rules s p name b) is ∙ rw good refl)

  query_taken : (p : ScriptLine) (pattern : List ℕ) → has_head name s.heads ≡ false → nat_le HEADS (length s.heads) ≡ false → nat_lt (length p.behind) 0 ≡ false
      → take_statement s p (query name pattern) ≡ Ok (with_head s (record { name = name; kind = Query; text = pattern }))
  query_taken p pattern new room free = rw (new, free, room) refl

-- a pattern behind a name
pattern_line : (name pattern : List ℕ) → is_name name ≡ true → ends_a_line pattern ≡ true → IsLine (join_with_byte 32 (codes "query" ∷ name ∷ pattern ∷ []))
pattern_line name pattern named h =
    let word = name_is_word name named in
    let t = both (is_utf8 pattern) _ h in
    let u = both (list_all (λ b. not (b == 10)) pattern) _ t.1 in
    let front : IsUtf8 (codes "query" ++ 32 ∷ []) = IsUtf8-append (codes "query") (32 ∷ []) (word_utf8 (codes "query") refl) (one_byte 32 (omega arith)) in
    record {
      one = list_all-append (λ b. not (b == 10)) name (32 ∷ pattern) ∙ rw (word_avoids 10 (omega arith) name word, u.0) refl;
      unreturned = spaced_end (codes "query" ++ 32 ∷ name) pattern (not_true _ u.1);
      good = IsUtf8-append (codes "query" ++ 32 ∷ []) (name ++ 32 ∷ pattern) front
          (IsUtf8-append name (32 ∷ pattern) (word_utf8 name word) (IsUtf8-append (32 ∷ []) pattern (one_byte 32 (omega arith)) (IsUtf8-from_is_utf8 pattern t.0)));
    }

pattern_back : (name pattern : List ℕ) → IsWord name → query_parts (split_once 32 (join_with_byte 32 (codes "query" ∷ name ∷ pattern ∷ []))) ≡ Some (name, pattern)
pattern_back name pattern word =
    ap query_parts (cut_once 32 (codes "query") (name ++ 32 ∷ pattern) refl) ∙ cut_once 32 name pattern (word_avoids 32 (omega arith) name word)

query_said : (name pattern : List ℕ) → is_name name ≡ true → statement_of keyword.Query (join_with_byte 32 (codes "query" ∷ name ∷ pattern ∷ [])) ≡ Ok (query name pattern)
query_said name pattern named = ap querying (pattern_back name pattern (name_is_word name named)) ∙ rw named refl

-- so many lines are a number
count_small : (front block : List ℕ) → length (front ++ block) ≤ SCRIPT_BYTES → line_count block < 10 ^ NUMBER_DIGITS
count_small front block small = omega (arith, few_lines block, length-append front block, small)

-- a keyword, a name and a number
counted : (k : Keyword) (word name : List ℕ) (saying : List ℕ → ℕ → Statement) (n : ℕ) → IsWord word → says_nothing (join_with_byte 32 (word ∷ name ∷ decimal n ∷ [])) ≡ false → keyword_of word ≡ Some k → ((text : List ℕ) → statement_of k text ≡ counting saying (words_of text))
    → is_name name ≡ true → n < 10 ^ NUMBER_DIGITS → IsSaid k (saying name n) word (name ∷ decimal n ∷ [])
counted k word name saying n h some is read named below = record {
  are_words = (h, (name_is_word name named, (number_word n below, tt)));
  some = some;
  keyword_is = is;
  reader = counting saying;
  read_so = read;
  says = rw (named, number_back n below) refl;
}

-- heads alone
abbrev pub with_heads : List Head → Script
with_heads heads = record { heads = heads; clients = [] }

module _ (seen : List Head) where
  -- a grammar behind others
  pub grammar_reads : (kind : GrammarKind) (name text : List ℕ) → is_name name ≡ true → is_grammar_text kind text ≡ true → has_head name seen ≡ false → nat_le HEADS (length seen) ≡ false → length (grammar_bytes kind name text) ≤ SCRIPT_BYTES
      → Makes (with_heads seen) (grammar_bytes kind name text) (with_heads (seen ++ record { name = name; kind = kind; text = text } ∷ []))
  grammar_reads RuleFile name text named h new room small =
      let n : ℕ = line_count text in
      let below = count_small (line_of (codes "grammar" ∷ name ∷ decimal n ∷ [])) text small in
      let some = something (join_with_byte 32 (codes "grammar" ∷ name ∷ decimal n ∷ [])) (omega arith) refl in
      words_read (with_heads seen) _ keyword.Grammar (rules name n) (codes "grammar") (name ∷ decimal n ∷ []) (counted keyword.Grammar (codes "grammar") name rules n refl some refl (λ text. refl) named below) refl
      text refl (λ p free is. rules_taken (with_heads seen) name p text new room (ap not h) free is)
  grammar_reads Query name pattern named h new room small =
      alone_reads (with_heads seen) _ keyword.Query (query name pattern) (join_with_byte 32 (codes "query" ∷ name ∷ pattern ∷ []))
      (pattern_line name pattern named h) (something (join_with_byte 32 (codes "query" ∷ name ∷ pattern ∷ [])) (omega arith) refl) (ap (λ ws. keyword_of (first_word ws)) (cut_word (codes "query") (name ++ 32 ∷ pattern) refl)) refl
      (query_said name pattern named) refl
      (λ p free. query_taken (with_heads seen) name p pattern new room free)

-- ## Clients and orders

-- a client begins
pub client_reads : (heads : List Head) (clients : List (List Order)) → nat_le CLIENTS (length clients) ≡ false
    → Makes (record { heads = heads; clients = clients }) (line_of (codes "client" ∷ [])) (record { heads = heads; clients = clients ++ [] ∷ [] })
client_reads heads clients room =
    let said : IsSaid keyword.Client client (codes "client") [] = record { are_words = (refl, tt); some = refl; keyword_is = refl; reader = alone client; read_so = λ text. refl; says = refl } in
    words_alone _ _ keyword.Client client (codes "client") [] said refl refl (λ p free. rw room refl)

never : (b : Bool) → (if b && not true then Some NoClient else None) ≡ None
never true = refl
never false = refl

module _ (s : Script) (begun : has_client s ≡ true) (room : nat_le ORDERS (order_count s.clients) ≡ false) where
  -- the script with an order more
  abbrev ordered : Order → Script
  ordered x = record s { clients = with_order x s.clients }

  may_order : (k : Keyword) → begins_head k ≡ false → misplaced s k ≡ None
  may_order k e = rw (e, begun) (never (begins_order k))

  order_taken : (x : Order) (p : ScriptLine) → nat_lt (length p.behind) 0 ≡ false → take_statement s p (order x) ≡ Ok (ordered x)
  order_taken x p free = rw (free, room) refl

  document_taken : (p : ScriptLine) (name body : List ℕ) → nat_lt (length p.behind) (line_count body) ≡ false → block_at p (line_count body) ≡ body → take_statement s p (document name (line_count body)) ≡ Ok (ordered (One (AddDoc name body)))
  document_taken p name body free is = rw (free, room) (ap (λ b. Ok (ordered (One (AddDoc name b)))) is)

  -- a keyword and a session's name
  named_reads : (k : Keyword) (word name : List ℕ) (f : List ℕ → Order) → IsWord word → says_nothing (join_with_byte 32 (word ∷ name ∷ [])) ≡ false → keyword_of word ≡ Some k → begins_head k ≡ false → ((text : List ℕ) → statement_of k text ≡ naming (λ n. order (f n)) (words_of text)) → is_name name ≡ true
      → Makes s (line_of (word ∷ name ∷ [])) (ordered (f name))
  named_reads k word name f h some is other read named =
      let said : IsSaid k (order (f name)) word (name ∷ []) = record { are_words = (h, (name_is_word name named, tt)); some = some; keyword_is = is; reader = naming (λ n. order (f n)); read_so = read; says = rw named refl } in
      words_alone s _ k (order (f name)) word (name ∷ []) said (may_order k other) refl (order_taken (f name))

  document_reads : (name body : List ℕ) → is_name name ≡ true → length (block_bytes (codes "doc") name body) ≤ SCRIPT_BYTES → Makes s (block_bytes (codes "doc") name body) (ordered (One (AddDoc name body)))
  document_reads name body named small =
      let n : ℕ = line_count body in
      let below = count_small (line_of (codes "doc" ∷ name ∷ decimal n ∷ [])) body small in
      let some = something (join_with_byte 32 (codes "doc" ∷ name ∷ decimal n ∷ [])) (omega arith) refl in
      words_read s _ keyword.Doc (document name n) (codes "doc") (name ∷ decimal n ∷ []) (counted keyword.Doc (codes "doc") name document n refl some refl (λ text. refl) named below) (may_order keyword.Doc refl)
      body refl (λ p free is. document_taken p name body free is)

  opening_reads : (session grammar : List ℕ) (limit : ℕ) → (is_name session && is_name grammar) ≡ true → limit < 10 ^ NUMBER_DIGITS
      → Makes s (line_of (codes "open" ∷ session ∷ grammar ∷ decimal limit ∷ [])) (ordered (One (OpenSession session grammar limit)))
  opening_reads session grammar limit named below =
      let t = both (is_name session) (is_name grammar) named in
      let said : IsSaid keyword.Open (order (One (OpenSession session grammar limit))) (codes "open") (session ∷ grammar ∷ decimal limit ∷ []) = record {
        are_words = (refl, (name_is_word session t.0, (name_is_word grammar t.1, (number_word limit below, tt))));
        some = something (join_with_byte 32 (codes "open" ∷ session ∷ grammar ∷ decimal limit ∷ [])) (omega arith) refl;
        keyword_is = refl;
        reader = opening;
        read_so = λ text. refl;
        says = rw (named, number_back limit below) refl;
      } in
      words_alone s _ keyword.Open (order (One (OpenSession session grammar limit))) (codes "open") (session ∷ grammar ∷ decimal limit ∷ []) said (may_order keyword.Open refl) refl (order_taken (One (OpenSession session grammar limit)))

  settle_reads : Makes s (line_of (codes "settle" ∷ [])) (ordered (One Settle))
  settle_reads =
      let said : IsSaid keyword.Settle (order (One Settle)) (codes "settle") [] = record { are_words = (refl, tt); some = refl; keyword_is = refl; reader = alone (order (One Settle)); read_so = λ text. refl; says = refl } in
      words_alone s _ keyword.Settle (order (One Settle)) (codes "settle") [] said (may_order keyword.Settle refl) refl (order_taken (One Settle))

  pub order_reads : (x : Order) → IsOrder x → length (order_bytes x) ≤ SCRIPT_BYTES → Makes s (order_bytes x) (ordered x)
  order_reads (One (AddDoc name body)) h small = document_reads name body h.0 small
  order_reads (One (OpenSession session grammar limit)) h small = opening_reads session grammar limit h.0 (ltb-true limit (10 ^ NUMBER_DIGITS) h.1)
  order_reads (One (Step session)) h small =
      named_reads keyword.Step (codes "step") session (λ n. One (Step n)) refl (something (join_with_byte 32 (codes "step" ∷ session ∷ [])) (omega arith) refl) refl refl (λ text. refl) h.0
  order_reads (One (Resume session)) h small =
      named_reads keyword.Resume (codes "resume") session (λ n. One (Resume n)) refl (something (join_with_byte 32 (codes "resume" ∷ session ∷ [])) (omega arith) refl) refl refl (λ text. refl) h.0
  order_reads (One (Print session)) h small =
      named_reads keyword.Print (codes "print") session (λ n. One (Print n)) refl (something (join_with_byte 32 (codes "print" ∷ session ∷ [])) (omega arith) refl) refl refl (λ text. refl) h.0
  order_reads (One (Release session)) h small =
      named_reads keyword.Release (codes "release") session (λ n. One (Release n)) refl (something (join_with_byte 32 (codes "release" ∷ session ∷ [])) (omega arith) refl) refl refl (λ text. refl) h.0
  order_reads (One Settle) h small = settle_reads
  order_reads (Run session) h small =
      named_reads keyword.Run (codes "run") session Run refl (something (join_with_byte 32 (codes "run" ∷ session ∷ [])) (omega arith) refl) refl refl (λ text. refl) h
