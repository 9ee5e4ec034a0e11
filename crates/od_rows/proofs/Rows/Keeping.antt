-- The rows that a legal history leaves are well formed, and give the object that it leads to.
use Rattle.std.proofs.Common.{◌≡◌, ◌≢◌, ℕ, suc, ◌+◌, ◌≤◌, List, [], ◌∷◌, ◌++◌, length, map, filter, find, take, Option, Some, None, Result, Ok, Err, Bool, true, false, cond, ◌||◌, ◌&&◌, nat_lt, nat_le, refl, sym, ap, ap₂, ◌∙◌, subst, bytes_eq, append-nil, append_assoc, if◌then◌else◌, arith, eqb, length-append, ltb-false, leb-false, flat_map}
use Rattle.std.specs.List.{list_any}
use Rattle.std.specs.Prelude.{option_map}
use Rattle.std.specs.Option.{option_or}
use Rattle.std.proofs.lemmas.List.{take-append-le, map-append}
use Rattle.std.proofs.lemmas.List.Concat.{flat_map-append}
use Rattle.std.proofs.lemmas.List.Sums.{sum_by-append}
use Rattle.std.proofs.lemmas.List.Folds.{find-append}
use Rattle.std.proofs.lemmas.Bool.{or_parts, and_parts}
use Rattle.od_document.specs.declared.doc.Doc.{Doc}
use Rattle.od_document.specs.declared.conllu.ConlluFault.{ConlluFault}
use Rattle.od_document.specs.Building.{document_of}
use Rattle.od_document.specs.Faults.{doc_fault}
use Rattle.od_document.proofs.Existence.{document_built, document_of-Reads}
use Rattle.od_pattern.specs.declared.grammar.Head.{Head}
use Rattle.od_extraction.specs.declared.mention.Mention.{Mention}
use Rattle.od_extraction.specs.declared.mention.RoundResult.{RoundResult}
use Rattle.od_extraction.specs.declared.mention.RoundResult.TheVariants.{Found}
use Rattle.od_extraction.specs.declared.mention.RoundResult.TheVariants as outcome
use Rattle.od_extraction.specs.declared.phase.Phase.{Phase}
use Rattle.od_extraction.specs.Joined.{joined}
use Rattle.od_matching.specs.Rounds.Round.{round}
use Rattle.od_matching.specs.Rounds.Phases.{greatest_first}
use Rattle.od_extraction.specs.declared.phase.Phase.TheVariants as stage
use Rattle.od_stored.specs.Mentions.{list_bytes}
use Rattle.od_stored.specs.ReadMentions.{list_read}
use Rattle.od_row.specs.declared.rows.DocRow.{DocRow}
use Rattle.od_row.specs.declared.rows.SessionRow.{SessionRow}
use Rattle.od_row.specs.declared.rows.RoundRow.{RoundRow}
use Rattle.od_row.specs.declared.rows.Rows.{Rows}
use Rattle.od_command.specs.declared.history.Command.{Command}
use Rattle.od_command.specs.declared.history.Command.TheVariants.{AddDoc, OpenSession, Step, Resume, Print, Release, Settle}
use Rattle.od_command.specs.declared.history.Reply.{Reply}
use Rattle.od_command.specs.declared.history.Reply.TheVariants.{Added, Opened, Resumed, Refused}
use Rattle.od_command.specs.declared.history.Refusal.{Refusal}
use Rattle.od_command.specs.declared.history.Refusal.TheVariants.{Duplicate, Full, NoGrammar, BadLimit, Taken, NoRoom, Busy}
use Rattle.od_command.specs.declared.history.Entry.{Entry}
use Rattle.od_order.specs.Names.{is_name, IsProper}
use Rattle.od_rule_text.specs.declared.limits.TheConstants.{GRAMMAR_BYTES}
use Rattle.od_session.specs.declared.object.SessionState.{SessionState}
use Rattle.od_session.specs.declared.object.OneThread.{OneThread}
use Rattle.od_session.specs.declared.object.TheConstants.{ALL_DOCUMENTS, ALL_BYTES, SESSIONS, SESSION_ROUNDS}
use Rattle.od_session.specs.Parts.{IsAccepted, Distinct, is_named, session_of, has_session, has_doc, is_full, size_of, head_of, phase_with, round_at, grammar_at, is_known}
use Rattle.od_text.specs.Lists.{Each, EachPoint, points_after, points}
use Rattle.od_model.specs.Object.Replies.{Replies, reply_read, reply_headed, reply_step, reply_phase, reply_round, reply_resume, reply_unheld, reply_print, reply_release, held, held_in, held_as}
use Rattle.od_model.specs.Object.Sound.{IsSound, IsSoundSession}
use Rattle.od_model.specs.Object.Effects.{doc_made, change, found_of, stepped, taken_by, let_go, opened, effect_of}
use Rattle.od_model.specs.History.Legal.{state_after, IsNext}
use Rattle.od_text.proofs.Lists.{Each-map, Each-weaker, Each-both, Each-find, EachPoint-snoc, EachPoint-weaker, EachPoint-each, find-passes, points-snoc}
use Rattle.od_matching.proofs.Rounds.Found.{round-found}
use Rattle.od_model.proofs.Objects.Names.{session-unique, same-name, Distinct-kept}
use Rattle.od_model.proofs.Histories.Steps.{state_after-start, state_after-snoc}
use Rattle.od_model.proofs.Histories.Sound.{going-below, sound-after}
use Rattle.od_rows.specs.Loaded.{doc_of, docs_of, is_round_of, list_of, lists_of, session_in, load, released}
use Rattle.od_rows.specs.Formed.{is_doc_row, is_session_row, bytes_in, FitsDoc, FitsSession, FitsRound, WellFormed}
use Rattle.od_rows.specs.After.{doc_rows, session_rows, row_of_head, row_of_round, round_rows_at, keep_reply, keep, After, ReadsBack, ReadsBackIn, IsReadBack}
use Rattle.od_rows.specs.Laws.{GoesOnFrom, FormedStaysFormed, FoundIsWritable, LegalRoundsReadBack, LoadsWhatWasReached, SoundStaysSound, NoRowsAreSound}
use Rattle.od_rows.proofs.Rows.Known.{IsHeldKnown, IsGood, knows, held-back, held-writable}
use Rattle.od_stored.specs.declared.limits.TheConstants.{NUMBER_END}
use Rattle.std.specs.Prelude.{IsUtf8}
use Rattle.od_rows.proofs.Rows.Short.{accepted-short}
use Rattle.od_rows.proofs.Rows.Names.{map-map, with_list, filtered, sessions-snoc, go-change, go-unchanged, change-same, session-released, session-in, Distinct-map, Distinct-from_map, named-released, named-in}

-- the rows are well formed, and give the object with nobody holding a session
pub record Stands (rows : Rows) (o : OneThread) : Type 0 where
  pub load_is : load rows ≡ released o
  pub formed : WellFormed rows

rows-made : (a a' : List DocRow) (b b' : List SessionRow) (c c' : List RoundRow) → a ≡ a' → b ≡ b' → c ≡ c' → ◌≡◌ {A = Rows} (record { docs = a; sessions = b; rounds = c }) (record { docs = a'; sessions = b'; rounds = c' })
rows-made a a' b b' c c' p q r = rw (p, q, r) refl

object-made : (a a' : List Doc) (b b' : List SessionState) → a ≡ a' → b ≡ b' → ◌≡◌ {A = OneThread} (record { docs = a; sessions = b }) (record { docs = a'; sessions = b' })
object-made a a' b b' p q = rw (p, q) refl

module _ (rows : Rows) (o : OneThread) (s : Stands rows o) where
  pub docs-are : docs_of rows.docs ≡ o.docs
  docs-are = ap (λ (x : OneThread). x.docs) s.load_is

  pub sessions-are : map (session_in rows.rounds) rows.sessions ≡ map let_go o.sessions
  sessions-are = ap (λ (x : OneThread). x.sessions) s.load_is

  -- the names of the sessions differ
  pub distinct : Distinct o.sessions
  distinct = Distinct-from_map let_go o.sessions (subst Distinct sessions-are (Distinct-map (session_in rows.rounds) rows.sessions
      (EachPoint-weaker (FitsSession (docs_of rows.docs)) (λ seen r. list_any (is_session_row r.name) seen ≡ false) (λ seen r f. f.new) rows.sessions s.formed.sessions)))

  names-are : (name : List ℕ) → list_any (is_session_row name) rows.sessions ≡ has_session o name
  names-are name = sym (named-in name rows.rounds rows.sessions) ∙ ap (list_any (is_named name)) sessions-are ∙ named-released name o.sessions

len-map : {X Y : Type 0} (f : X → Y) (xs : List X) → length (map f xs) ≡ length xs
len-map f [] = refl
len-map f (x ∷ xs) = ap suc (len-map f xs)

-- nothing kept, nothing changed
same-rows : (rows : Rows) → ◌≡◌ {A = Rows} (record { docs = rows.docs ++ []; sessions = rows.sessions ++ []; rounds = rows.rounds ++ [] }) rows
same-rows rows = rows-made _ _ _ _ _ _ (append-nil rows.docs) (append-nil rows.sessions) (append-nil rows.rounds)

nothing-kept : (rows : Rows) (o : OneThread) → Stands rows o → Stands (record { docs = rows.docs ++ []; sessions = rows.sessions ++ []; rounds = rows.rounds ++ [] }) o
nothing-kept rows o s = subst (λ r. Stands r o) (sym (same-rows rows)) s

-- ## One document more

fits-more : (docs : List Doc) (doc : Doc) (seen : List SessionRow) (row : SessionRow) → FitsSession docs seen row → FitsSession (docs ++ doc ∷ []) seen row
fits-more docs doc seen row h = record { name = h.name; new = h.new; documents = omega (arith, length-append docs (doc ∷ []), h.documents); some = h.some; limit = h.limit; text = h.text; few = h.few }

few-documents : (docs : List Doc) (rows : List SessionRow) → EachPoint (FitsSession docs) rows → Each (λ row. row.documents ≤ length docs) rows
few-documents docs rows h = EachPoint-each (λ row. row.documents ≤ length docs) rows (EachPoint-weaker (FitsSession docs) (λ seen row. row.documents ≤ length docs) (λ seen row f. f.documents) rows h)

round-more : (docs : List Doc) (doc : Doc) (sessions : List SessionRow) → Each (λ row. row.documents ≤ length docs) sessions → (seen : List RoundRow) (row : RoundRow) → FitsRound docs sessions seen row → FitsRound (docs ++ doc ∷ []) sessions seen row
round-more docs doc sessions few seen row h =
    let inside : h.session.documents ≤ length docs = Each-find (λ row. row.documents ≤ length docs) (is_session_row row.session) h.session sessions few h.there in
    record { session = h.session; there = h.there; number = h.number; limit = h.limit; mentions = h.mentions; reads = h.reads; light = h.light; within = rw (take-append-le h.session.documents docs (doc ∷ []) inside) h.within }

-- a document has the name and the size of what it was read from
named-as-read : (name body : List ℕ) (doc : Doc) → document_of name body ≡ Some doc → (doc.name ≡ name) × (doc.size ≡ length body)
named-as-read name body doc e = let r = document_of-Reads name body doc e in (r.name_is, r.size_is)

-- what the rows of documents say of the documents
record AreRead (rows : List DocRow) : Type 0 where
  long : length (docs_of rows) ≡ length rows
  named : (name : List ℕ) → list_any (λ doc. bytes_eq doc.name name) (docs_of rows) ≡ list_any (is_doc_row name) rows
  heavy : size_of (docs_of rows) ≡ bytes_in rows

are-read : (rows : List DocRow) → Each (λ row. (doc : Doc) × (document_of row.name row.body ≡ Some doc)) rows → AreRead rows
are-read [] h = record { long = refl; named = λ name. refl; heavy = refl }
are-read (row ∷ rows) h =
    let more = are-read rows h.1 in
    let is : doc_of row ≡ h.0.0 ∷ [] = ap doc_made h.0.1 in
    let all : docs_of (row ∷ rows) ≡ h.0.0 ∷ docs_of rows = ap (λ l. l ++ docs_of rows) is in
    let says = named-as-read row.name row.body h.0.0 h.0.1 in
    record {
      long = ap length all ∙ ap suc more.long;
      named = λ name. ap (list_any (λ doc. bytes_eq doc.name name)) all ∙ ap₂ ◌||◌ (ap (λ n. bytes_eq n name) says.0) (more.named name);
      heavy = ap size_of all ∙ sum_by-append (λ doc. doc.size) (h.0.0 ∷ []) (docs_of rows) ∙ ap₂ ◌+◌ (ap (λ n. 0 + n) says.1) more.heavy ∙ sym (sum_by-append (λ r. length r.body) (row ∷ []) rows);
    }

all-read : (rows : List DocRow) → EachPoint FitsDoc rows → AreRead rows
all-read rows h = are-read rows (EachPoint-each (λ row. (doc : Doc) × (document_of row.name row.body ≡ Some doc)) rows
    (EachPoint-weaker FitsDoc (λ seen row. (doc : Doc) × (document_of row.name row.body ≡ Some doc)) (λ seen row f. (f.doc, f.reads)) rows h))

add-doc : (rows : Rows) (o : OneThread) → Stands rows o → (name body : List ℕ) (doc : Doc) → is_name name ≡ true → document_of name body ≡ Some doc → has_doc o name ≡ false → is_full o (length body) ≡ false
    → Stands (record rows { docs = rows.docs ++ record { name = name; body = body } ∷ [] }) (record o { docs = o.docs ++ doc ∷ [] })
add-doc rows o s name body doc proper is new room =
    let row : DocRow = record { name = name; body = body } in
    let all = all-read rows.docs s.formed.docs in
    let one_more : docs_of (rows.docs ++ row ∷ []) ≡ docs_of rows.docs ++ doc ∷ [] = flat_map-append doc_of rows.docs (row ∷ []) ∙ ap (λ l. docs_of rows.docs ++ (l ++ [])) (ap doc_made is) in
    let full = or_parts (nat_le ALL_DOCUMENTS (length o.docs)) (nat_lt ALL_BYTES (size_of o.docs + length body)) room in
    let docs = docs-are rows o s in
    record {
      load_is = object-made _ _ _ _ (one_more ∙ ap (λ d. d ++ doc ∷ []) docs) (sessions-are rows o s);
      formed = record {
        docs = EachPoint-snoc FitsDoc rows.docs row s.formed.docs (record {
          name = proper;
          new = sym (all.named name) ∙ ap (list_any (λ d. bytes_eq d.name name)) docs ∙ new;
          doc = doc;
          reads = is;
          few = let h = leb-false ALL_DOCUMENTS (length o.docs) full.0 in let l : length (docs_of rows.docs) ≡ length o.docs = ap length docs in omega (arith, all.long, l, h);
          light = let h = ltb-false ALL_BYTES (size_of o.docs + length body) full.1 in let l : size_of (docs_of rows.docs) ≡ size_of o.docs = ap size_of docs in omega (arith, all.heavy, l, h);
        });
        sessions = rw one_more (EachPoint-weaker (FitsSession (docs_of rows.docs)) (FitsSession (docs_of rows.docs ++ doc ∷ [])) (fits-more (docs_of rows.docs) doc) rows.sessions s.formed.sessions);
        rounds = rw one_more (EachPoint-weaker (FitsRound (docs_of rows.docs) rows.sessions) (FitsRound (docs_of rows.docs ++ doc ∷ []) rows.sessions) (round-more (docs_of rows.docs) doc rows.sessions (few-documents (docs_of rows.docs) rows.sessions s.formed.sessions)) rows.rounds s.formed.rounds);
      };
    }

-- ## One session more

round-named : (docs : List Doc) (sessions : List SessionRow) (row : SessionRow) (seen : List RoundRow) (r : RoundRow) → FitsRound docs sessions seen r → FitsRound docs (sessions ++ row ∷ []) seen r
round-named docs sessions row seen r h = record { session = h.session; there = find-append (is_session_row r.session) sessions (row ∷ []) ∙ ap (λ o. option_or o (find (is_session_row r.session) (row ∷ []))) h.there; number = h.number; limit = h.limit; mentions = h.mentions; reads = h.reads; light = h.light; within = h.within }

-- a name that no session has stands in no round row
none-at : (p : SessionRow → Bool) (y : SessionRow) (xs : List SessionRow) (x : SessionRow) (b : Bool) → p y ≡ b → (b || list_any p xs) ≡ false → cond b (Some y) (find p xs) ≡ Some x → (list_any p xs ≡ false → find p xs ≡ Some x → ⊥) → ⊥
none-at p y xs x true i h e more = absurd (cc)
none-at p y xs x false i h e more = more h e

none-there : (p : SessionRow → Bool) (xs : List SessionRow) (x : SessionRow) → list_any p xs ≡ false → find p xs ≡ Some x → ⊥
none-there p [] x h e = absurd (cc)
none-there p (y ∷ xs) x h e = none-at p y xs x (p y) refl h e (none-there p xs x)

no-lists : (name : List ℕ) (rows : List RoundRow) → Each (λ r. is_round_of name r ≡ false) rows → lists_of name rows ≡ []
no-lists name [] h = refl
no-lists name (r ∷ rows) h = ap (λ b. map list_of (cond b (r ∷ filter (is_round_of name) rows) (filter (is_round_of name) rows))) h.0 ∙ no-lists name rows h.1

same-find : (name : List ℕ) (sessions : List SessionRow) (r : RoundRow) (docs : List Doc) (seen : List RoundRow) → list_any (is_session_row name) sessions ≡ false → FitsRound docs sessions seen r → (b : Bool) → is_round_of name r ≡ b → is_round_of name r ≡ false
same-find name sessions r docs seen new h true e =
    let same : name ≡ r.session = same-name name r.session e in
    absurd (none-there (is_session_row r.session) sessions h.session (subst (λ n. list_any (is_session_row n) sessions ≡ false) same new) h.there)
same-find name sessions r docs seen new h false e = e

unnamed : (docs : List Doc) (sessions : List SessionRow) (rows : List RoundRow) (name : List ℕ) → list_any (is_session_row name) sessions ≡ false → EachPoint (FitsRound docs sessions) rows → lists_of name rows ≡ []
unnamed docs sessions rows name new h = no-lists name rows (EachPoint-each (λ r. is_round_of name r ≡ false) rows
    (EachPoint-weaker (FitsRound docs sessions) (λ seen r. is_round_of name r ≡ false) (λ seen r f. same-find name sessions r docs seen new f (is_round_of name r) refl) rows h))

add-session : (rows : Rows) (o : OneThread) → Stands rows o → (caller : ℕ) (name : List ℕ) (limit : ℕ) (head : Head) → is_name name ≡ true → length head.text ≤ GRAMMAR_BYTES → nat_lt limit 1 ≡ false → nat_lt SESSION_ROUNDS limit ≡ false → has_session o name ≡ false → nat_le SESSIONS (length o.sessions) ≡ false
    → Stands (record rows { sessions = rows.sessions ++ record { name = name; kind = head.kind; text = head.text; documents = length o.docs; limit = limit } ∷ [] })
    (record o { sessions = o.sessions ++ record { name = name; kind = head.kind; text = head.text; documents = length o.docs; limit = limit; rounds = []; holder = Some caller } ∷ [] })
add-session rows o s caller name limit head proper short low high new room =
    let row : SessionRow = record { name = name; kind = head.kind; text = head.text; documents = length o.docs; limit = limit } in
    let added : SessionState = record { name = name; kind = head.kind; text = head.text; documents = length o.docs; limit = limit; rounds = []; holder = Some caller } in
    let unknown : list_any (is_session_row name) rows.sessions ≡ false = names-are rows o s name ∙ new in
    let bare : lists_of name rows.rounds ≡ [] = unnamed (docs_of rows.docs) rows.sessions rows.rounds name unknown s.formed.rounds in
    let one : session_in rows.rounds row ≡ let_go added = ap (λ l. record (let_go added) { rounds = l }) bare in
    let docs = docs-are rows o s in
    let l : length (docs_of rows.docs) ≡ length o.docs = ap length docs in
    let k : length rows.sessions ≡ length o.sessions = sym (len-map (session_in rows.rounds) rows.sessions) ∙ ap length (sessions-are rows o s) ∙ len-map let_go o.sessions in
    record {
      load_is = object-made _ _ _ _ docs (map-append (session_in rows.rounds) rows.sessions (row ∷ []) ∙ ap₂ (λ (x y : List SessionState). x ++ y) (sessions-are rows o s) (ap (λ (x : SessionState). x ∷ []) one) ∙ sym (map-append let_go o.sessions (added ∷ [])));
      formed = record {
        docs = s.formed.docs;
        sessions = EachPoint-snoc (FitsSession (docs_of rows.docs)) rows.sessions row s.formed.sessions (record {
          name = proper;
          new = unknown;
          documents = omega (arith, l);
          some = ltb-false limit 1 low;
          limit = ltb-false SESSION_ROUNDS limit high;
          text = short;
          few = let h = leb-false SESSIONS (length o.sessions) room in omega (arith, k, h);
        });
        rounds = EachPoint-weaker (FitsRound (docs_of rows.docs) rows.sessions) (FitsRound (docs_of rows.docs) (rows.sessions ++ row ∷ [])) (round-named (docs_of rows.docs) rows.sessions row) rows.rounds s.formed.rounds;
      };
    }

-- ## One round more

some_same : {X : Type 0} (x y : X) → Some x ≡ Some y → x ≡ y
some_same x y e = cc

record IsRow (rows : Rows) (name : List ℕ) (s : SessionState) : Type 0 where
  row : SessionRow
  found : find (is_session_row name) rows.sessions ≡ Some row
  is : session_in rows.rounds row ≡ let_go s

row-found : (rows : Rows) (name : List ℕ) (s : SessionState) (found : Option SessionRow) → find (is_session_row name) rows.sessions ≡ found → option_map (session_in rows.rounds) found ≡ Some (let_go s) → IsRow rows name s
row-found rows name s None e h = absurd (cc)
row-found rows name s (Some row) e h = record { row = row; found = e; is = some_same (session_in rows.rounds row) (let_go s) h }

row-of : (rows : Rows) (o : OneThread) → Stands rows o → (name : List ℕ) (s : SessionState) → session_of name o.sessions ≡ Some s → IsRow rows name s
row-of rows o h name s e = row-found rows name s (find (is_session_row name) rows.sessions) refl
    (sym (session-in name rows.rounds rows.sessions) ∙ ap (session_of name) (sessions-are rows o h) ∙ session-released name o.sessions ∙ ap (option_map let_go) e)

-- a session has at most its limit of round rows
counted : (docs : List Doc) (sessions : List SessionRow) (name : List ℕ) (row : SessionRow) → find (is_session_row name) sessions ≡ Some row → (seen : List RoundRow) (x : RoundRow) → FitsRound docs sessions seen x
    → length (filter (is_round_of name) seen) ≤ row.limit → (b : Bool) → is_round_of name x ≡ b → length (filter (is_round_of name) seen ++ cond b (x ∷ []) []) ≤ row.limit
counted docs sessions name row at seen x f few true e =
    let same : name ≡ x.session = same-name name x.session e in
    let found : Some f.session ≡ Some row = sym f.there ∙ sym (ap (λ n. find (is_session_row n) sessions) same) ∙ at in
    let is : f.session ≡ row = some_same f.session row found in
    let limit : f.session.limit ≡ row.limit = ap (λ (r : SessionRow). r.limit) is in
    let number : x.round ≡ length (filter (is_round_of name) seen) + 1 = f.number ∙ ap (λ n. length (filter (is_round_of n) seen) + 1) (sym same) in
    let below = f.limit in
    omega (arith, below, number, limit, length-append (filter (is_round_of name) seen) (x ∷ []))
counted docs sessions name row at seen x f few false e = rw (append-nil (filter (is_round_of name) seen)) few

few-from : (docs : List Doc) (sessions : List SessionRow) (name : List ℕ) (row : SessionRow) → find (is_session_row name) sessions ≡ Some row → (seen xs : List RoundRow) → Each (λ p. FitsRound docs sessions p.0 p.1) (points_after seen xs)
    → length (filter (is_round_of name) seen) ≤ row.limit → length (filter (is_round_of name) (seen ++ xs)) ≤ row.limit
few-from docs sessions name row at seen [] h few = rw (append-nil seen) few
few-from docs sessions name row at seen (x ∷ xs) h few =
    let next : length (filter (is_round_of name) (seen ++ x ∷ [])) ≤ row.limit = rw (filtered (is_round_of name) seen x (is_round_of name x) refl) (counted docs sessions name row at seen x h.0 few (is_round_of name x) refl) in
    rw (append_assoc seen (x ∷ []) xs) at (few-from docs sessions name row at (seen ++ x ∷ []) xs h.1 next)

-- the lists of a session are at most its limit
pub rounds-few : (docs : List Doc) (sessions : List SessionRow) (name : List ℕ) (row : SessionRow) → find (is_session_row name) sessions ≡ Some row → (rows : List RoundRow) → EachPoint (FitsRound docs sessions) rows → length (filter (is_round_of name) rows) ≤ row.limit
rounds-few docs sessions name row at rows h = few-from docs sessions name row at [] rows h (omega arith)

add-round : (rows : Rows) (o : OneThread) → Stands rows o → (name : List ℕ) (s : SessionState) (new : List Mention) → session_of name o.sessions ≡ Some s → phase_with s s.rounds ≡ stage.Going → round_at o.docs s ≡ Found new
    → list_read (list_bytes new) ≡ Ok new
    → Stands (record rows { rounds = rows.rounds ++ record { session = name; round = length s.rounds + 1; body = list_bytes new } ∷ [] }) (record o { sessions = change name (stepped o.docs) o.sessions })
add-round rows o h name s new at going finds back =
    let row : RoundRow = record { session = name; round = length s.rounds + 1; body = list_bytes new } in
    let only = session-unique name o.sessions s (distinct rows o h) at in
    let r = row-of rows o h name s at in
    let docs = docs-are rows o h in
    let named : s.name ≡ name = same-name s.name name (find-passes (is_named name) s o.sessions at) in
    let says = round-found (take s.documents o.docs) (grammar_at s) (length s.rounds + 1) (joined s.rounds) new finds in
    let same : change name (stepped o.docs) o.sessions ≡ change name (with_list new) o.sessions = change-same name (stepped o.docs) (with_list new) o.sessions
    (Each-weaker (λ t. is_named name t ≡ true → t ≡ s) (λ t. is_named name t ≡ true → stepped o.docs t ≡ with_list new t) (λ t is yes. let e : t ≡ s = is yes in rw e (ap (λ f. with_list (found_of f) s) finds)) o.sessions only) in
    let grown : map (session_in (rows.rounds ++ row ∷ [])) rows.sessions ≡ map let_go (change name (with_list new) o.sessions)
    = sessions-snoc rows.rounds row new rows.sessions back ∙ ap (change name (with_list new)) (sessions-are rows o h) ∙ sym (go-change name new o.sessions) in
    let row_name : r.row.name ≡ s.name = ap (λ (x : SessionState). x.name) r.is in
    let row_limit : r.row.limit ≡ s.limit = ap (λ (x : SessionState). x.limit) r.is in
    let row_documents : r.row.documents ≡ s.documents = ap (λ (x : SessionState). x.documents) r.is in
    let row_lists : lists_of r.row.name rows.rounds ≡ s.rounds = ap (λ (x : SessionState). x.rounds) r.is in
    let count : length (filter (is_round_of name) rows.rounds) ≡ length s.rounds
    = sym (len-map list_of (filter (is_round_of name) rows.rounds)) ∙ ap (λ n. length (lists_of n rows.rounds)) (sym (row_name ∙ named)) ∙ ap length row_lists in
    record {
      load_is = object-made _ _ _ _ docs (grown ∙ ap (map let_go) (sym same));
      formed = record {
        docs = h.formed.docs;
        sessions = h.formed.sessions;
        rounds = EachPoint-snoc (FitsRound (docs_of rows.docs) rows.sessions) rows.rounds row h.formed.rounds (record {
          session = r.row;
          there = r.found;
          number = ap (λ n. n + 1) (sym count);
          limit = let below = rounds-few (docs_of rows.docs) rows.sessions name r.row r.found rows.rounds h.formed.rounds in let apart : length s.rounds ≢ s.limit = going-below (greatest_first (grammar_at s).rules) s.limit s.rounds going in omega (arith, below, count, apart, row_limit);
          mentions = new;
          reads = back;
          light = says.1;
          within = rw (docs, row_documents) says.0;
        });
      };
    }

at-rows : (docs : List DocRow) (sessions : List SessionRow) (rounds : List RoundRow) {r : Rows} {o o' : OneThread} → Stands r o → docs ≡ r.docs → sessions ≡ r.sessions → rounds ≡ r.rounds → o' ≡ o → Stands (record { docs = docs; sessions = sessions; rounds = rounds }) o'
at-rows docs sessions rounds {r = r} {o = o} h p q k e = rw e (subst (λ x. Stands x o) (sym (rows-made _ _ _ _ _ _ p q k)) h)

-- ## Each command

module _ (heads : List Head) (accepted : Each IsAccepted heads) (rows : Rows) (o : OneThread) (h : Stands rows o) (caller : ℕ) where
  -- after this reply to this command it stands as before
  abbrev Keeps : Command → Reply → Type 0
  Keeps command reply = Stands (keep_reply heads o rows command reply) (effect_of heads o caller command reply)

  same : Stands (record { docs = rows.docs ++ []; sessions = rows.sessions ++ []; rounds = rows.rounds ++ [] }) o
  same = nothing-kept rows o h

  doc-room : (name body : List ℕ) (doc : Doc) → is_name name ≡ true → document_of name body ≡ Some doc → has_doc o name ≡ false → (b : Bool) → is_full o (length body) ≡ b
      → Keeps (AddDoc name body) (if b then Refused (Full (length o.docs) (size_of o.docs)) else Added (length o.docs + 1))
  doc-room name body doc proper is new true e = same
  doc-room name body doc proper is new false e = at-rows _ _ _ (add-doc rows o h name body doc proper is new e) refl (append-nil rows.sessions) (append-nil rows.rounds) (object-made _ _ _ _ (ap (λ d. o.docs ++ doc_made d) is) refl)

  doc-new : (name body : List ℕ) (doc : Doc) → is_name name ≡ true → document_of name body ≡ Some doc → (b : Bool) → has_doc o name ≡ b
      → Keeps (AddDoc name body) (if b then Refused Duplicate else (if is_full o (length body) then Refused (Full (length o.docs) (size_of o.docs)) else Added (length o.docs + 1)))
  doc-new name body doc proper is true e = same
  doc-new name body doc proper is false e = doc-room name body doc proper is e (is_full o (length body)) refl

  keeps-doc : (name body : List ℕ) → is_name name ≡ true → (f : Option ConlluFault) → doc_fault body ≡ f → Keeps (AddDoc name body) (reply_read o name body f)
  keeps-doc name body proper (Some fault) e = same
  keeps-doc name body proper None e = let built = document_built name body e in doc-new name body built.0 proper built.1 (has_doc o name) refl

  open-room : (name grammar : List ℕ) (limit : ℕ) (head : Head) → is_name name ≡ true → head_of grammar heads ≡ Some head → length head.text ≤ GRAMMAR_BYTES → nat_lt limit 1 ≡ false → nat_lt SESSION_ROUNDS limit ≡ false → has_session o name ≡ false → (b : Bool) → nat_le SESSIONS (length o.sessions) ≡ b
      → Keeps (OpenSession name grammar limit) (if b then Refused (NoRoom (length o.sessions)) else Opened (length o.docs) limit)
  open-room name grammar limit head proper is ok low high new true e = same
  open-room name grammar limit head proper is ok low high new false e = at-rows _ _ _ (add-session rows o h caller name limit head proper ok low high new e)
      (append-nil rows.docs) (ap (λ x. rows.sessions ++ row_of_head name (length o.docs) limit x) is) (append-nil rows.rounds) (object-made _ _ _ _ refl (ap (λ x. o.sessions ++ opened name (length o.docs) limit caller x) is))

  open-new : (name grammar : List ℕ) (limit : ℕ) (head : Head) → is_name name ≡ true → head_of grammar heads ≡ Some head → length head.text ≤ GRAMMAR_BYTES → nat_lt limit 1 ≡ false → nat_lt SESSION_ROUNDS limit ≡ false → (b : Bool) → has_session o name ≡ b
      → Keeps (OpenSession name grammar limit) (if b then Refused Taken else (if nat_le SESSIONS (length o.sessions) then Refused (NoRoom (length o.sessions)) else Opened (length o.docs) limit))
  open-new name grammar limit head proper is ok low high true e = same
  open-new name grammar limit head proper is ok low high false e = open-room name grammar limit head proper is ok low high e (nat_le SESSIONS (length o.sessions)) refl

  open-limit : (name grammar : List ℕ) (limit : ℕ) (head : Head) → is_name name ≡ true → head_of grammar heads ≡ Some head → length head.text ≤ GRAMMAR_BYTES → (b : Bool) → (nat_lt limit 1 || nat_lt SESSION_ROUNDS limit) ≡ b
      → Keeps (OpenSession name grammar limit) (if b then Refused (BadLimit limit) else (if has_session o name then Refused Taken else (if nat_le SESSIONS (length o.sessions) then Refused (NoRoom (length o.sessions)) else Opened (length o.docs) limit)))
  open-limit name grammar limit head proper is ok true e = same
  open-limit name grammar limit head proper is ok false e = let parts = or_parts (nat_lt limit 1) (nat_lt SESSION_ROUNDS limit) e in open-new name grammar limit head proper is ok parts.0 parts.1 (has_session o name) refl

  short : (head : Head) → IsAccepted head → length head.text ≤ GRAMMAR_BYTES
  short head a = accepted-short head.kind head.text a.0 a.1

  keeps-open : (name grammar : List ℕ) (limit : ℕ) → is_name name ≡ true → (head : Option Head) → head_of grammar heads ≡ head → Keeps (OpenSession name grammar limit) (reply_headed o name limit head)
  keeps-open name grammar limit proper None e = same
  keeps-open name grammar limit proper (Some head) e = open-limit name grammar limit head proper e (short head (Each-find IsAccepted (λ x. bytes_eq x.name grammar) head heads accepted e)) (nat_lt limit 1 || nat_lt SESSION_ROUNDS limit) refl

  back-of : (name : List ℕ) (s : SessionState) (new : List Mention) → session_of name o.sessions ≡ Some s → round_at o.docs s ≡ Found new → ReadsBackIn o.docs (session_of name o.sessions) → list_read (list_bytes new) ≡ Ok new
  back-of name s new at finds back = subst IsReadBack finds (subst (ReadsBackIn o.docs) at back)

  step-round : (name : List ℕ) (s : SessionState) → session_of name o.sessions ≡ Some s → phase_with s s.rounds ≡ stage.Going → (r : RoundResult) → round_at o.docs s ≡ r
      → ReadsBack o (Step name) (reply_round s r) → Keeps (Step name) (reply_round s r)
  step-round name s at going (Found new) e back = at-rows _ _ _ (add-round rows o h name s new at going e (back-of name s new at e back)) (append-nil rows.docs) (append-nil rows.sessions)
      (ap (λ x. rows.rounds ++ row_of_round o.docs name (length s.rounds + 1) x) at ∙ ap (λ f. rows.rounds ++ record { session = name; round = length s.rounds + 1; body = list_bytes (found_of f) } ∷ []) e) refl
  step-round name s at going (outcome.Crowded a b c d) e back = same
  step-round name s at going (outcome.TooMany w) e back = same

  step-phase : (name : List ℕ) (s : SessionState) → session_of name o.sessions ≡ Some s → (p : Phase) → phase_with s s.rounds ≡ p → ReadsBack o (Step name) (reply_phase o s p) → Keeps (Step name) (reply_phase o s p)
  step-phase name s at stage.Going e back = step-round name s at e (round_at o.docs s) refl back
  step-phase name s at stage.Finished e back = same
  step-phase name s at stage.AtLimit e back = same

  step-owned : (name : List ℕ) (s : SessionState) (owner : ℕ) → session_of name o.sessions ≡ Some s → (b : Bool) → ReadsBack o (Step name) (reply_step o (if b then Ok s else Err (Busy owner))) → Keeps (Step name) (reply_step o (if b then Ok s else Err (Busy owner)))
  step-owned name s owner at true back = step-phase name s at (phase_with s s.rounds) refl back
  step-owned name s owner at false back = same

  step-held : (name : List ℕ) (s : SessionState) → session_of name o.sessions ≡ Some s → (holder : Option ℕ) → ReadsBack o (Step name) (reply_step o (held_as caller s holder)) → Keeps (Step name) (reply_step o (held_as caller s holder))
  step-held name s at None back = same
  step-held name s at (Some owner) back = step-owned name s owner at (eqb owner caller) back

  keeps-step : (name : List ℕ) (found : Option SessionState) → session_of name o.sessions ≡ found → ReadsBack o (Step name) (reply_step o (held_in caller found)) → Keeps (Step name) (reply_step o (held_in caller found))
  keeps-step name None e back = same
  keeps-step name (Some s) e back = step-held name s e s.holder back

  -- the holder alone changes
  hold-changed : (name : List ℕ) (f : SessionState → SessionState) → ((s : SessionState) → let_go (f s) ≡ let_go s)
      → Stands (record { docs = rows.docs ++ []; sessions = rows.sessions ++ []; rounds = rows.rounds ++ [] }) (record o { sessions = change name f o.sessions })
  hold-changed name f goes = nothing-kept rows (record o { sessions = change name f o.sessions }) (record {
    load_is = h.load_is ∙ object-made _ _ _ _ refl (sym (go-unchanged name f goes o.sessions));
    formed = h.formed;
  })

  resume-known : (name : List ℕ) (s : SessionState) (b : Bool) → Keeps (Resume name) (if b then Resumed s.documents s.limit (length s.rounds) (length (joined s.rounds)) (phase_with s s.rounds) else Refused NoGrammar)
  resume-known name s true = hold-changed name (taken_by caller) (λ t. refl)
  resume-known name s false = same

  resume-unheld : (name : List ℕ) (s : SessionState) (holder : Option ℕ) → Keeps (Resume name) (reply_unheld heads s holder)
  resume-unheld name s None = resume-known name s (is_known heads s)
  resume-unheld name s (Some owner) = same

  keeps-resume : (name : List ℕ) (found : Option SessionState) → Keeps (Resume name) (reply_resume heads found)
  keeps-resume name None = same
  keeps-resume name (Some s) = resume-unheld name s s.holder

  keeps-print : (name : List ℕ) (found : Result SessionState Refusal) → Keeps (Print name) (reply_print found)
  keeps-print name (Ok s) = same
  keeps-print name (Err refusal) = same

  keeps-release : (name : List ℕ) (found : Result SessionState Refusal) → Keeps (Release name) (reply_release found)
  keeps-release name (Ok s) = hold-changed name let_go (λ t. refl)
  keeps-release name (Err refusal) = same

  proper-open : (name grammar : List ℕ) → (is_name name && is_name grammar) ≡ true → is_name name ≡ true
  proper-open name grammar e = (and_parts (is_name name) (is_name grammar) e).0

  pub keeps : (command : Command) (reply : Reply) → IsProper command → Replies heads o caller command reply → ReadsBack o command reply → Keeps command reply
  keeps (AddDoc name body) reply proper r back = subst (λ x. Keeps (AddDoc name body) x) (sym r) (keeps-doc name body proper (doc_fault body) refl)
  keeps (OpenSession name grammar limit) reply proper r back = subst (λ x. Keeps (OpenSession name grammar limit) x) (sym r) (keeps-open name grammar limit (proper-open name grammar proper) (head_of grammar heads) refl)
  keeps (Step name) reply proper r back = subst (λ x. Keeps (Step name) x) (sym r) (keeps-step name (session_of name o.sessions) refl (subst (ReadsBack o (Step name)) r back))
  keeps (Resume name) reply proper r back = subst (λ x. Keeps (Resume name) x) (sym r) (keeps-resume name (session_of name o.sessions))
  keeps (Print name) reply proper r back = subst (λ x. Keeps (Print name) x) (sym r) (keeps-print name (held o caller name))
  keeps (Release name) reply proper r back = subst (λ x. Keeps (Release name) x) (sym r) (keeps-release name (held o caller name))
  keeps Settle reply proper r back = subst (λ x. Keeps Settle x) (sym r.1) same

-- ## What is read back

few-after : (seen xs : List DocRow) → length seen ≤ ALL_DOCUMENTS → Each (λ p. FitsDoc p.0 p.1) (points_after seen xs) → length (seen ++ xs) ≤ ALL_DOCUMENTS
few-after seen [] h k = rw (append-nil seen) h
few-after seen (x ∷ xs) h k =
    let below = k.0.few in
    let next : length (seen ++ x ∷ []) ≤ ALL_DOCUMENTS = omega (arith, below, length-append seen (x ∷ [])) in
    rw (append_assoc seen (x ∷ []) xs) at (few-after (seen ++ x ∷ []) xs next k.1)

few-docs : (rows : Rows) (o : OneThread) → Stands rows o → length o.docs ≤ NUMBER_END
few-docs rows o h =
    let few : length rows.docs ≤ ALL_DOCUMENTS = few-after [] rows.docs (omega arith) h.formed.docs in
    omega (arith, few, (all-read rows.docs h.formed.docs).long, ap length (docs-are rows o h))

module _ (heads : List Head) (good : Each IsGood heads) (rows : Rows) (o : OneThread) (h : Stands rows o) (known : Each (IsHeldKnown heads) o.sessions) (caller : ℕ) where
  back-round : (name : List ℕ) (s : SessionState) → session_of name o.sessions ≡ Some s → IsReadBack (round_at o.docs s) → (r : RoundResult) → ReadsBack o (Step name) (reply_round s r)
  back-round name s at back (Found new) = subst (ReadsBackIn o.docs) (sym at) back
  back-round name s at back (outcome.Crowded a b c d) = tt
  back-round name s at back (outcome.TooMany w) = tt

  back-phase : (name : List ℕ) (s : SessionState) → session_of name o.sessions ≡ Some s → IsReadBack (round_at o.docs s) → (p : Phase) → ReadsBack o (Step name) (reply_phase o s p)
  back-phase name s at back stage.Going = back-round name s at back (round_at o.docs s)
  back-phase name s at back stage.Finished = tt
  back-phase name s at back stage.AtLimit = tt

  back-owned : (name : List ℕ) (s : SessionState) (owner : ℕ) → session_of name o.sessions ≡ Some s → IsReadBack (round_at o.docs s) → (b : Bool) → ReadsBack o (Step name) (reply_step o (if b then Ok s else Err (Busy owner)))
  back-owned name s owner at back true = back-phase name s at back (phase_with s s.rounds)
  back-owned name s owner at back false = tt

  back-held : (name : List ℕ) (s : SessionState) → session_of name o.sessions ≡ Some s → (holder : Option ℕ) → s.holder ≡ holder → ReadsBack o (Step name) (reply_step o (held_as caller s holder))
  back-held name s at None e = tt
  back-held name s at (Some owner) e =
      back-owned name s owner at (held-back heads o.docs s owner good (few-docs rows o h) (Each-find (IsHeldKnown heads) (is_named name) s o.sessions known at) e) (eqb owner caller)

  back-step : (name : List ℕ) (found : Option SessionState) → session_of name o.sessions ≡ found → ReadsBack o (Step name) (reply_step o (held_in caller found))
  back-step name None at = tt
  back-step name (Some s) at = back-held name s at s.holder refl

  pub reads-back : (command : Command) (reply : Reply) → Replies heads o caller command reply → ReadsBack o command reply
  reads-back (AddDoc name body) reply r = tt
  reads-back (OpenSession name grammar limit) reply r = tt
  reads-back (Step name) reply r = subst (ReadsBack o (Step name)) (sym r) (back-step name (session_of name o.sessions) refl)
  reads-back (Resume name) reply r = tt
  reads-back (Print name) reply r = tt
  reads-back (Release name) reply r = tt
  reads-back Settle reply r = tt

-- ## One entry more

module _ (base : Rows) (heads : List Head) where
  pub After-start : After base heads [] ≡ base
  After-start = same-rows base

  pub After-snoc : (es : List Entry) (e : Entry) → After base heads (es ++ e ∷ []) ≡ keep heads (state_after (load base) heads es) (After base heads es) e
  After-snoc es e = rows-made _ _ _ _ _ _
      (ap (λ l. base.docs ++ l) (flat_map-append (λ (x : Entry). doc_rows x.command x.reply) es (e ∷ []) ∙ ap (λ l. flat_map (λ (x : Entry). doc_rows x.command x.reply) es ++ l) (append-nil (doc_rows e.command e.reply))) ∙ sym (append_assoc base.docs (flat_map (λ (x : Entry). doc_rows x.command x.reply) es) (doc_rows e.command e.reply)))
      (ap (λ l. base.sessions ++ l) (flat_map-append (λ (x : Entry). session_rows heads x.command x.reply) es (e ∷ []) ∙ ap (λ l. flat_map (λ (x : Entry). session_rows heads x.command x.reply) es ++ l) (append-nil (session_rows heads e.command e.reply))) ∙ sym (append_assoc base.sessions (flat_map (λ (x : Entry). session_rows heads x.command x.reply) es) (session_rows heads e.command e.reply)))
      (ap (λ l. base.rounds ++ l) (ap (flat_map (round_rows_at (load base) heads)) (points-snoc es e) ∙ flat_map-append (round_rows_at (load base) heads) (points es) ((es, e) ∷ [])
      ∙ ap (λ l. flat_map (round_rows_at (load base) heads) (points es) ++ l) (append-nil (round_rows_at (load base) heads (es, e)))) ∙ sym (append_assoc base.rounds (flat_map (round_rows_at (load base) heads) (points es)) (round_rows_at (load base) heads (es, e))))

  abbrev PutBack : List Entry → Entry → Type 0
  PutBack seen e = ReadsBack (state_after (load base) heads seen) e.command e.reply

  abbrev Both : List Entry → List Entry → Type 0
  Both seen es = Stands (After base heads (seen ++ es)) (state_after (load base) heads (seen ++ es)) × Each (λ p. PutBack p.0 p.1) (points_after seen es) × Each (IsHeldKnown heads) (state_after (load base) heads (seen ++ es)).sessions

  stands-after : Each IsGood heads → (seen es : List Entry) → Stands (After base heads seen) (state_after (load base) heads seen) → Each (IsHeldKnown heads) (state_after (load base) heads seen).sessions
      → Each (λ p. IsNext (load base) heads p.0 p.1) (points_after seen es) → Each (λ e. IsProper e.command) es → Both seen es
  stands-after good seen [] h known legal proper = (rw (append-nil seen) h, tt, rw (append-nil seen) known)
  stands-after good seen (e ∷ es) h known legal proper =
      let rows = After base heads seen in
      let o = state_after (load base) heads seen in
      let back = reads-back heads good rows o h known e.caller e.command e.reply legal.0.replies in
      let next = keeps heads (Each-weaker IsGood IsAccepted (λ x k. k.0) heads good) rows o h e.caller e.command e.reply proper.0 legal.0.replies back in
      let here : Stands (After base heads (seen ++ e ∷ [])) (state_after (load base) heads (seen ++ e ∷ [])) = rw (After-snoc seen e, state_after-snoc (load base) heads seen e) next in
      let still : Each (IsHeldKnown heads) (state_after (load base) heads (seen ++ e ∷ [])).sessions = rw (state_after-snoc (load base) heads seen e) (knows heads o e.caller (distinct rows o h) known e.command e.reply legal.0.replies) in
      let more = stands-after good (seen ++ e ∷ []) es here still legal.1 proper.1 in
      (rw (append_assoc seen (e ∷ []) es) at more.0, (back, more.1), rw (append_assoc seen (e ∷ []) es) at more.2)

go-loaded : (rows : Rows) → map let_go (map (session_in rows.rounds) rows.sessions) ≡ map (session_in rows.rounds) rows.sessions
go-loaded rows = map-map (session_in rows.rounds) let_go rows.sessions

pub stands-start : (base : Rows) → WellFormed base → Stands base (load base)
stands-start base formed = record { load_is = object-made _ _ _ _ refl (sym (go-loaded base)); formed = formed }

-- nobody holds a loaded session
loaded-unheld : (heads : List Head) (rounds : List RoundRow) (rows : List SessionRow) → Each (IsHeldKnown heads) (map (session_in rounds) rows)
loaded-unheld heads rounds [] = tt
loaded-unheld heads rounds (row ∷ rows) = ((λ caller e. absurd (cc)), loaded-unheld heads rounds rows)

good-heads : (base : Rows) (heads : List Head) (es : List Entry) → GoesOnFrom base heads es → Each IsGood heads
good-heads base heads es g = Each-both IsAccepted (λ (h : Head). IsUtf8 h.text) IsGood (λ h a u. (a, u)) heads g.accepted g.utf8

both : (base : Rows) (heads : List Head) (es : List Entry) → WellFormed base → GoesOnFrom base heads es → Both base heads [] es
both base heads es formed g =
    let start : Stands (After base heads []) (state_after (load base) heads []) = rw (After-start base heads, state_after-start (load base) heads) (stands-start base formed) in
    let unheld : Each (IsHeldKnown heads) (state_after (load base) heads []).sessions = rw (state_after-start (load base) heads) (loaded-unheld heads base.rounds base.sessions) in
    stands-after base heads (good-heads base heads es g) [] es start unheld g.legal g.proper

pub stands : (base : Rows) (heads : List Head) (es : List Entry) → WellFormed base → GoesOnFrom base heads es → Stands (After base heads es) (state_after (load base) heads es)
stands base heads es formed g = (both base heads es formed g).0

pub rounds-read_back : LegalRoundsReadBack
rounds-read_back base heads es formed g = (both base heads es formed g).1

pub found-writable : FoundIsWritable
found-writable base heads es name s owner new formed g at held e =
    let known = (both base heads es formed g).2 in
    let o = state_after (load base) heads es in
    held-writable heads o.docs s owner new (good-heads base heads es g) (Each-find (IsHeldKnown heads) (is_named name) s o.sessions known at) held e

-- ## The laws

pub formed-stays : FormedStaysFormed
formed-stays base heads es formed g = let h = stands base heads es formed g in h.formed

pub loads-what_was_reached : LoadsWhatWasReached
loads-what_was_reached base heads es formed g = let h = stands base heads es formed g in h.load_is

released-sound : (o : OneThread) → IsSound o → IsSound (released o)
released-sound o h = record {
  distinct = Distinct-kept let_go (λ s. refl) o.sessions h.distinct;
  sound = Each-map (IsSoundSession o.docs) let_go o.sessions (Each-weaker (IsSoundSession o.docs) (λ s. IsSoundSession o.docs (let_go s))
      (λ s k. record { grammar = k.grammar; reads = k.reads; within = k.within; few = k.few; hundred = k.hundred; rounds_are = k.rounds_are; unfinished = k.unfinished }) o.sessions h.sound);
}

pub sound-stays : SoundStaysSound
sound-stays base heads es sound g = record {
  formed = formed-stays base heads es sound.formed g;
  sound = rw (loads-what_was_reached base heads es sound.formed g) (released-sound (state_after (load base) heads es) (sound-after (load base) heads g.accepted es sound.sound g.legal));
}

pub no-rows_are_sound : NoRowsAreSound
no-rows_are_sound = record { formed = record { docs = tt; sessions = tt; rounds = tt }; sound = record { distinct = tt; sound = tt } }
