-- Sessions that a legal history leads to can be put together again.
use Rattle.std.proofs.Common.{◌≡◌, suc, ◌≤◌, List, [], ◌∷◌, ◌++◌, length, map, filter, find, Option, Some, None, Bool, true, false, cond, ◌||◌, refl, sym, ap, ◌∙◌, subst, append_assoc, arith}
use Rattle.std.specs.List.{list_any}
use Rattle.std.specs.Option.{option_or}
use Rattle.std.proofs.lemmas.List.Folds.{find-append}
use Rattle.std.proofs.lemmas.Slice.Eq.{bytes_eq-Decides}
use Rattle.od_document.specs.declared.doc.Doc.{Doc}
use Rattle.od_extraction.specs.Weight.{weight, most_weight}
use Rattle.od_row.specs.declared.rows.SessionRow.{SessionRow}
use Rattle.od_row.specs.declared.rows.RoundRow.{RoundRow}
use Rattle.od_row.specs.declared.rows.Rows.{Rows}
use Rattle.od_session.specs.declared.object.OneThread.{OneThread}
use Rattle.od_session.specs.declared.object.TheConstants.{SESSION_ROUNDS}
use Rattle.od_text.specs.Lists.{Each, EachPoint, points_after}
use Rattle.od_text.proofs.Lists.{Each-map, Each-from_map, Each-filter, Each-weaker, EachPoint-each, EachPoint-weaker}
use Rattle.od_model.specs.Object.Effects.{let_go}
use Rattle.od_model.specs.History.Legal.{state_after}
use Rattle.od_rows.specs.Formed.{is_session_row, FitsSession, FitsRound}
use Rattle.od_rows.specs.Laws.{CanResume, SessionsCanResume}
use Rattle.od_rows.specs.Loaded.{docs_of, is_round_of, list_of, read_mentions, session_in, load}
use Rattle.od_rows.specs.After.{After}
use Rattle.od_rows.proofs.Rows.Keeping.{Stands, stands, rounds-few, docs-are, sessions-are}

-- ## A row is found by its name

none-by : (p : SessionRow → Bool) (x : SessionRow) (b : Bool) (o : Option SessionRow) (more : Bool) → (b || more) ≡ false → (more ≡ false → o ≡ None) → cond b (Some x) o ≡ None
none-by p x true o more e go = absurd (cc)
none-by p x false o more e go = go e

none-found : (p : SessionRow → Bool) (xs : List SessionRow) → list_any p xs ≡ false → find p xs ≡ None
none-found p [] e = refl
none-found p (x ∷ xs) e = none-by p x (p x) (find p xs) (list_any p xs) e (none-found p xs)

found-after : (docs : List Doc) (seen xs : List SessionRow) → Each (λ p. FitsSession docs p.0 p.1) (points_after seen xs) → Each (λ r. find (is_session_row r.name) (seen ++ xs) ≡ Some r) xs
found-after docs seen [] h = tt
found-after docs seen (x ∷ xs) h = (
  find-append (is_session_row x.name) seen (x ∷ xs)
      ∙ ap (λ o. option_or o (find (is_session_row x.name) (x ∷ xs))) (none-found (is_session_row x.name) seen h.0.new)
      ∙ ap (λ b. cond b (Some x) (find (is_session_row x.name) xs)) ((bytes_eq-Decides x.name x.name).1 refl),
  subst (λ all. Each (λ r. find (is_session_row r.name) all ≡ Some r) xs) (append_assoc seen (x ∷ []) xs) (found-after docs (seen ++ x ∷ []) xs h.1),
)

-- ## One session

len-map : {X Y : Type 0} (f : X → Y) (xs : List X) → length (map f xs) ≡ length xs
len-map f [] = refl
len-map f (x ∷ xs) = ap (λ n. suc n) (len-map f xs)

light-row : (docs : List Doc) (sessions : List SessionRow) (seen : List RoundRow) (row : RoundRow) → FitsRound docs sessions seen row → weight (list_of row) ≤ most_weight
light-row docs sessions seen row f = subst (λ l. weight l ≤ most_weight) (sym (ap read_mentions f.reads)) f.light

-- what a row says by itself
record FitsRow (docs : List Doc) (row : SessionRow) : Type 0 where
  documents : row.documents ≤ length docs
  limit : row.limit ≤ SESSION_ROUNDS

module _ (docs : List Doc) (sessions : List SessionRow) (rounds : List RoundRow) (fit : EachPoint (FitsRound docs sessions) rounds) where
  one : (row : SessionRow) → find (is_session_row row.name) sessions ≡ Some row → FitsRow docs row → CanResume docs (session_in rounds row)
  one row at f = record {
    documents = f.documents;
    few = let h = rounds-few docs sessions row.name row at rounds fit in omega (arith, h, len-map list_of (filter (is_round_of row.name) rounds));
    limit = f.limit;
    light = Each-map (λ l. weight l ≤ most_weight) list_of (filter (is_round_of row.name) rounds)
        (Each-filter (λ r. weight (list_of r) ≤ most_weight) (is_round_of row.name) rounds
        (EachPoint-each (λ r. weight (list_of r) ≤ most_weight) rounds (EachPoint-weaker (FitsRound docs sessions) (λ seen r. weight (list_of r) ≤ most_weight) (light-row docs sessions) rounds fit)));
  }

  all : (rows : List SessionRow) → Each (λ r. find (is_session_row r.name) sessions ≡ Some r) rows → Each (FitsRow docs) rows → Each (λ r. CanResume docs (session_in rounds r)) rows
  all [] h k = tt
  all (row ∷ rows) h k = (one row h.0 k.0, all rows h.1 k.1)

-- ## The object

of-rows : (rows : Rows) (o : OneThread) → Stands rows o → Each (CanResume o.docs) o.sessions
of-rows rows o h =
    let docs = docs_of rows.docs in
    let fits = EachPoint-each (FitsRow docs) rows.sessions (EachPoint-weaker (FitsSession docs) (λ seen r. FitsRow docs r) (λ seen r f. record { documents = f.documents; limit = f.limit }) rows.sessions h.formed.sessions) in
    let each = all docs rows.sessions rows.rounds h.formed.rounds rows.sessions (found-after docs [] rows.sessions h.formed.sessions) fits in
    let loaded = subst (Each (CanResume docs)) (sessions-are rows o h) (Each-map (CanResume docs) (session_in rows.rounds) rows.sessions each) in
    subst (λ d. Each (CanResume d) o.sessions) (docs-are rows o h)
    (Each-weaker (λ s. CanResume docs (let_go s)) (CanResume docs) (λ s k. record { documents = k.documents; few = k.few; limit = k.limit; light = k.light }) o.sessions (Each-from_map (CanResume docs) let_go o.sessions loaded))

pub sessions-can_resume : SessionsCanResume
sessions-can_resume base heads es formed g = of-rows (After base heads es) (state_after (load base) heads es) (stands base heads es formed g)
