-- The row that each reply keeps.
use Rattle.std.proofs.Common.{◌≡◌, List, ◌++◌, refl, ap, append-nil}
use Rattle.od_row.specs.declared.rows.DocRow.{DocRow}
use Rattle.od_row.specs.declared.rows.SessionRow.{SessionRow}
use Rattle.od_row.specs.declared.rows.RoundRow.{RoundRow}
use Rattle.od_row.specs.declared.rows.Rows.{Rows}
use Rattle.od_rows.specs.After.{row_of_head, row_of_round}
use Rattle.od_rows.specs.Laws.{RowsOfReplies}

rows-same : (a a' : List DocRow) (b b' : List SessionRow) (c c' : List RoundRow) → a ≡ a' → b ≡ b' → c ≡ c' → ◌≡◌ {A = Rows} (record { docs = a; sessions = b; rounds = c }) (record { docs = a'; sessions = b'; rounds = c' })
rows-same a a' b b' c c' p q r = rw (p, q, r) refl

pub rows-of_replies : RowsOfReplies
rows-of_replies = record {
  doc = λ heads o rows name body documents. rows-same _ _ _ _ _ _ refl (append-nil rows.sessions) (append-nil rows.rounds);
  session = λ heads o rows name grammar limit documents shown head is.
      rows-same _ _ _ _ _ _ (append-nil rows.docs) (ap (λ h. rows.sessions ++ row_of_head name documents limit h) is) (append-nil rows.rounds);
  round = λ heads o rows name number added phase s is.
      rows-same _ _ _ _ _ _ (append-nil rows.docs) (append-nil rows.sessions) (ap (λ t. rows.rounds ++ row_of_round o.docs name number t) is);
}
