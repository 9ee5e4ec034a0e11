-- The histories of marks that go on.
use Rattle.std.proofs.Common.{[], ◌∷◌, ◌++◌, refl, sym, ap, ◌∙◌, append_assoc}
use Rattle.od_mark.specs.Marks.{entry_list, entries_of}
use Rattle.od_mark.specs.Laws.{HistoriesJoin}

pub join_histories : HistoriesJoin
join_histories [] second = refl
join_histories (mark ∷ first) second =
    ap (λ entries. entry_list mark.entry ++ entries) (join_histories first second) ∙ sym (append_assoc (entry_list mark.entry) (entries_of first) (entries_of second))
