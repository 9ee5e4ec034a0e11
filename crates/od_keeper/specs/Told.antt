-- What a keeper tells is one list of rows.
use Rattle.std.proofs.Common.{◌≡◌, sym, ◌∙◌}
use Rattle.od_row.specs.declared.rows.Rows.{Rows}

pub one_list : (rows one other : Rows) → rows ≡ one → rows ≡ other → one ≡ other
one_list rows one other told also = sym told ∙ also
