-- What borrowed texts show.
use Rattle.std.specs.Prelude.{ℕ, List}
use Rattle.std.specs.Borrow.{Bor}
use Rattle.od_document.specs.Columns as columns
use Rattle.od_conllu.specs.declared.line_columns.LineColumns.{LineColumns}

-- the bytes of a borrowed text
abbrev pub text_seen : Bor (List ℕ) → List ℕ
text_seen text = text.now

-- the columns of a line, as the definitions see them
abbrev pub columns_seen : LineColumns → columns.LineColumns
columns_seen line = record {
  id = line.id.now;
  form = line.form.now;
  lemma = line.lemma.now;
  upos = line.upos.now;
  xpos = line.xpos.now;
  head = line.head.now;
  deprel = line.deprel.now;
  misc = line.misc.now;
}
