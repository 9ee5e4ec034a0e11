use Rattle.std.proofs.Common.{length, map, ap, ◌∙◌, arith, refl}
use Rattle.od_document.specs.Lines.{without_mark}
use Rattle.od_document.specs.Reading.{shown}
use Rattle.od_document.specs.Size.{size_in_parts}
use Rattle.od_document.proofs.Existence.{Reads-document_of}
use Rattle.od_document.proofs.Size.{size_short, mark_short}
use Rattle.od_conllu.proofs.reader.read_doc.Goals as goal

pub invariant_of-result : goal.invariant_of-result
invariant_of-result c = record {
  some = omega (arith, c.in_ok-sentences.ensures.ok.some, ap length c.from_vec.ensures);
  small = c.in_ok-sentences.ensures.ok.small;
  parts = omega (arith, ap size_in_parts c.from_vec.ensures, size_short (without_mark c.args.bytes.now) c.in_ok-sentences.sentences.items c.in_ok-sentences.ensures.ok.sentences_are, mark_short c.args.bytes.now);
}

pub returns-clause-document : goal.returns-clause-document
returns-clause-document c =
    Reads-document_of c.args.name.now c.args.bytes.now _ (record {
      faultless = c.in_ok-sentences.ensures.ok.faultless;
      name_is = c.in_ok-name.ensures;
      size_is = refl;
      sentences_are = ap (map shown) c.from_vec.ensures ∙ c.in_ok-sentences.ensures.ok.sentences_are;
    })
