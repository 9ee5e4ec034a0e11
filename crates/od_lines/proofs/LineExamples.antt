-- Lines that were worked out by hand.
use Rattle.std.proofs.Common.{◌≡◌, ℕ, List, [], ◌∷◌, Some, None, codes, refl, lit<, lit≤}
use Rattle.std.proofs.lemmas.List.Elements.{All-nil}
use Rattle.std.specs.Fmt.{digits}
use Rattle.serde_json.proofs.OnLiterals.{serde_json_on_literals}
use Rattle.od_document.specs.declared.conllu.ConlluKind.TheVariants.{HeadRange}
use Rattle.od_extraction.specs.declared.phase.Phase.TheVariants.{Going, Finished}
use Rattle.od_command.specs.declared.history.Command.{Command}
use Rattle.od_command.specs.declared.history.Command.TheVariants.{AddDoc, OpenSession, Step, Print, Settle}
use Rattle.od_command.specs.declared.history.Reply.{Reply}
use Rattle.od_command.specs.declared.history.Reply.TheVariants.{Added, Opened, Stepped, Printed, Settled, Refused}
use Rattle.od_command.specs.declared.history.Refusal.TheVariants.{BadDoc, Busy, Crowded}
use Rattle.od_command.specs.declared.history.Entry.{Entry}
use Rattle.od_document.specs.declared.token.Token.{Token}
use Rattle.od_document.specs.declared.sentence.Sentence.{Sentence}
use Rattle.od_document.specs.declared.doc.Doc.{Doc}
use Rattle.od_line.specs.Entries.{own_line}
use Rattle.od_line.specs.Mentions.{mention_line}

-- the entry of caller 1
abbrev entry : ℕ → Command → Reply → Entry
entry call command reply = record { caller = 1; call = call; command = command; reply = reply }

added : own_line (entry 1 (AddDoc (codes "d1") []) (Added 1)) ≡ codes "{\"call\":1,\"caller\":1,\"command\":\"doc\",\"documents\":1,\"name\":\"d1\",\"reply\":\"ok\"}\n"
unfolding own_line serde_json_on_literals digits
added = refl

opened : own_line (entry 2 (OpenSession (codes "s") [] 5) (Opened 1 5)) ≡ codes "{\"call\":2,\"caller\":1,\"command\":\"open\",\"documents\":1,\"limit\":5,\"name\":\"s\",\"reply\":\"ok\"}\n"
unfolding own_line serde_json_on_literals digits
opened = refl

stepped : own_line (entry 3 (Step (codes "s")) (Stepped 1 1 Going)) ≡ codes "{\"added\":1,\"call\":3,\"caller\":1,\"command\":\"step\",\"name\":\"s\",\"reply\":\"ok\",\"round\":1,\"state\":\"going\"}\n"
unfolding own_line serde_json_on_literals digits
stepped = refl

printed : own_line (entry 5 (Print (codes "s")) (Printed 2 1 Finished)) ≡ codes "{\"call\":5,\"caller\":1,\"command\":\"print\",\"mentions\":1,\"name\":\"s\",\"reply\":\"ok\",\"round\":2,\"state\":\"finished\"}\n"
unfolding own_line serde_json_on_literals digits
printed = refl

bad_document : own_line (entry 1 (AddDoc (codes "d1") []) (Refused (BadDoc 3 HeadRange))) ≡ codes "{\"call\":1,\"caller\":1,\"command\":\"doc\",\"kind\":\"HeadRange\",\"line\":3,\"name\":\"d1\",\"reply\":\"BadDoc\"}\n"
unfolding own_line serde_json_on_literals digits
bad_document = refl

busy : own_line (entry 12 (Step (codes "s\"")) (Refused (Busy 2))) ≡ codes "{\"call\":12,\"caller\":1,\"command\":\"step\",\"name\":\"s\\\"\",\"owner\":2,\"reply\":\"Busy\"}\n"
unfolding own_line serde_json_on_literals digits
busy = refl

crowded : own_line (entry 3 (Step (codes "s")) (Refused (Crowded 1 2 3 4))) ≡ codes "{\"call\":3,\"caller\":1,\"command\":\"step\",\"count\":4,\"document\":2,\"name\":\"s\",\"reply\":\"Crowded\",\"rule\":1,\"sentence\":3}\n"
unfolding own_line serde_json_on_literals digits
crowded = refl

settled : own_line (entry 6 Settle (Settled (2 ∷ 1 ∷ []))) ≡ codes "{\"call\":6,\"caller\":1,\"command\":\"settle\",\"reply\":\"ok\",\"sizes\":[2,1]}\n"
unfolding own_line serde_json_on_literals digits
settled = refl

-- a token of this word
abbrev token : List ℕ → Token
token word = record { word = word; norm = word; lemma = None; upos = None; tag = None; entity = None; chunk = None }

-- the sentence of the examples
abbrev sentence : Sentence
sentence = record { tokens = token (codes "The") ∷ token (codes "Dogs") ∷ token (codes "bark") ∷ []; edges = []; some = lit< tt; few = lit≤ tt; few_edges = lit≤ tt; ends = All-nil _; distinct = refl }

-- its document
abbrev document : Doc
document = record { name = codes "d1"; size = 75; sentences = sentence ∷ []; some = lit< tt; small = lit≤ tt; parts = lit≤ tt }

dogs_bark : mention_line (codes "s") (document ∷ []) (record { document = 0; sentence = 0; start = 1; end = 3; label = codes "Query"; rule = codes "query"; parts = [] })
    ≡ codes "{\"arguments\":[],\"document\":\"d1\",\"end\":3,\"label\":\"Query\",\"rule\":\"query\",\"sentence\":0,\"session\":\"s\",\"start\":1,\"text\":\"Dogs bark\"}\n"
unfolding mention_line serde_json_on_literals digits
dogs_bark = refl

barking : mention_line (codes "s") (document ∷ []) (record {
  document = 0;
  sentence = 0;
  start = 2;
  end = 3;
  label = codes "Bark";
  rule = codes "bark";
  parts = record { name = codes "who"; label = None; start = 1; end = 2 } ∷ record { name = codes "what"; label = Some (codes "Sound"); start = 2; end = 2 } ∷ [];
})
    ≡ codes "{\"arguments\":[{\"end\":2,\"label\":null,\"name\":\"who\",\"start\":1,\"text\":\"Dogs\"},{\"end\":2,\"label\":\"Sound\",\"name\":\"what\",\"start\":2,\"text\":\"\"}],\"document\":\"d1\",\"end\":3,\"label\":\"Bark\",\"rule\":\"bark\",\"sentence\":0,\"session\":\"s\",\"start\":2,\"text\":\"bark\"}\n"
unfolding mention_line serde_json_on_literals digits
barking = refl
