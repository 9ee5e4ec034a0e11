use Rattle.std.proofs.Common.{◌∙◌, ap, true, cond, bytes_eq, string_bytes}
use Rattle.std.specs.HashSet.{contains_text}
use Rattle.std.proofs.lemmas.Map.Text.{hash_set_updates_text}
use Rattle.od_surface.proofs.Named.{knows_more}
use Rattle.od_surface.proofs.again.seen_before.Goals as goal

pub returns : goal.returns
returns c = λ before k. (
  c.contains-seen.ensures ∙ ap (contains_text c.args.names.now) c.get.ensures ∙ k c.args.name.now,
  knows_more c.args.names.now c.insert.new.self c.args.name.now
      (λ q. hash_set_updates_text (string_bytes c.in-Ok.key) c.args.names.now c.insert.new.self true c.in-Ok-insert.ensures.updates q
      ∙ ap (λ bs. cond (bytes_eq bs q) true (contains_text c.args.names.now q)) (c.in-Ok.ensures.ok ∙ c.get-2.ensures))
      before k,
)
