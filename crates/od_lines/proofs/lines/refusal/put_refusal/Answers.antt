use Rattle.std.proofs.Common.{codes, ap, ◌∙◌}
use Rattle.std.proofs.lemmas.Result.{on_ok_weaker}
use Rattle.serde_json.specs.Data.{put}
use Rattle.od_line.specs.Data.{count}
use Rattle.od_lines.proofs.lines.refusal.put_refusal.Goals as goal

pub returns-in_ok-put_count-in-Crowded-3 : goal.returns-in_ok-put_count-in-Crowded-3
returns-in_ok-put_count-in-Crowded-3 c =
    let w = c.in-Crowded in
    rw w.is (on_ok_weaker c.put_total-in-Crowded.result (λ e. e ∙ ap (put (codes "count") (count w.count))
    (c.in_ok-put_count-in-Crowded-3.ensures ∙ ap (put (codes "sentence") (count w.sentence))
    (c.in_ok-put_count-in-Crowded-2.ensures ∙ ap (put (codes "document") (count w.document)) c.in_ok-put_count-in-Crowded.ensures))) c.put_total-in-Crowded.ensures)
