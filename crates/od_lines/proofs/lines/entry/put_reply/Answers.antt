use Rattle.std.proofs.Common.{codes, ap, ◌∙◌}
use Rattle.std.proofs.lemmas.Result.{on_ok_weaker}
use Rattle.serde_json.specs.Data.{put}
use Rattle.serde_json.specs.View.{members_view}
use Rattle.od_line.specs.Data.{count, word}
use Rattle.od_line.specs.Names.{state_text}
use Rattle.od_lines.proofs.lines.entry.put_reply.Goals as goal

pub returns-in_ok-put_count-in-Printed-2 : goal.returns-in_ok-put_count-in-Printed-2
returns-in_ok-put_count-in-Printed-2 c =
    let w = c.in-Printed in
    rw w.is (on_ok_weaker c.put_word-in-Printed.result (λ e. e
    ∙ ap (λ text. put (codes "state") (word text) (members_view c.put_count-in-Printed-2.new.members.entries)) c.state_name-in-Printed.ensures
    ∙ ap (put (codes "state") (word (state_text w.phase)))
    (c.in_ok-put_count-in-Printed-2.ensures ∙ ap (put (codes "mentions") (count w.mentions)) c.in_ok-put_count-in-Printed.ensures)) c.put_word-in-Printed.ensures)

pub returns-in_ok-put_count-in-Resumed-4 : goal.returns-in_ok-put_count-in-Resumed-4
returns-in_ok-put_count-in-Resumed-4 c =
    let w = c.in-Resumed in
    rw w.is (on_ok_weaker c.put_word-in-Resumed.result (λ e. e
    ∙ ap (λ text. put (codes "state") (word text) (members_view c.put_count-in-Resumed-4.new.members.entries)) c.state_name-in-Resumed.ensures
    ∙ ap (put (codes "state") (word (state_text w.phase)))
    (c.in_ok-put_count-in-Resumed-4.ensures ∙ ap (put (codes "mentions") (count w.mentions))
    (c.in_ok-put_count-in-Resumed-3.ensures ∙ ap (put (codes "round") (count w.round))
    (c.in_ok-put_count-in-Resumed-2.ensures ∙ ap (put (codes "limit") (count w.limit)) c.in_ok-put_count-in-Resumed.ensures)))) c.put_word-in-Resumed.ensures)
