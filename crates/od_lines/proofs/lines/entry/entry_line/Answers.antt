use Rattle.std.proofs.Common.{[], ◌∷◌, ◌++◌, ap, sym, ◌∙◌}
use Rattle.serde_json.specs.Data.{object, no_members}
use Rattle.serde_json.specs.View.{members_view}
use Rattle.serde_json.specs.Written.{has_float, compact_text}
use Rattle.serde_json.proofs.Views.{view-Object}
use Rattle.od_line.specs.Data.{with_members}
use Rattle.od_line.specs.Entries.{entry_members, reply_members, own_line}
use Rattle.od_lines.proofs.LineFloats.{with_members-append, entry_plain}
use Rattle.od_lines.proofs.lines.entry.entry_line.Goals as goal

pub returns : goal.returns
unfolding own_line
returns c =
    let e = c.args.entry.now in
    let first = c.in_ok-put_entry.ensures ∙ ap (λ es. with_members (entry_members e) (members_view es)) c.new-members.ensures.empty in
    let both = c.in_ok-put_reply.ensures ∙ ap (with_members (reply_members e.reply)) first ∙ sym (with_members-append (entry_members e) (reply_members e.reply) no_members) in
    let whole = view-Object c.put_reply.new.members ∙ ap object both in
    c.from_vec.ensures ∙ c.in_ok-push.ensures.items ∙ ap (λ bytes. bytes ++ 10 ∷ []) (c.in_ok-line.ensures.text (ap has_float whole ∙ entry_plain e) ∙ ap compact_text whole)
