-- A session can be sent to another thread, and threads can share it: what it is made of, type by type.
use denote.Param.Send.{IsSend, IsSync, view_send, view_sync, sendable}
use denote.Param.SendFields.{declared_send, declared_sync, variants_send, variants_sync}
use denote.Builtin.{bool, u32}
use Rattle.std.proofs.Crossing.{crosses, Arc-send, Arc-sync, Vec-send, Vec-sync}
use Rattle.od_text.proofs.list.List.TheSendSync as list
use Rattle.od_segment.proofs.view.View.TheSendSync as view
use Rattle.od_mentions.proofs.state.State.TheSendSync as state
use Rattle.od_constraint.proofs.steps.Step.TheSendSync as step
use Rattle.od_constraint.proofs.hits.Hits.TheSendSync as hits
use Rattle.od_constraint.specs.contracts.resolving.Resolved as resolved
use Rattle.od_constraint.specs.contracts.resolving.Resolved.TheInside as in_resolved
use Rattle.od_constraint.specs.contracts.resolving.ResolvedLabel as label
use Rattle.od_constraint.specs.contracts.resolving.ResolvedLabel.TheInside as in_label
use Rattle.od_columns.specs.contracts.resolved.ResolvedThing as thing
use Rattle.od_columns.specs.contracts.resolved.ResolvedRule as asked
use Rattle.od_columns.specs.contracts.resolved.ResolvedRule.TheInside as in_asked
use Rattle.od_rounds.specs.contracts.session.Session as session
use Rattle.od_rounds.specs.contracts.session.Session.TheInside as in_session
use Rattle.od_plan.proofs.Sent.{wanted_send, wanted_sync}
use Rattle.od_rule.proofs.Sent.{rules_send, rules_sync}

u32_send : IsSend u32
u32_send = search sendable

u32_sync : IsSync u32
u32_sync = search sendable

bool_send : IsSend bool
bool_send = search sendable

bool_sync : IsSync bool
bool_sync = search sendable

resolved_send : IsSend resolved.the_row
resolved_send = view_send _ _ _ _ _ (declared_send in_resolved.the_type (Vec-send _ step.the_send, (Vec-send _ hits.the_send, (search crosses, (search crosses, tt)))))

resolved_sync : IsSync resolved.the_row
resolved_sync = view_sync _ _ _ _ _ (declared_sync in_resolved.the_type (Vec-sync _ step.the_sync, (Vec-sync _ hits.the_sync, (search crosses, (search crosses, tt)))))

label_send : IsSend label.the_row
label_send = view_send _ _ _ _ _ (declared_send in_label.the_type (hits.the_send, (search crosses, (search crosses, tt))))

label_sync : IsSync label.the_row
label_sync = view_sync _ _ _ _ _ (declared_sync in_label.the_type (hits.the_sync, (search crosses, (search crosses, tt))))

thing_send : IsSend thing.the_row
thing_send = variants_send thing.enum ((resolved_send, tt), ((label_send, tt), tt))

thing_sync : IsSync thing.the_row
thing_sync = variants_sync thing.enum ((resolved_sync, tt), ((label_sync, tt), tt))

asked_send : IsSend asked.the_row
asked_send = view_send _ _ _ _ _ (declared_send in_asked.the_type (Vec-send _ thing_send, (search crosses, tt)))

asked_sync : IsSync asked.the_row
asked_sync = view_sync _ _ _ _ _ (declared_sync in_asked.the_type (Vec-sync _ thing_sync, (search crosses, tt)))

pub session_send : IsSend session.the_row
session_send = view_send _ _ _ _ _ (declared_send in_session.the_type
    (Arc-send _ rules_send rules_sync, (view.the_send, (u32_send, (u32_send, (list.the_send _ (list.the_send _ asked_send), (list.the_send _ (list.the_send _ wanted_send), (state.the_send, (u32_send, (bool_send, tt))))))))))

pub session_sync : IsSync session.the_row
session_sync = view_sync _ _ _ _ _ (declared_sync in_session.the_type
    (Arc-sync _ rules_send rules_sync, (view.the_sync, (u32_sync, (u32_sync, (list.the_sync _ (list.the_sync _ asked_sync), (list.the_sync _ (list.the_sync _ wanted_sync), (state.the_sync, (u32_sync, (bool_sync, tt))))))))))
