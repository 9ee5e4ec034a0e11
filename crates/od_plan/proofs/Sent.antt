-- What is wanted can be sent to another thread, and threads can share it. The search does not find it, since it holds
-- itself.
use denote.Param.Send.{IsSend, IsSync, recorded_send, recorded_sync, sendable}
use denote.Builtin.{u32}
use denote.Struct.Field.{u32-field}
use Rattle.od_text.proofs.list.List.TheSendSync as list
use Rattle.od_text.proofs.text.Text.TheSendSync as text
use Rattle.od_plan.proofs.wanted.Wanted.TheLaws.TheKnot as of_wanted
use Rattle.od_plan.specs.contracts.wanted.Wanted as wanted

u32_send : IsSend u32
u32_send = search sendable

u32_sync : IsSync u32
u32_sync = search sendable

number_send : IsSend u32-field.row
number_send = search sendable

number_sync : IsSync u32-field.row
number_sync = search sendable

pub wanted_send : IsSend wanted.the_row
wanted_send = recorded_send wanted.the_field.row _ _ wanted.the_type.to_one
    (of_wanted.send-Wanted number_send (list.the_send _ u32_send) text.the_send list.the_send)

pub wanted_sync : IsSync wanted.the_row
wanted_sync = recorded_sync wanted.the_field.row _ _ wanted.the_type.to_one
    (of_wanted.sync-Wanted number_sync (list.the_sync _ u32_sync) text.the_sync list.the_sync)
