-- One step of a session.
use Rattle.std.specs.Prelude.{List, [], Ok}
use Rattle.od_document.specs.declared.doc.Doc.{Doc}
use Rattle.od_command.specs.declared.history.Reply.{Reply}
use Rattle.od_session.specs.declared.object.SessionState.{SessionState}
use Rattle.od_model.specs.Object.Replies.{reply_step}

-- the answer to a step by the holder, over these documents
abbrev pub step_reply : List Doc → SessionState → Reply
step_reply docs s = reply_step (record { docs = docs; sessions = [] }) (Ok s)
