-- The runners of the maker can be sent to another thread.
use denote.Exit as exit
use denote.Param.Send.{param_send, arg_send}
use Rattle.od_io.proofs.Sent.{runner_send}
use Rattle.od_serve_tests.proofs.tests.said_with_a_refusal.Goals as goal

pub odinson-requires-send-M-Runner : goal.odinson-requires-send-M-Runner
odinson-requires-send-M-Runner c κs = param_send 4 _ (arg_send _ exit.no _ runner_send)
