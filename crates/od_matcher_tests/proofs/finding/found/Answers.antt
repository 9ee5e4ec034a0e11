-- The runners of the maker can be sent to another thread.
use denote.Exit as exit
use denote.Param.Send.{param_send, arg_send}
use Rattle.od_io.proofs.Sent.{runner_send}
use Rattle.od_matcher_tests.proofs.finding.found.Goals as goal

pub build-requires-send-M-Runner : goal.build-requires-send-M-Runner
build-requires-send-M-Runner c κs = param_send 1 _ (arg_send _ exit.no _ runner_send)
