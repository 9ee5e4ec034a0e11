-- A runner of the crate `regex` can be sent to another thread: what it is made of, type by type.
use denote.Builtin.{usize}
use denote.Param.Send.{IsSend, sendable}
use denote.Param.SendFields.{declared_send}
use Rattle.std.proofs.Crossing.{crosses, Vec-send, Box-send, frees}
use Rattle.std.proofs.option.Option.TheSendSync as option
use Rattle.std.proofs.string.String.TheSendSync as string
use Rattle.std.proofs.alloc.Global.TheSendSync as heap
use Rattle.od_io.specs.contracts.regex_maker.RegexRunner as runner
use Rattle.od_text.proofs.text.Text.TheSendSync as text
use Rattle.regex.specs.contracts.string.regex.Regex as regex
use Rattle.regex.specs.contracts.pattern.Pattern as pattern
use Rattle.regex.below.regex_meta.specs.contracts.program.Program as program
use Rattle.regex.below.regex_meta.specs.contracts.plan.Plans as plans
use Rattle.regex.below.regex_meta.specs.contracts.plan.Plan as plan
use Rattle.regex.below.regex_meta.specs.contracts.signs.Signs as signs
use Rattle.regex.below.regex_literal.proofs.caseless.Caseless.TheSendSync as caseless
use Rattle.regex.below.regex_literal.proofs.byte_set.ByteSet.TheSendSync as byte_set
use Rattle.regex.below.regex_literal.proofs.prefilter.Prefilter.TheSendSync as prefilter
use Rattle.regex.below.regex_extract.proofs.frames.Frame.TheSendSync as frame
use Rattle.regex.below.regex_dfa.proofs.dfa.Dfa.TheSendSync as dfa
use Rattle.regex_syntax.proofs.Config.TheSendSync as config
use Rattle.regex_hir.specs.contracts.hir.Hir as hir
use Rattle.regex_hir.proofs.hir.Hir.TheLaws.TheKnot as knot

usize_send : IsSend usize
usize_send = search sendable

hir_send : IsSend hir.the_row
hir_send = search (crosses, knot.crosses, sendable) depth 60 fits 20000

plan_send : IsSend plan.the_row
plan_send = search (prefilter.the_send, frame.the_send, hir_send, crosses, sendable) depth 60 fits 20000

plans_send : IsSend plans.the_row
plans_send = declared_send plans.the_type (Vec-send _ plan_send, tt)

signs_send : IsSend signs.the_row
signs_send = declared_send signs.the_type
    (caseless.the_send, (search (crosses, sendable) depth 60, (Vec-send _ hir_send, (Vec-send _ hir_send, (search (crosses, sendable) depth 60, tt)))))

program_send : IsSend program.the_row
program_send = declared_send program.the_type
    (hir_send, (dfa.the_send, (plans_send, (option.the_send _ (Box-send _ signs_send), (option.the_send _ byte_set.the_send, (search sendable, (usize_send, (option.the_send _ usize_send, tt))))))))

pattern_send : IsSend pattern.the_row
pattern_send = declared_send pattern.the_type
    (string.the_send _ _ heap.the_send frees, (config.the_send, (Vec-send _ (option.the_send _ (string.the_send _ _ heap.the_send frees)), (program_send, tt))))

regex_send : IsSend regex.the_row
regex_send = declared_send regex.the_type (pattern_send, tt)

pub runner_send : IsSend runner.the_row
runner_send = declared_send runner.the_type (regex_send, (text.the_send, tt))
