-- The refusal at the next match is that of all matches that are left.
use Rattle.std.proofs.Common.{◌++◌, ap, ◌∙◌}
use Rattle.std.proofs.lemmas.Result.{err_from_is_err_and}
use Rattle.std.specs.Option.{option_to_list}
use Rattle.od_rule.specs.Left.{left_in}
use Rattle.od_rounds.proofs.Meets.{match-stops}
use Rattle.od_rounds.proofs.meet.meet_next.Goals as goal

pub returns-in_err-meet_match-in-Some-clause-err : goal.returns-in_err-meet_match-in-Some-clause-err
returns-in_err-meet_match-in-Some-clause-err c =
    let p = err_from_is_err_and c.from_residual-in_err-meet_match-in-Some.result c.from_residual-in_err-meet_match-in-Some.ensures.1 in
    let meeting = c.args.meeting.now in
    rw (p.1, p.2) (match-stops meeting.known.now c.args.found.now c.in_err-meet_match-in-Some.field-0.0 meeting.rule.now meeting.document meeting.sentence
    (left_in c.args.left.now) (left_in c.next.new.self) c.in-Some.next
    (c.in_ok-next.ensures.items ∙ ap (λ o. option_to_list o ++ left_in c.next.new.self) c.in-Some.is) c.in_err-meet_match-in-Some.ensures.met)
