use Rattle.od_yaml.proofs.Runs.{quoted_run, run_stops, run_boundary}
use Rattle.od_yaml.proofs.quoted.split_run.Goals as goal

pub text_to-requires : goal.text_to-requires
text_to-requires c = rw (c.special_at-at.ensures, c.as_bytes.ensures.value) (run_boundary c.args.text.now c.utf8.text)

pub text_from-requires : goal.text_from-requires
text_from-requires c = rw (c.special_at-at.ensures, c.as_bytes.ensures.value) (run_boundary c.args.text.now c.utf8.text)

pub returns-clause-value : goal.returns-clause-value
returns-clause-value c = rw (c.text_to.ensures, c.text_from.ensures, c.special_at-at.ensures, c.as_bytes.ensures.value) (quoted_run c.args.text.now)

pub returns-clause-stops : goal.returns-clause-stops
returns-clause-stops c = rw (c.text_from.ensures, c.special_at-at.ensures, c.as_bytes.ensures.value) (run_stops c.args.text.now)
