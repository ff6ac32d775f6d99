use Rattle.job_checker.specs.Twins.JobCheckAt.{elevens_at}
use Rattle.job_checker.proofs.check_job.elevens.Goals as goal

pub returns : goal.returns
unfolding elevens_at
returns c =
    rw (← c.ahead.ensures, ← c.datum-end.ensures, ← c.mark_variables.ensures, ← c.ahead-2.ensures, ← c.sides.ensures)
