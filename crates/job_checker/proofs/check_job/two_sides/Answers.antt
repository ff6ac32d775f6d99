use Rattle.job_checker.specs.Twins.JobCheckAt.{two_sides}
use Rattle.job_checker.proofs.check_job.two_sides.Goals as goal

pub returns : goal.returns
unfolding two_sides
returns c =
    rw (← c.datum-d.ensures, ← c.datum-last.ensures, ← c.side.ensures, ← c.offset.ensures, ← c.judge-u.ensures, ← c.side-2.ensures, ← c.offset-2.ensures, ← c.judge-v.ensures, ← c.ahead.ensures, ← c.and.ensures, ← c.uses_only.ensures)
