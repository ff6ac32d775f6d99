use Rattle.layout.specs.Twins.Laying.{job_laid}
use Rattle.layout.proofs.job.lay_job.Goals as goal

pub returns : goal.returns
unfolding job_laid
returns c = rw (← c.lay_data.ensures, c.in_ok-ins.was, ← c.lay_ends.ensures)

pub returns-in_err-ins : goal.returns-in_err-ins
unfolding job_laid
returns-in_err-ins c = rw (c.from_residual.ensures, ← c.lay_data.ensures, c.in_err-ins.was)
