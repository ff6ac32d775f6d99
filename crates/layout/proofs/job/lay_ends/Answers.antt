use Rattle.layout.specs.Twins.Laying.{ends_laid}
use Rattle.layout.proofs.job.lay_ends.Goals as goal

pub returns : goal.returns
unfolding ends_laid
returns c = rw (← c.lay_output.ensures, c.in_ok-io.was, ← c.lay_sides.ensures, c.in_ok-all.was)

pub returns-in_err-io : goal.returns-in_err-io
unfolding ends_laid
returns-in_err-io c = rw (c.from_residual.ensures, ← c.lay_output.ensures, c.in_err-io.was)

pub returns-in_err-all : goal.returns-in_err-all
unfolding ends_laid
returns-in_err-all c = rw (c.from_residual-in_err-all.ensures, ← c.lay_output.ensures, c.in_ok-io.was, ← c.lay_sides.ensures, c.in_err-all.was)
