use Rattle.layout.specs.Twins.Laying.{sides_laid}
use Rattle.layout.proofs.job.lay_sides.Goals as goal

pub returns-then-run : goal.returns-then-run
unfolding sides_laid
returns-then-run c = rw c.if-run.true

pub returns : goal.returns
unfolding sides_laid
returns c = rw (c.if-run.false, ← c.lay_data.ensures)
