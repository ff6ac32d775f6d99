use Rattle.layout.specs.Twins.Laying.{output_laid}
use Rattle.layout.proofs.job.lay_output.Goals as goal

pub returns-then-run : goal.returns-then-run
unfolding output_laid
returns-then-run c = rw (c.if-run.true, ← c.lay_cell.ensures)

pub returns : goal.returns
unfolding output_laid
returns c = rw (c.if-run.false, ← c.lay_data.ensures)
