use Rattle.writer.specs.Twins.SampleText.{filled_cells}
use Rattle.writer.proofs.sample.put_filled.Goals as goal

pub returns : goal.returns
unfolding filled_cells
returns c = rw (← c.cell.ensures, ← c.from-ins.ensures, ← c.fill_line-n.ensures.0, ← c.fill_line-n.ensures.1) c.put_cells.ensures
