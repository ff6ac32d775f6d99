use Rattle.values.proofs.ValueTurns.{cell_over, cell_done}
use Rattle.layout.proofs.datum.lay_cell.Goals as goal

pub returns-then-at-gt65534 : goal.returns-then-at-gt65534
returns-then-at-gt65534 c = rw (cell_over c.if-at-gt65534.true)

pub returns : goal.returns
returns c = rw (cell_done c.if-at-gt65534.false, c.put.ensures)
