use Rattle.values.proofs.ValueTurns.{cell_over, cell_done}
use Rattle.values.proofs.tokens.push_cell.Goals as goal

pub returns-then-k-gt65534 : goal.returns-then-k-gt65534
returns-then-k-gt65534 c = rw (cell_over c.if-k-gt65534.true)

pub returns : goal.returns
returns c = rw (cell_done c.if-k-gt65534.false)
