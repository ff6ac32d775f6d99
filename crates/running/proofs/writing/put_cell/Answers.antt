use borrow.Author.Tests.{le-leb, lt-leb}
use Rattle.running.specs.Twins.Writing.{cell_put}
use Rattle.running.proofs.writing.put_cell.Goals as goal

pub returns-then-limit-at : goal.returns-then-limit-at
unfolding cell_put
returns-then-limit-at c = rw (le-leb _ _ c.if-limit-at.true)

pub returns : goal.returns
unfolding cell_put
returns c = rw (lt-leb _ _ c.if-limit-at.false, ← c.put.ensures)
