use borrow.Author.Tests.{lt-ltb, le-ltb}
use Rattle.heap.specs.Twins.Moving.{bound_cell}
use Rattle.heap.proofs.apply.bind_cell.Goals as goal

-- `bind_cell` writes the cell and contracts the entries.
pub returns-then-used-gt65534 : goal.returns-then-used-gt65534
unfolding bound_cell
returns-then-used-gt65534 c = rw (lt-ltb _ _ c.if-used-gt65534.true)

pub returns : goal.returns
unfolding bound_cell
returns c = rw (le-ltb _ _ c.if-used-gt65534.false) c.contract_entries.ensures
