use borrow.Author.Tests.{le-leb, lt-leb}
use Rattle.atoms.specs.Twins.Atoms.{first_cell}
use Rattle.atoms.proofs.atom.first_cell.Goals as goal

pub returns-then-i-ge4120 : goal.returns-then-i-ge4120
unfolding first_cell
returns-then-i-ge4120 c = rw (le-leb _ _ c.if-i-ge4120.true)

pub returns-then-from-ge65535 : goal.returns-then-from-ge65535
unfolding first_cell
returns-then-from-ge65535 c = rw (lt-leb _ _ c.if-i-ge4120.false, ← c.from-from.ensures, le-leb _ _ c.if-from-ge65535.true)

pub returns : goal.returns
unfolding first_cell
returns c = rw (lt-leb _ _ c.if-i-ge4120.false, ← c.from-from.ensures, lt-leb _ _ c.if-from-ge65535.false)
