use borrow.Author.Tests.{le-leb, lt-leb}
use Rattle.heap.specs.Twins.Entries.{pushed}
use Rattle.heap.proofs.entry.push_entry.Goals as goal

-- `push_entry` puts one entry more where there is room.
pub returns-then-n-ge-ENTRIES : goal.returns-then-n-ge-ENTRIES
unfolding pushed
returns-then-n-ge-ENTRIES c = rw (le-leb _ _ c.if-n-ge-ENTRIES.true)

pub returns : goal.returns
unfolding pushed
returns c = rw (lt-leb _ _ c.if-n-ge-ENTRIES.false, c.put_entry.ensures)
