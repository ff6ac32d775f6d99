use Rattle.heap.specs.Twins.Entries.{entry}
use Rattle.heap.proofs.entry.put_entry.Goals as goal

pub returns : goal.returns
unfolding entry
returns c = rw (← c.narrow.ensures, ← c.narrow-2.ensures)
