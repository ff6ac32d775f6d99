use Rattle.saving.specs.Twins.Saving.{stored}
use Rattle.saving.proofs.saved.store.Goals as goal

pub returns : goal.returns
unfolding stored
returns c =
    rw (← c.entry_cells-entries.ensures, ← c.side_cells-sides.ensures, ← c.min-e.ensures, ← c.copy.ensures.1, ← c.copy-2.ensures.1, ← c.store_head.ensures)
