use Rattle.saving.specs.Twins.Saving.{loaded}
use Rattle.saving.proofs.saved.load.Goals as goal

pub returns : goal.returns
unfolding loaded
returns c =
    rw (← c.head_start-h.ensures, ← c.read_head-n.ensures, ← c.entry_cells-entries.ensures, ← c.side_cells-sides.ensures, ← c.begins_at-from.ensures, ← c.saturating_sub-s.ensures, ← c.copy.ensures.1, ← c.copy-2.ensures.1)
