use Rattle.saving.specs.Twins.Heads.{begins_at}
use Rattle.saving.proofs.head.begins_at.Goals as goal

pub returns : goal.returns
unfolding begins_at
returns c =
    rw (← c.head_start-h.ensures, ← c.number.ensures, ← c.side_cells-sides.ensures, ← c.number-2.ensures, ← c.entry_cells-entries.ensures, ← c.saturating_sub.ensures, ← c.saturating_sub-2.ensures)
