use borrow.Author.Tests.{lt-ltb, le-ltb}
use Rattle.compaction.specs.Twins.Compacting.{compacted}
use Rattle.compaction.proofs.compact.compact.Goals as goal

-- `compact` relocates the entries and then moves the cells down.
pub returns-then-used-floor : goal.returns-then-used-floor
unfolding compacted
returns-then-used-floor c = rw (lt-ltb _ _ c.if-used-floor.true)

pub returns : goal.returns
unfolding compacted
returns c =
    rw (le-ltb _ _ c.if-used-floor.false, ← c.relocate_entries.ensures, c.in-Some.is, c.move_cells.ensures, c.saturating_sub.ensures)

pub returns-in_default : goal.returns-in_default
unfolding compacted
returns-in_default c =
    rw (le-ltb _ _ c.if-used-floor.false, ← c.relocate_entries.ensures, c.in_default.is)
