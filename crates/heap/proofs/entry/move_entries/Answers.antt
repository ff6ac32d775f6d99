use borrow.Author.Tests.{lt-ltb, le-ltb}
use Rattle.heap.specs.Twins.Entries.{moved_entries}
use Rattle.heap.proofs.entry.move_entries.Goals as goal
use Rattle.heap.proofs.entry.move_entries.Goals.{else-to-from-via-then-to-from+then-from-le-ENTRIES+else-n-from, else-to-from-via-then-to-from+else-from-le-ENTRIES, else-to-from-via-else-to-from}

pub returns-then-n-from : goal.returns-then-n-from
unfolding moved_entries
returns-then-n-from c =
    rw (le-ltb _ _ c.if-to-from.true, le-ltb _ _ c.if-from-le-ENTRIES.true, le-ltb _ _ c.if-n-from.true) c.move_down.ensures

pub returns-else-to-from : goal.returns-else-to-from
unfolding moved_entries
returns-else-to-from c =
    elim c.else-to-from.branch [
      | else-to-from-via-then-to-from+then-from-le-ENTRIES+else-n-from w ↦ rw (le-ltb _ _ w.if-to-from.true, le-ltb _ _ w.if-from-le-ENTRIES.true, lt-ltb _ _ w.if-n-from.false)
      | else-to-from-via-then-to-from+else-from-le-ENTRIES w ↦ rw (le-ltb _ _ w.if-to-from.true, lt-ltb _ _ w.if-from-le-ENTRIES.false)
      | else-to-from-via-else-to-from w ↦ rw (lt-ltb _ _ w.if-to-from.false)
    ]
