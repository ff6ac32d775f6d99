use native.Mathlib.Omega.{arith}
use borrow.Author.Tests.{le-leb, lt-leb}
use Rattle.compaction.specs.Twins.Compacting.{relocated_entry}
use Rattle.compaction.proofs.CompactLaws.{pushed_there}
use Rattle.compaction.proofs.compact.relocate_entry.Goals as goal

pub returns-then-to-floor : goal.returns-then-to-floor
unfolding relocated_entry
returns-then-to-floor c = rw (← c.from-to.ensures, le-leb _ _ c.if-to-floor.true)

pub returns-in_err-now : goal.returns-in_err-now
unfolding relocated_entry
returns-in_err-now c =
    rw (← c.from-to.ensures, lt-leb _ _ c.if-to-floor.false, ← c.from-from.ensures, ← c.append.ensures, c.in_err-now.was, c.from_residual.ensures)

pub returns : goal.returns
unfolding relocated_entry
returns c =
    let e = pushed_there c.args.i _ _ _ c.args.frame.now (omega arith) _ _ c.push_entry.ensures in
    rw (← c.from-to.ensures, lt-leb _ _ c.if-to-floor.false, ← c.from-from.ensures, ← c.append.ensures, c.in_ok-now.was, e, c.saturating_sub.ensures, c.saturating_sub-2.ensures)
