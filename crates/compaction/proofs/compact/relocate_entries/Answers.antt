use Prim.Native.Nat.{◌-◌}
use mathlib.Core.Path.{◌≡◌}
use native.Mathlib.Omega.{arith}
use Rattle.compaction.proofs.CompactLaws.{relocate_end, relocate_turn}
use Rattle.compaction.proofs.compact.relocate_entries.Goals as goal

pub loop-i-init : goal.loop-i-init
loop-i-init c = let z : c.min-end.result - 0 ≡ c.min-end.result = omega arith in rw (z, c.min-end.ensures)

pub loop-i-preserved : goal.loop-i-preserved
loop-i-preserved c =
    rw (c.loop-i.invariant, relocate_turn _ _ _ _ _ _ _ c.loop-i-test.true, ← c.relocate_entry.ensures, c.in_ok-now.was)

pub returns-in_err-now : goal.returns-in_err-now
returns-in_err-now c =
    rw (c.loop-i.invariant, relocate_turn _ _ _ _ _ _ _ c.loop-i-test.true, ← c.relocate_entry.ensures, c.in_err-now.was, c.from_residual.ensures)

pub returns : goal.returns
returns c = rw (c.loop-i.invariant, relocate_end _ _ _ _ _ _ _ c.loop-i-test.false)
