use Prim.Native.Nat.{◌-◌}
use mathlib.Core.Path.{◌≡◌}
use native.Mathlib.Omega.{arith}
use Rattle.runs.specs.Twins.Runs.{cells_at}
use Rattle.runs.proofs.RunLaws.{moved_within}
use Rattle.compaction.proofs.compact.move_cells.Goals as goal

pub returns-then-from-end : goal.returns-then-from-end
returns-then-from-end c =
    let a = c.args in
    rw (← c.min-end.ensures, c.copy_within.ensures.after) (moved_within a.heap.now a.from a.at (c.min-end.result - a.from) (omega arith) (omega arith))

pub returns-else-from-end : goal.returns-else-from-end
unfolding cells_at
returns-else-from-end c =
    let z : c.min-end.result - c.args.from ≡ 0 = omega arith in
    rw (← c.min-end.ensures, z)
