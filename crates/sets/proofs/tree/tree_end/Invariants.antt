use Prim.Native.Nat.{◌+◌, ◌-◌, ◌≤◌}
use mathlib.Core.Path.{◌≡◌}
use lib.ListN.{length, drop}
use Rattle.sets.specs.Twins.Copying.{walk_trees}
use Rattle.sets.proofs.tree.tree_end.Given as goal

abbrev pub invariant-loop-i : goal.invariant-loop-i
invariant-loop-i l = (l.need + l.at ≤ l.i + 1) × (l.at + walk_trees (drop l.at l.s) 1 ≡ l.i + walk_trees (drop l.i l.s) l.need)

abbrev pub decreases-loop-i : goal.decreases-loop-i
decreases-loop-i l = length l.s - l.i
