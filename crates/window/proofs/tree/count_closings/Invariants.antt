use Prim.Native.Nat.{◌+◌, ◌-◌, ◌≤◌}
use mathlib.Core.Path.{◌≡◌}
use Rattle.window.specs.Twins.TreeText.{closings}
use Rattle.window.proofs.tree.count_closings.Given as goal

abbrev pub invariant-loop-k : goal.invariant-loop-k
invariant-loop-k l = (l.trees ≤ l.k) × (l.n ≤ l.k) × (closings l.cells l.to 0 ≡ l.n + closings l.cells (l.to - l.k) l.trees)
