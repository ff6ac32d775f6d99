use Prim.Native.Nat.{◌≤◌, max, min}
use mathlib.Core.Path.{◌≡◌}
use Rattle.runs.specs.Twins.Runs.{run}
use Rattle.layout.specs.Twins.Fresh.{largest_run}
use Rattle.layout.proofs.fresh.largest.Given as goal

abbrev pub invariant-loop-i : goal.invariant-loop-i
invariant-loop-i l = (l.most ≤ 16383) × (largest_run (run 0 (min l.n 65535) l.heap) ≡ max l.most (largest_run (run l.i l.count l.heap)))
