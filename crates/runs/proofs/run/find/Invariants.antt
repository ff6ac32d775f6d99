use Prim.Native.Nat.{◌-◌, ◌≤◌}
use mathlib.Core.Path.{◌≡◌}
use lib.ListN.{length, drop}
use Rattle.runs.specs.Twins.Runs.{first_in}
use Rattle.runs.proofs.RunLaws.{ahead}
use Rattle.runs.proofs.run.find.Given as goal

abbrev pub invariant-loop-i : goal.invariant-loop-i
invariant-loop-i l = (l.i ≤ length l.cells) × (first_in l.x l.cells ≡ ahead l.i (first_in l.x (drop l.i l.cells)))

abbrev pub decreases-loop-i : goal.decreases-loop-i
decreases-loop-i l = length l.cells - l.i

abbrev pub invariant-loop-i-2 : goal.invariant-loop-i-2
invariant-loop-i-2 l = (l.i ≤ length l.cells) × (first_in l.x l.cells ≡ ahead l.i (first_in l.x (drop l.i l.cells)))

abbrev pub decreases-loop-i-2 : goal.decreases-loop-i-2
decreases-loop-i-2 l = length l.cells - l.i

abbrev pub invariant-loop-j : goal.invariant-loop-j
invariant-loop-j l = first_in l.x l.cells ≡ ahead l.j (first_in l.x (drop l.j l.cells))
