use Prim.Native.Nat.{◌+◌, ◌≤◌, min}
use mathlib.Core.Path.{◌≡◌}
use lib.Seq.{sets}
use Rattle.runs.specs.Twins.Runs.{run}
use Rattle.runs.proofs.RunLaws.{Below}
use Rattle.runs.proofs.run.append.Given as goal

abbrev pub invariant-loop-i : goal.invariant-loop-i
invariant-loop-i l =
    (l.i ≤ l.size) × Below l.used l.heap l.initial.heap × (sets l.initial.heap l.used (run l.from (min l.to l.used) l.initial.heap) ≡ sets l.heap (l.used + l.i) (run (l.from + l.i) (min l.to l.used) l.initial.heap))
