use Prim.Native.Nat.{◌-◌}
use Rattle.runs.specs.Twins.Runs.{run, spread_size}
use Rattle.runs.proofs.RunLaws.{Filling}
use Rattle.runs.proofs.run.fill.Given as goal

abbrev pub invariant-loop-n : goal.invariant-loop-n
invariant-loop-n l = Filling l.initial.heap l.from l.x l.vfrom l.used l.end l.vend l.size (spread_size l.x (l.vend - l.vfrom) (run l.from l.end l.initial.heap)) l.heap l.k l.i

abbrev pub decreases-loop-n : goal.decreases-loop-n
decreases-loop-n l = l.end - l.i
