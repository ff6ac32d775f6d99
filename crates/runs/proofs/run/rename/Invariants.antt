use Prim.Native.Nat.{◌+◌, ◌≤◌}
use mathlib.Core.Path.{◌≡◌}
use mathlib.Core.List.{◌∷◌, []}
use lib.Seq.{sets}
use Rattle.sets.specs.Twins.Fill.{spread}
use Rattle.runs.specs.Twins.Runs.{run}
use Rattle.runs.proofs.RunLaws.{Below}
use Rattle.runs.proofs.run.rename.Given as goal

abbrev pub invariant-loop-i : goal.invariant-loop-i
invariant-loop-i l =
    (l.i ≤ l.size) × Below l.used l.heap l.initial.heap × (sets l.initial.heap l.used (spread l.x (l.y ∷ []) (run l.from l.end l.initial.heap)) ≡ sets l.heap (l.used + l.i) (spread l.x (l.y ∷ []) (run (l.from + l.i) l.end l.initial.heap)))
