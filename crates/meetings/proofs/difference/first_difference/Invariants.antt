use Rattle.meetings.specs.Twins.Differing.{first_difference}
use mathlib.Core.Path.{◌≡◌}
use Prim.Native.Nat.{◌+◌}
use Rattle.meetings.proofs.difference.first_difference.Given as goal

abbrev pub invariant-loop-n : goal.invariant-loop-n
invariant-loop-n l = first_difference l.wfrom l.wto l.ufrom l.uto l.heap ≡ first_difference (l.wfrom + l.n) l.wto (l.ufrom + l.n) l.uto l.heap
