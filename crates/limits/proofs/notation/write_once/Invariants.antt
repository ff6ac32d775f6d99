use Prim.Native.Nat.{◌-◌}
use mathlib.Core.Path.{◌≡◌}
use lib.ListN.{length}
use Rattle.limits.proofs.notation.write_once.Given as goal

abbrev pub invariant-loop-w : goal.invariant-loop-w
invariant-loop-w l = length l.out ≡ length l.initial.out

abbrev pub decreases-loop-w : goal.decreases-loop-w
decreases-loop-w l = length l.body - l.w.next
