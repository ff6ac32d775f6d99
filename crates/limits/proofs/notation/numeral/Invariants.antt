use Prim.Native.Nat.{◌≤◌}
use Rattle.limits.proofs.notation.numeral.Given as goal

abbrev pub invariant-loop-i : goal.invariant-loop-i
invariant-loop-i l = l.n ≤ 100005
