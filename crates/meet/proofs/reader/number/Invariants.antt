use Prim.Native.Nat.{◌≤◌}
use Rattle.meet.proofs.reader.number.Given as goal

abbrev pub invariant-loop-b : goal.invariant-loop-b
invariant-loop-b l = l.n ≤ 999
