use Rattle.heap.proofs.MoveLaws.{Moving}
use Rattle.heap.proofs.entry.move_down.Given as goal

abbrev pub invariant-loop-i : goal.invariant-loop-i
invariant-loop-i l = Moving l.initial.frame l.a l.b l.size l.frame l.i
