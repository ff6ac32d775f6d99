use Rattle.heap.proofs.NodeLaws.{Counting}
use Rattle.heap.proofs.entry.nodes.Given as goal

abbrev pub invariant-loop-i : goal.invariant-loop-i
invariant-loop-i l = Counting l.frame l.end l.sum l.i
