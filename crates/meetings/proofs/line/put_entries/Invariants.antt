use mathlib.Core.Path.{◌≡◌}
use lib.ListN.{length}
use Rattle.meetings.specs.Twins.LineCells.{entries_put}
use Prim.Native.Nat.{◌-◌}
use Rattle.meetings.proofs.line.put_entries.Given as goal

abbrev pub invariant-loop-i : goal.invariant-loop-i
invariant-loop-i l = (length l.answer ≡ length l.initial.answer) × (entries_put l.n 0 l.heap l.frame l.top l.initial.answer ≡ entries_put (l.n - l.i) l.i l.heap l.frame l.at l.answer)
