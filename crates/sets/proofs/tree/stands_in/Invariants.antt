use Prim.Native.Nat.{min}
use mathlib.Core.Path.{◌≡◌}
use lib.ListN.{length}
use Rattle.sets.specs.Twins.Copying.{part, any_cell}
use Rattle.sets.proofs.tree.stands_in.Given as goal

abbrev pub invariant-loop-i : goal.invariant-loop-i
invariant-loop-i l = (l.end ≡ min l.to (length l.s)) × (any_cell l.x (part l.from l.to l.s) ≡ any_cell l.x (part l.i l.to l.s))
