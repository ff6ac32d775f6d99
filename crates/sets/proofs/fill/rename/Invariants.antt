use Prim.Native.Nat.{◌≤◌, min}
use mathlib.Core.Path.{◌≡◌}
use lib.ListN.{length}
use Rattle.sets.specs.Twins.Fill.{renamed}
use Rattle.sets.proofs.fill.rename.Given as goal

abbrev pub invariant-loop-i : goal.invariant-loop-i
invariant-loop-i l = (l.end ≡ min l.n (length l.initial.s)) × (l.i ≤ l.end) × (length l.s ≡ length l.initial.s) × (l.s ≡ renamed l.i l.x l.y l.initial.s)
