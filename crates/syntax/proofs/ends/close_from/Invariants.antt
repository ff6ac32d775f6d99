use mathlib.Core.Path.{◌≡◌}
use Prim.Native.Nat.{◌-◌, ◌≤◌, max}
use Rattle.checker.specs.Twins.StoredAt.{key_at}
use Rattle.syntax.specs.Twins.Ends.{close_from}
use Rattle.syntax.proofs.ends.close_from.Given as goal

abbrev pub invariant-loop-i : goal.invariant-loop-i
invariant-loop-i l = (close_from (key_at l.marks l.n) (l.n - l.from) 0 l.from ≡ close_from (key_at l.marks l.n) (l.n - l.i) l.depth l.i) × (l.depth ≤ l.i) × (l.i ≤ max l.from l.n)
