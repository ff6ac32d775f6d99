use Prim.Native.Nat.{◌-◌, ◌*◌, ◌/◌, ◌≤◌, min}
use mathlib.Core.Path.{◌≡◌}
use lib.ListN.{length, drop}
use Rattle.restrictions.specs.Twins.Restricting.{stands_cells}
use Rattle.restrictions.proofs.restriction.stands.Given as goal

abbrev pub invariant-loop-i : goal.invariant-loop-i
invariant-loop-i l = (l.count ≡ min l.n (length l.q / 2)) × (l.i ≤ l.count) × (stands_cells l.n l.x l.y l.q ≡ stands_cells (l.n - l.i) l.x l.y (drop (2 * l.i) l.q))
