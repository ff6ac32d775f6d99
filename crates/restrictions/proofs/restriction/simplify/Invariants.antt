use Prim.Native.Nat.{◌-◌, ◌/◌, ◌≤◌, min}
use mathlib.Core.Path.{◌≡◌}
use lib.ListN.{length}
use Rattle.restrictions.specs.Twins.Restricting.{simplify_from, simplify_cells}
use Rattle.restrictions.proofs.restriction.simplify.Given as goal

abbrev pub invariant-loop-i : goal.invariant-loop-i
invariant-loop-i l = (l.count ≡ min l.n (length l.initial.q / 2)) × (l.i ≤ l.count) × (l.kept ≤ l.i) × (length l.q ≡ length l.initial.q) × (simplify_cells l.n l.initial.q ≡ simplify_from (l.count - l.i) l.i l.kept l.q)
