use mathlib.Core.Path.{◌≡◌}
use Rattle.trails.specs.Twins.TrailCells.{latest_pending}
use Rattle.trails.proofs.trail.latest_pending.Given as goal

abbrev pub invariant-loop-i : goal.invariant-loop-i
invariant-loop-i l = latest_pending l.path l.depth ≡ latest_pending l.path l.i
