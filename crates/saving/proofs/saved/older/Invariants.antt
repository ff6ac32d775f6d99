use mathlib.Core.Path.{◌≡◌}
use Rattle.saving.specs.Twins.Saving.{older_top}
use Rattle.saving.proofs.saved.older.Given as goal

abbrev pub invariant-loop-t : goal.invariant-loop-t
invariant-loop-t l = older_top l.saved l.base l.size l.used l.top ≡ older_top l.saved l.base l.size l.used l.t

abbrev pub decreases-loop-t : goal.decreases-loop-t
decreases-loop-t l = l.t
