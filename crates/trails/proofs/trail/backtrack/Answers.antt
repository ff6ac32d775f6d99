use borrow.Author.Tests.{eq-eqb, ne_eqb}
use Rattle.trails.specs.Twins.TrailCells.{backtracked}
use Rattle.trails.proofs.trail.backtrack.Goals as goal

pub returns-then-d-eq0 : goal.returns-then-d-eq0
unfolding backtracked
returns-then-d-eq0 c = rw (← c.latest_pending-d.ensures, eq-eqb _ _ c.if-d-eq0.true)

pub returns : goal.returns
unfolding backtracked
returns c =
    rw (← c.latest_pending-d.ensures, ne_eqb _ _ c.if-d-eq0.false, ← c.choice_cell.ensures, ← c.put.ensures)
