use native.Mathlib.Omega.{arith}
use Rattle.layout.specs.Twins.Fresh.{first_fresh_cells}
use Rattle.layout.proofs.fresh.first_fresh.Goals as goal

pub returns : goal.returns
unfolding first_fresh_cells
returns c = omega (arith, c.largest.ensures.0)
