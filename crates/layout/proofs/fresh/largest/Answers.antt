use mathlib.Core.Path.{◌∙◌}
use native.Mathlib.Omega.{arith}
use Rattle.layout.proofs.LayoutTurns.{largest_turn, largest_end}
use Rattle.layout.proofs.fresh.largest.Goals as goal

pub loop-i-preserved : goal.loop-i-preserved
loop-i-preserved c =
    (omega (arith, c.max-most.ensures, c.number_of.ensures.1, c.loop-i.invariant.0), c.loop-i.invariant.1 ∙ omega (arith, c.max-most.ensures, c.number_of.ensures.0, largest_turn c.loop-i-test.true c.args.heap.now))

pub returns : goal.returns
returns c = (omega (arith, c.loop-i.invariant.1, largest_end c.loop-i-test.false c.args.heap.now), c.loop-i.invariant.0)
