use native.Mathlib.Omega.{arith}
use Rattle.heap.proofs.MoveLaws.{moving_start, moving_next, moving_end}
use Rattle.heap.proofs.entry.move_down.Goals as goal

pub loop-i-init : goal.loop-i-init
loop-i-init c = moving_start _ _ _ _ (omega arith)

pub loop-i-preserved : goal.loop-i-preserved
loop-i-preserved c = moving_next c.loop-i.invariant c.loop-i-test.true

pub returns : goal.returns
returns c = moving_end c.loop-i.invariant c.loop-i-test.false
