use Rattle.forward.proofs.ForwardTurns.{run_turn, run_end}
use Rattle.forward.proofs.run.run_from.Goals as goal

pub loop-k-preserved : goal.loop-k-preserved
loop-k-preserved c = rw (c.loop-k.invariant, run_turn c.loop-k-test.true, ← c.in-Continue.ensures)

pub returns-in-Break : goal.returns-in-Break
returns-in-Break c = rw (c.loop-k.invariant, run_turn c.loop-k-test.true, ← c.in-Break.ensures)

pub returns : goal.returns
returns c = rw (c.loop-k.invariant, run_end c.loop-k-test.false)
