use Rattle.forward.proofs.ForwardTurns.{argument_turn, argument_end}
use Rattle.forward.proofs.named.argument_from.Goals as goal

pub loop-preserved : goal.loop-preserved
loop-preserved c = rw (c.loop.invariant, argument_turn c.loop-test.true, ← c.link_at.ensures, ← c.from-j.ensures)

pub returns : goal.returns
returns c = rw (c.loop.invariant, argument_end c.loop-test.false)
