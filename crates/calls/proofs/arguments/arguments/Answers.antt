use Rattle.calls.proofs.ArgumentTurns.{arguments_turn, arguments_end}
use Rattle.calls.proofs.arguments.arguments.Goals as goal

pub loop-preserved : goal.loop-preserved
loop-preserved c = rw (c.loop.invariant, arguments_turn c.loop-test.true, ← c.argument.ensures, c.in_ok-a.was, ← c.link_at-l.ensures, ← c.from-j.ensures)

pub returns-in_err-a : goal.returns-in_err-a
returns-in_err-a c = rw (c.from_residual.ensures, c.loop.invariant, arguments_turn c.loop-test.true, ← c.argument.ensures, c.in_err-a.was)

pub returns : goal.returns
returns c = rw (c.loop.invariant, arguments_end c.loop-test.false)
