use Rattle.forward.proofs.ForwardTurns.{tokens_turn, tokens_end}
use Rattle.forward.proofs.output.push_output.Goals as goal

pub loop-j-init : goal.loop-j-init
loop-j-init c = rw (← c.link_at.ensures, ← c.from-to.ensures)

pub loop-j-preserved : goal.loop-j-preserved
loop-j-preserved c = rw (c.loop-j.invariant, tokens_turn c.loop-j-test.true, ← c.push_token.ensures, c.in_ok-at.was)

pub returns-in_err-at : goal.returns-in_err-at
returns-in_err-at c = rw (c.from_residual.ensures, c.loop-j.invariant, tokens_turn c.loop-j-test.true, ← c.push_token.ensures, c.in_err-at.was)

pub returns : goal.returns
returns c = rw (c.loop-j.invariant, tokens_end c.loop-j-test.false)
