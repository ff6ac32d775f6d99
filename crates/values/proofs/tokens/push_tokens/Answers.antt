use Rattle.values.proofs.ValueTurns.{tokens_turn, tokens_end}
use Rattle.values.proofs.tokens.push_tokens.Goals as goal

pub loop-j-preserved : goal.loop-j-preserved
loop-j-preserved c = rw (c.loop-j.invariant, tokens_turn c.loop-j-test.true, ← c.push_token.ensures, c.in_ok-k.was)

pub returns-in_err-k : goal.returns-in_err-k
returns-in_err-k c = rw (c.from_residual.ensures, c.loop-j.invariant, tokens_turn c.loop-j-test.true, ← c.push_token.ensures, c.in_err-k.was)

pub returns : goal.returns
returns c = rw (c.loop-j.invariant, tokens_end c.loop-j-test.false)
