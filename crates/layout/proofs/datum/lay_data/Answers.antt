use Rattle.layout.proofs.LayoutTurns.{data_turn, data_end}
use borrow.Author.Rules.{rules}
use Rattle.layout.proofs.datum.lay_data.Goals as goal

pub loop-i-preserved : goal.loop-i-preserved
loop-i-preserved c = (rw (c.loop-i.invariant.0, data_turn c.loop-i-test.true, ← c.lay_datum.ensures, c.in_ok-k.was), search rules)

pub returns-in_err-k : goal.returns-in_err-k
returns-in_err-k c = rw (c.from_residual.ensures, c.loop-i.invariant.0, data_turn c.loop-i-test.true, ← c.lay_datum.ensures, c.in_err-k.was)

pub returns : goal.returns
returns c = rw (c.loop-i.invariant.0, data_end c.loop-i-test.false)
