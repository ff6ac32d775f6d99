use Rattle.forward.specs.Twins.Naming.{named_at}
use Rattle.forward.proofs.named.name_value.Goals as goal

pub returns-in-End : goal.returns-in-End
unfolding named_at
returns-in-End c = rw (← c.link_at-q.ensures, c.in-End.is, ← c.own_value.ensures)

pub returns-in-Call : goal.returns-in-Call
unfolding named_at
returns-in-Call c = rw (← c.link_at-q.ensures, c.in-Call.is, ← c.argument_value.ensures)

pub returns-in-Same : goal.returns-in-Same
unfolding named_at
returns-in-Same c = rw (← c.link_at-q.ensures, c.in-Same.is, ← c.own_value-in-Same.ensures)

pub returns-in-Test : goal.returns-in-Test
unfolding named_at
returns-in-Test c = rw (← c.link_at-q.ensures, c.in-Test.is, ← c.tested_value.ensures)
