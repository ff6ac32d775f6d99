use Rattle.walk.specs.Twins.Making.{made_call}
use Rattle.walk.proofs.make.make_call.Goals as goal

pub returns-then-is_spent : goal.returns-then-is_spent
unfolding made_call
returns-then-is_spent c = rw (← c.is_spent.ensures, c.if-is_spent.true, ← c.stopped.ensures)

pub returns : goal.returns
unfolding made_call
returns c = rw (← c.is_spent.ensures, c.if-is_spent.false, ← c.names_from.ensures, ← c.call-m.ensures, ← c.sized_move-after.ensures, ← c.after_move.ensures)
