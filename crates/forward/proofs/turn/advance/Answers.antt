use Rattle.forward.specs.Twins.Turning.{advanced}
use Rattle.forward.proofs.turn.advance.Goals as goal

pub returns-then-is_over : goal.returns-then-is_over
unfolding advanced
returns-then-is_over c = rw (← c.in-Ok.ensures, ← c.is_over.ensures, c.if-is_over.true)

pub returns-else-is_over : goal.returns-else-is_over
unfolding advanced
returns-else-is_over c = rw (← c.in-Ok.ensures, ← c.is_over.ensures, c.if-is_over.false)

pub returns-in-Err : goal.returns-in-Err
unfolding advanced
returns-in-Err c = rw (← c.in-Err.ensures)
