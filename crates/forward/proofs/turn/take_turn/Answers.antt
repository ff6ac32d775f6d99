use Rattle.forward.specs.Twins.Turning.{turned}
use Rattle.forward.proofs.turn.take_turn.Goals as goal

pub returns-then-ends_at : goal.returns-then-ends_at
unfolding turned
returns-then-ends_at c = rw (← c.make_room-c.ensures, ← c.ask-a.ensures, ← c.branches-taken.ensures, ← c.next_place-i.ensures, ← c.ends_at.ensures, c.if-ends_at.true, ← c.finish.ensures)

pub returns : goal.returns
unfolding turned
returns c = rw (← c.make_room-c.ensures, ← c.ask-a.ensures, ← c.branches-taken.ensures, ← c.next_place-i.ensures, ← c.ends_at.ensures, c.if-ends_at.false, ← c.advance.ensures)
