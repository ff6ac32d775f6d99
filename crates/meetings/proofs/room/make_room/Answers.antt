use Rattle.meetings.specs.Twins.Unifying.{room_made}
use borrow.Author.Tests.{le-leb, lt-leb}
use Rattle.meetings.proofs.room.make_room.Goals as goal

-- `make_room` compacts where little is left.
pub returns-then-c-le-ROOMY : goal.returns-then-c-le-ROOMY
unfolding room_made
returns-then-c-le-ROOMY c = rw (le-leb _ _ c.if-c-le-ROOMY.true)

pub returns : goal.returns
unfolding room_made
returns c = rw (lt-leb _ _ c.if-c-le-ROOMY.false, ← c.output_entry-n.ensures, ← c.compact-used.ensures)
