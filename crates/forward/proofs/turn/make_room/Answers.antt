use borrow.Author.Tests.{lt-ltb, le-ltb}
use Rattle.forward.specs.Twins.Turning.{used_as, roomed}
use Rattle.forward.proofs.turn.make_room.Goals as goal

pub returns-then-c-gt40959 : goal.returns-then-c-gt40959
unfolding used_as roomed
returns-then-c-gt40959 c = rw (lt-ltb _ _ c.if-c-gt40959.true, ← c.compact-used.ensures)

pub returns : goal.returns
unfolding roomed
returns c = rw (le-ltb _ _ c.if-c-gt40959.false)
