use Rattle.meetings.specs.Twins.Differing.{unless_standing}
use Rattle.meetings.proofs.difference.bind_unless_occurs.Goals as goal

pub returns-then-stands_in : goal.returns-then-stands_in
unfolding unless_standing
returns-then-stands_in c = rw (← c.tree_end.ensures, ← c.min-end.ensures, ← c.stands_in.ensures, c.if-stands_in.true)

pub returns : goal.returns
unfolding unless_standing
returns c = rw (← c.tree_end.ensures, ← c.min-end.ensures, ← c.stands_in.ensures, c.if-stands_in.false)
