use Rattle.looking.specs.Twins.Looking.{look_at}
use Rattle.looking.proofs.look.look.Goals as goal

pub returns-in-Some : goal.returns-in-Some
unfolding look_at
returns-in-Some c = rw (← c.min-i.ensures, ← c.names_from.ensures, ← c.value.ensures, c.in-Some.is, ← c.test_range.ensures)

pub returns-in-None : goal.returns-in-None
unfolding look_at
returns-in-None c = rw (← c.min-i.ensures, ← c.names_from.ensures, ← c.value.ensures, c.in-None.is)
