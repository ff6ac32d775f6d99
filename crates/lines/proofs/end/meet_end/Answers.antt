use Rattle.lines.specs.Twins.Ends.{met_end}
use Rattle.lines.proofs.end.meet_end.Goals as goal

pub returns-in-Ok : goal.returns-in-Ok
unfolding met_end
returns-in-Ok c = rw (← c.meet_output.ensures, c.in-Ok.is, ← c.add_line.ensures, ← c.ok_or.ensures.value)

pub returns-in-Err-Contradiction : goal.returns-in-Err-Contradiction
unfolding met_end
returns-in-Err-Contradiction c = rw (← c.meet_output.ensures, c.in-Err-Contradiction.is, c.in-Err-Contradiction.field-0-is)

pub returns-in-Err-Over : goal.returns-in-Err-Over
unfolding met_end
returns-in-Err-Over c = rw (← c.meet_output.ensures, c.in-Err-Over.is, c.in-Err-Over.field-0-is)
