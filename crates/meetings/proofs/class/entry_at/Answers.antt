use Rattle.meetings.specs.Twins.Classes.{place_in}
use Rattle.meetings.proofs.class.entry_at.Goals as goal

pub returns : goal.returns
unfolding place_in
returns c = rw (← c.min-j.ensures)
