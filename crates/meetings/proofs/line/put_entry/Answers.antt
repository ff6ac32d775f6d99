use Rattle.meetings.specs.Twins.LineCells.{entry_put}
use Rattle.meetings.proofs.line.put_entry.Goals as goal

pub returns : goal.returns
unfolding entry_put
returns c = rw (← c.min-at.ensures, ← c.entry_size-n.ensures.0, ← c.entry_at-p.ensures, ← c.copy.ensures.1)
