use Rattle.lines.specs.Twins.Ends.{output_met}
use Rattle.lines.proofs.end.meet_output.Goals as goal

pub returns-in_default : goal.returns-in_default
unfolding output_met
returns-in_default c = rw (← c.names_from-base.ensures, ← c.value.ensures, c.in_default.is)

pub returns : goal.returns
unfolding output_met
returns c = rw (← c.names_from-base.ensures, ← c.value.ensures, c.in-Some.is, ← c.class_at.ensures, ← c.names_from-base.ensures, ← c.push_entry.ensures, ← c.unify.ensures)
