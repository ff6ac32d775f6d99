use Rattle.meetings.specs.Twins.Binding.{variable_bound}
use Rattle.meetings.proofs.binding.bind.Goals as goal

pub returns-in-Ok : goal.returns-in-Ok
unfolding variable_bound
returns-in-Ok c = rw (← c.cell-code.ensures, ← c.in-Ok.ensures, ← c.bind_entries.ensures)

pub returns-in-Err : goal.returns-in-Err
unfolding variable_bound
returns-in-Err c = rw (← c.cell-code.ensures, ← c.in-Err.ensures)
