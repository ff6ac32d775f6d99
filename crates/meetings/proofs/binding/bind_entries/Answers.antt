use Rattle.meetings.specs.Twins.Binding.{entries_bound}
use Rattle.meetings.proofs.binding.bind_entries.Goals as goal

pub returns : goal.returns
unfolding entries_bound
returns c = rw (← c.output_entry-n.ensures, ← c.contract_entries-w.ensures, ← c.grown.ensures)
