use Rattle.looking.specs.Twins.Taking.{parts_bound}
use Rattle.looking.proofs.take.bind_parts.Goals as goal

pub returns : goal.returns
unfolding parts_bound
returns c = rw (← c.push_entry.ensures, c.in_ok-n.was) c.push_entry-2.ensures

pub returns-in_err-n : goal.returns-in_err-n
unfolding parts_bound
returns-in_err-n c = rw (c.from_residual.ensures, ← c.push_entry.ensures, c.in_err-n.was)
