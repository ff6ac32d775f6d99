use Rattle.calls.specs.Twins.Calls.{in_body}
use Rattle.calls.proofs.call.in_body.Goals as goal

pub returns : goal.returns
unfolding in_body
returns c = rw (← c.min.ensures, ← c.min-2.ensures)
