use mathlib.Core.Path.{sym as inv}
use Rattle.window.proofs.SinkLaws.{puts_none}
use Rattle.writer.proofs.sample.put_sample_if.Goals as goal

pub returns-then-samples : goal.returns-then-samples
returns-then-samples c = rw c.if-samples.true c.put_filled.ensures

pub returns : goal.returns
returns c = rw c.if-samples.false (inv (puts_none _))
