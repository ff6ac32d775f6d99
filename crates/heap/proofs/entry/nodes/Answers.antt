use mathlib.Core.Path.{◌∙◌}
use native.Mathlib.Omega.{arith}
use Rattle.heap.proofs.NodeLaws.{counting_next, counting_end}
use Rattle.heap.proofs.entry.nodes.Goals as goal

pub loop-i-preserved : goal.loop-i-preserved
loop-i-preserved c = counting_next c.loop-i.invariant c.loop-i-test.true _ (c.from-sum.ensures ∙ c.saturating_sub.ensures) (omega arith)

pub returns : goal.returns
returns c = counting_end c.loop-i.invariant c.loop-i-test.false ∙ rw c.min-end.ensures
