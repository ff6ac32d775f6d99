use Rattle.values.specs.Twins.Sizes.{kept_nodes}
use Rattle.values.proofs.size.kept_nodes.Goals as goal

pub returns : goal.returns
unfolding kept_nodes
returns c = rw (← c.nodes.ensures, ← c.min.ensures, ← c.min-2.ensures)
