use borrow.Author.Tests.{lt-ltb, le-ltb}
use Rattle.values.specs.Twins.Sizes.{sized_as}
use Rattle.values.proofs.size.sized.Goals as goal

pub returns-then-kept_nodes-gt4096 : goal.returns-then-kept_nodes-gt4096
unfolding sized_as
returns-then-kept_nodes-gt4096 c = rw (← c.kept_nodes.ensures, lt-ltb _ _ c.if-kept_nodes-gt4096.true)

pub returns : goal.returns
unfolding sized_as
returns c = rw (← c.kept_nodes.ensures, le-ltb _ _ c.if-kept_nodes-gt4096.false)
