use borrow.Author.Tests.{lt-ltb, le-ltb}
use Rattle.saving.specs.Twins.Saving.{allowed_at}
use Rattle.saving.proofs.saved.allowed.Goals as goal

pub returns-then-min-depth_at : goal.returns-then-min-depth_at
unfolding allowed_at
returns-then-min-depth_at c =
    rw (← c.begins_at.ensures, ← c.depth_at-before.ensures, ← c.min.ensures, ← c.depth_at.ensures, ← c.min-n.ensures, lt-ltb _ _ c.if-min-depth_at.true)

pub returns : goal.returns
unfolding allowed_at
returns c =
    rw (← c.begins_at.ensures, ← c.depth_at-before.ensures, ← c.min.ensures, ← c.depth_at.ensures, ← c.min-n.ensures, le-ltb _ _ c.if-min-depth_at.false)
