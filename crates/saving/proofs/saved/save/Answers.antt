use borrow.Author.Tests.{le-leb, lt-leb}
use Rattle.saving.specs.Twins.Saving.{saved_to}
use Rattle.saving.proofs.saved.save.Goals as goal

pub returns-then-size-t : goal.returns-then-size-t
unfolding saved_to
returns-then-size-t c =
    rw (← c.size_of-size.ensures, ← c.place_for.ensures, ← c.min-t.ensures, le-leb _ _ c.if-size-t.true, c.store.ensures)

pub returns : goal.returns
unfolding saved_to
returns c =
    rw (← c.size_of-size.ensures, ← c.place_for.ensures, ← c.min-t.ensures, lt-leb _ _ c.if-size-t.false)
