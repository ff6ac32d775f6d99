use borrow.Author.Tests.{lt-ltb, le-ltb}
use Rattle.running.specs.Twins.Writing.{range_put}
use Rattle.running.proofs.writing.put_range.Goals as goal
use Rattle.running.proofs.writing.put_range.Goals.{then-limit-at-via-then-limit-at, then-limit-at-via-else-limit-at+then-limit-at-2}

pub returns-then-limit-at : goal.returns-then-limit-at
unfolding range_put
returns-then-limit-at c =
    rw (← c.saturating_sub-n.ensures)
    (elim c.then-limit-at.branch [
      | then-limit-at-via-then-limit-at w ↦ rw (lt-ltb _ _ w.if-limit-at.true)
      | then-limit-at-via-else-limit-at+then-limit-at-2 w ↦ rw (le-ltb _ _ w.if-limit-at.false, lt-ltb _ _ w.if-limit-at-2.true)
    ])

pub returns : goal.returns
unfolding range_put
returns c = rw (← c.saturating_sub-n.ensures, le-ltb _ _ c.if-limit-at.false, le-ltb _ _ c.if-limit-at-2.false, ← c.copy.ensures.1)
