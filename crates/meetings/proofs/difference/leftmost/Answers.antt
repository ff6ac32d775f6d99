use Rattle.meetings.specs.Twins.Differing.{leftmost_in}
use borrow.Author.Tests.{le-leb, lt-leb}
use Rattle.meetings.proofs.difference.leftmost.Goals as goal

pub returns-then-wend-p : goal.returns-then-wend-p
unfolding leftmost_in
returns-then-wend-p c = rw (← c.min-wend.ensures, ← c.min-uend.ensures, ← c.first_difference-d.ensures, le-leb _ _ c.if-wend-p.true)

pub returns-then-uend-k : goal.returns-then-uend-k
unfolding leftmost_in
returns-then-uend-k c = rw (← c.min-wend.ensures, ← c.min-uend.ensures, ← c.first_difference-d.ensures, lt-leb _ _ c.if-wend-p.false, le-leb _ _ c.if-uend-k.true)

pub returns : goal.returns
unfolding leftmost_in
returns c = rw (← c.min-wend.ensures, ← c.min-uend.ensures, ← c.first_difference-d.ensures, lt-leb _ _ c.if-wend-p.false, lt-leb _ _ c.if-uend-k.false, ← c.judge.ensures)
