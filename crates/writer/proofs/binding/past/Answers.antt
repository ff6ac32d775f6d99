use borrow.Author.Tests.{eq-eqb, ne_eqb}
use Rattle.writer.specs.Twins.LineText.{past_at}
use Rattle.writer.proofs.binding.past.Goals as goal

pub returns-then-c-eq-PAIR : goal.returns-then-c-eq-PAIR
unfolding past_at
returns-then-c-eq-PAIR c = rw (eq-eqb _ _ c.if-c-eq-PAIR.true, ← c.ahead.ensures)

pub returns : goal.returns
unfolding past_at
returns c = rw (ne_eqb _ _ c.if-c-eq-PAIR.false, ← c.tree_end.ensures)
