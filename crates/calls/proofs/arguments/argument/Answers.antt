use borrow.Author.Tests.{eq-eqb}
use Rattle.values.specs.Twins.Values.{value_at}
use Rattle.calls.specs.Twins.Arguments.{argument_at}
use Rattle.calls.proofs.arguments.argument.Goals as goal

pub returns-then-l-eq-NAME : goal.returns-then-l-eq-NAME
unfolding argument_at value_at
returns-then-l-eq-NAME c =
    rw (← c.link_at-l.ensures, eq-eqb _ _ c.if-l-eq-NAME.true, ← c.place_at.ensures, ← c.entry_at-e.ensures, ← c.push_entry-p.ensures, ← c.count.ensures, ← c.taken.ensures)

pub returns : goal.returns
unfolding argument_at
returns c = rw (← c.value.ensures, c.in_ok-v.was, ← c.push_entry-p-2.ensures, ← c.count-2.ensures, ← c.taken-2.ensures)

pub returns-in_err-v : goal.returns-in_err-v
unfolding argument_at
returns-in_err-v c = rw (c.from_residual.ensures, ← c.value.ensures, c.in_err-v.was)
