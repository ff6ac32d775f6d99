use borrow.Author.Tests.{eq-eqb, ne_eqb, lt-ltb, le-ltb}
use Rattle.values.specs.Twins.Values.{value_at}
use Rattle.values.proofs.value.value.Goals as goal

pub returns-then-l-eq-NAME : goal.returns-then-l-eq-NAME
unfolding value_at
returns-then-l-eq-NAME c = rw (← c.link_at-l.ensures, eq-eqb _ _ c.if-l-eq-NAME.true, ← c.place_at.ensures, ← c.entry_at-e.ensures)

pub returns-then-k : goal.returns-then-k
unfolding value_at
returns-then-k c = rw (← c.link_at-l.ensures, ne_eqb _ _ c.if-l-eq-NAME.false, ← c.constant_at-k.ensures, lt-ltb _ _ c.if-k.true)

pub returns : goal.returns
unfolding value_at
returns c =
    rw (← c.link_at-l.ensures, ne_eqb _ _ c.if-l-eq-NAME.false, ← c.constant_at-k.ensures, le-ltb _ _ c.if-k.false, ← c.from.ensures, ← c.make.ensures)
