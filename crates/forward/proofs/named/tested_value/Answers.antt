use borrow.Author.Tests.{lt-ltb, le-ltb, eq-eqb, ne_eqb}
use Rattle.forward.specs.Twins.Naming.{tested_named}
use Rattle.forward.proofs.named.tested_value.Goals as goal

pub returns-then-place-n : goal.returns-then-place-n
unfolding tested_named
returns-then-place-n c = rw (c.in-Atom.is, ← c.names_in-n.ensures, ← c.from-place.ensures, lt-ltb _ _ c.if-place-n.true, ← c.own_value.ensures)

pub returns-then-place-n-2 : goal.returns-then-place-n-2
unfolding tested_named
returns-then-place-n-2 c = rw (c.in-Pair.is, ← c.names_in-n.ensures, ← c.from-place.ensures, lt-ltb _ _ c.if-place-n-2.true, ← c.own_value-then-place-n-2.ensures)

pub returns-then-place-n-3 : goal.returns-then-place-n-3
unfolding tested_named
returns-then-place-n-3 c =
    rw (c.in-Pair.is, ← c.names_in-n.ensures, ← c.from-place.ensures, le-ltb _ _ c.if-place-n-2.false, eq-eqb _ _ c.if-place-n-3.true, ← c.plain-then-place-n-3.ensures)

pub returns-else-place-n : goal.returns-else-place-n
unfolding tested_named
returns-else-place-n c =
    rw (c.in-Atom.is, ← c.names_in-n.ensures, ← c.from-place.ensures, le-ltb _ _ c.if-place-n.false, ← c.plain.ensures)

pub returns-else-place-n-3 : goal.returns-else-place-n-3
unfolding tested_named
returns-else-place-n-3 c =
    rw (c.in-Pair.is, ← c.names_in-n.ensures, ← c.from-place.ensures, le-ltb _ _ c.if-place-n-2.false, ne_eqb _ _ c.if-place-n-3.false, ← c.plain-in-Pair.ensures)

pub returns-in-Variable : goal.returns-in-Variable
unfolding tested_named
returns-in-Variable c = rw c.in-Variable.is

pub returns-in-Large : goal.returns-in-Large
unfolding tested_named
returns-in-Large c = rw (c.in-Large.is, ← c.part_index.ensures, ← c.own_value-in-Large.ensures)
