use borrow.Author.Tests.{lt-ltb, le-ltb, eq-eqb, ne_eqb}
use Rattle.looking.specs.Twins.Looking.{tested_at}
use Rattle.looking.proofs.look.test_range.Goals as goal

pub returns-then-from-gt65534 : goal.returns-then-from-gt65534
unfolding tested_at
returns-then-from-gt65534 c = rw (lt-ltb _ _ c.if-from-gt65534.true)

pub returns-then-x-eq-PAIR : goal.returns-then-x-eq-PAIR
unfolding tested_at
returns-then-x-eq-PAIR c = rw (le-ltb _ _ c.if-from-gt65534.false, eq-eqb _ _ c.if-x-eq-PAIR.true, ← c.head_end-end.ensures, ← c.min.ensures)

pub returns-then-x-eq2 : goal.returns-then-x-eq2
unfolding tested_at
returns-then-x-eq2 c = rw (le-ltb _ _ c.if-from-gt65534.false, ne_eqb _ _ c.if-x-eq-PAIR.false, eq-eqb _ _ c.if-x-eq2.true)

pub returns : goal.returns
unfolding tested_at
returns c = rw (le-ltb _ _ c.if-from-gt65534.false, ne_eqb _ _ c.if-x-eq-PAIR.false, ne_eqb _ _ c.if-x-eq2.false)
