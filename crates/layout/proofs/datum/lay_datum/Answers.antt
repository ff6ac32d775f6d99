use borrow.Author.Tests.{eq-eqb, ne_eqb}
use Rattle.layout.specs.Twins.Data.{datum_written}
use Rattle.layout.proofs.datum.lay_datum.Goals as goal

pub returns-then-code-eq0 : goal.returns-then-code-eq0
unfolding datum_written
returns-then-code-eq0 c = rw (← c.datum_cell-code.ensures, eq-eqb _ _ c.if-code-eq0.true)

pub returns : goal.returns
unfolding datum_written
returns c = rw (← c.datum_cell-code.ensures, ne_eqb _ _ c.if-code-eq0.false, ← c.lay_cell.ensures)
