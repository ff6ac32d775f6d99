use borrow.Author.Tests.{eq-eqb, ne_eqb}
use Rattle.forward.specs.Twins.Output.{token_put}
use Rattle.forward.proofs.output.push_token.Goals as goal

pub returns-then-l-eq-CELL : goal.returns-then-l-eq-CELL
unfolding token_put
returns-then-l-eq-CELL c = rw (← c.link_at-l.ensures, eq-eqb _ _ c.if-l-eq-CELL.true, ← c.put_cell.ensures)

pub returns-then-l-eq-NAME : goal.returns-then-l-eq-NAME
unfolding token_put
returns-then-l-eq-NAME c = rw (← c.link_at-l.ensures, ne_eqb _ _ c.if-l-eq-CELL.false, eq-eqb _ _ c.if-l-eq-NAME.true, ← c.name_value-v.ensures, ← c.put_value.ensures)

pub returns : goal.returns
unfolding token_put
returns c = rw (← c.link_at-l.ensures, ne_eqb _ _ c.if-l-eq-CELL.false, ne_eqb _ _ c.if-l-eq-NAME.false)
