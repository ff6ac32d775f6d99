use native.Mathlib.Omega.{arith}
use borrow.Author.Tests.{eq-eqb, ne_eqb}
use Rattle.layout.specs.Twins.Data.{datum_cell}
use Rattle.layout.proofs.datum.datum_cell.Goals as goal

pub returns-then-key-eq-CONS : goal.returns-then-key-eq-CONS
unfolding datum_cell
returns-then-key-eq-CONS c = rw (← c.key.ensures, eq-eqb _ _ c.if-key-eq-CONS.true)

pub returns-in-0 : goal.returns-in-0
unfolding datum_cell
returns-in-0 c = rw (← c.key.ensures, ne_eqb _ _ c.if-key-eq-CONS.false, ← c.kind.ensures, c.in-0.is, ← c.cell-number.ensures) c.code.ensures

pub returns-in-3 : goal.returns-in-3
unfolding datum_cell
returns-in-3 c = rw (← c.key.ensures, ne_eqb _ _ c.if-key-eq-CONS.false, ← c.kind.ensures, c.in-3.is, ← c.cell-number.ensures) c.code-in-3.ensures

pub returns-in-4 : goal.returns-in-4
unfolding datum_cell
returns-in-4 c = rw (← c.key.ensures, ne_eqb _ _ c.if-key-eq-CONS.false, ← c.kind.ensures, c.in-4.is, ← c.cell-number.ensures) c.code-in-4.ensures

pub returns-in_default : goal.returns-in_default
unfolding datum_cell
returns-in_default c =
    let k = c.kind.result in
    rw (← c.key.ensures, ne_eqb _ _ c.if-key-eq-CONS.false, ← c.kind.ensures, ne_eqb k 0 (λ e. omega arith), ne_eqb k 3 (λ e. omega arith), ne_eqb k 4 (λ e. omega arith))
