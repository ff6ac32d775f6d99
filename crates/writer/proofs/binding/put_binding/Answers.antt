use borrow.Author.Tests.{lt-ltb, le-ltb, eq-eqb, ne_eqb}
use Rattle.window.specs.Twins.Sink.{puts}
use Rattle.writer.specs.Twins.LineText.{binding_at}
use Rattle.writer.proofs.binding.put_binding.Goals as goal

pub returns-then-c-lt2 : goal.returns-then-c-lt2
unfolding binding_at puts
returns-then-c-lt2 c = rw (← c.cell-c.ensures, lt-ltb _ _ c.if-c-lt2.true)

pub returns-then-stands_in : goal.returns-then-stands_in
unfolding binding_at puts
returns-then-stands_in c = rw (← c.cell-c.ensures, le-ltb _ _ c.if-c-lt2.false, ← c.stands_in.ensures, c.if-stands_in.true)

pub returns-then-cell-c : goal.returns-then-cell-c
unfolding binding_at puts
returns-then-cell-c c = rw (← c.cell-c.ensures, le-ltb _ _ c.if-c-lt2.false, ← c.stands_in.ensures, c.if-stands_in.false, ← c.cell.ensures, eq-eqb _ _ c.if-cell-c.true)

pub returns : goal.returns
unfolding binding_at
returns c = rw (← c.cell-c.ensures, le-ltb _ _ c.if-c-lt2.false, ← c.stands_in.ensures, c.if-stands_in.false, ← c.cell.ensures, ne_eqb _ _ c.if-cell-c.false) c.put_bound.ensures
