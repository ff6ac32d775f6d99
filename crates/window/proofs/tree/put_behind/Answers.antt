use borrow.Author.Tests.{lt-ltb, le-ltb}
use Rattle.window.proofs.SinkLaws.{behind}
use mathlib.Core.List.{append-nil}
use Rattle.window.specs.Twins.TreeText.{behind_leaf}
use Rattle.window.proofs.tree.put_behind.Goals as goal

pub returns-then-i-cells : goal.returns-then-i-cells
unfolding behind_leaf
returns-then-i-cells c = rw (← c.count_closings-n.ensures, lt-ltb _ _ c.if-i-cells.true) (behind _ _ _ c.put_repeat-p.ensures c.put_byte.ensures)

pub returns : goal.returns
unfolding behind_leaf
returns c = rw (← c.count_closings-n.ensures, le-ltb _ _ c.if-i-cells.false, append-nil) c.put_repeat-p.ensures
