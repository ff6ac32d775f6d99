use Rattle.lines.specs.Twins.Lines.{nodes_in_line}
use Rattle.lines.specs.Twins.Lines.{line_added}
use borrow.Author.Tests.{le-leb, lt-leb, lt-ltb, le-ltb}
use borrow.Author.Rules.{rules}
use Rattle.lines.proofs.line.add_line.Goals as goal

pub returns-then-table-l : goal.returns-then-table-l
unfolding line_added
returns-then-table-l c = rw (le-leb _ _ c.if-table-l.true)

pub overflow_add-nodes : goal.overflow_add-nodes
unfolding nodes_in_line
overflow_add-nodes c = search rules

pub returns-then-nodes-gt16384 : goal.returns-then-nodes-gt16384
unfolding line_added
returns-then-nodes-gt16384 c = rw (lt-leb _ _ c.if-table-l.false, ← c.min.ensures, ← c.line_nodes.ensures, lt-ltb _ _ c.if-nodes-gt16384.true)

pub returns : goal.returns
unfolding line_added
returns c = rw (lt-leb _ _ c.if-table-l.false, ← c.min.ensures, ← c.line_nodes.ensures, le-ltb _ _ c.if-nodes-gt16384.false, ← c.put_line-top.ensures, ← c.one_more.ensures)
