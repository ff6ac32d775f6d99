use Rattle.lines.specs.Twins.Lines.{nodes_in_line}
use Rattle.lines.proofs.line.line_nodes.Goals as goal

pub returns : goal.returns
unfolding nodes_in_line
returns c = rw (← c.nodes.ensures, ← c.min.ensures, ← c.min-2.ensures)
