-- A class and a line in cells.
use Rattle.std.specs.Prelude.{ℕ, List, ◌∷◌, ◌++◌, length}
use Rattle.expressions.specs.Expression.{nodes, nodes_all}
use Rattle.expressions.specs.Class.{IOClass}
use Rattle.sets.specs.Cells.{cells, cells_all, restriction_cells}

-- the inputs, the output, the two sides of each non-equality, oldest first
abbrev pub class_cells : IOClass → List ℕ
class_cells P = cells_all P.con.ins ++ (cells P.con.out ++ restriction_cells P.neqs)

-- "A line's steps are those from the start to its end."
abbrev pub line_cells : ℕ → IOClass → List ℕ
line_cells steps P = steps ∷ (nodes_all P.con.ins ∷ (nodes P.con.out ∷ (length P.neqs ∷ class_cells P)))
