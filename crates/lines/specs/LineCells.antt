-- The lines of a listing in the answer storage.
use Rattle.std.specs.Prelude.{ℕ, ◌+◌, List, [], ◌∷◌, ◌++◌}
use Rattle.expressions.specs.Class.{nodes_class}
use Rattle.semantics.specs.Tree.{Line}
use Rattle.meetings.specs.ClassCells.{line_cells as cells_of}

-- of each line its steps, how many cells its inputs have, how many its output, how many non-equalities it has; then these cells and the sides
abbrev pub line_cells : Line → List ℕ
line_cells l = cells_of l.steps l.class

abbrev pub lines_cells : List Line → List ℕ
lines_cells [] = []
lines_cells (l ∷ ls) = line_cells l ++ lines_cells ls

abbrev pub nodes_lines : List Line → ℕ
nodes_lines [] = 0
nodes_lines (l ∷ ls) = nodes_class l.class + nodes_lines ls

-- 256 lines, and 16,384 nodes in them
abbrev pub answer_room : ℕ
answer_room = 17408
