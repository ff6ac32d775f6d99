-- A line more: what each function of line.rt answers and leaves.
use Rattle.std.specs.Prelude.{ℕ, ◌+◌, ◌*◌, min, cond, List, leb, ltb, Option, Some, None}
use Rattle.heap.specs.Twins.Entries.{nodes_from}
use Rattle.meetings.specs.Twins.LineCells.{LineAnswer, line_put}
use Rattle.meetings.specs.declared.class.Class.{Class}
use Rattle.lines.specs.declared.line.Lines.{Lines}

unfoldable pub nodes_in_line : Class → List ℕ → ℕ
nodes_in_line c f = min (nodes_from (min c.entries 4120) 0 f) 65535 + 2 * min c.neqs 65535

abbrev pub lines_more : Lines → ℕ → ℕ → Lines
lines_more l nodes top = record { count = min l.count 65535 + 1; nodes = nodes; top = top }

pub record AddLeft : Type 0 where
  pub added : Option Lines
  pub answer : List ℕ

abbrev pub add_left : Option Lines → List ℕ → AddLeft
add_left a d = record { added = a; answer = d }

abbrev pub one_more : Lines → ℕ → LineAnswer → AddLeft
one_more l nodes w = add_left (Some (lines_more l nodes w.top)) w.answer

unfoldable pub line_added : Class → ℕ → ℕ → Lines → List ℕ → List ℕ → List ℕ → List ℕ → AddLeft
line_added c steps table l h f q a =
    let n = min l.nodes 65535 + nodes_in_line c f in
    cond (leb table l.count) (add_left None a) (cond (ltb 16384 n) (add_left None a) (one_more l n (line_put c steps h f q l.top a)))
