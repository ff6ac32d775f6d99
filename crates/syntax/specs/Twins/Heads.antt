-- A table of definitions in cells: the index of each one's name.
use Rattle.std.specs.Prelude.{ℕ, zero, suc, ◌+◌, List, get_or, set}
use Rattle.words.specs.Twins.Marks.{cell_of}

-- the indices from number j on, `left` of them, each in its cell
unfoldable pub heads_from : List ℕ → ℕ → ℕ → List ℕ → List ℕ
heads_from from zero j cells = cells
heads_from from (suc left) j cells = heads_from from left (j + 1) (set cells j (cell_of (get_or from j 0)))
