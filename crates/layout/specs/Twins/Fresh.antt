-- The first number that no variable of a job has, by the cells of its trees.
use Rattle.std.specs.Prelude.{ℕ, suc, ◌/◌, ◌%◌, min, max, cond, List, [], ◌∷◌, ltb}
use Rattle.runs.specs.Twins.Runs.{run}

-- the number of a variable, by its code
abbrev pub number_cell : ℕ → ℕ
number_cell x = cond (ltb (x % 4) 2) 0 (x / 4)

unfoldable pub largest_run : List ℕ → ℕ
largest_run [] = 0
largest_run (x ∷ l) = max (number_cell x) (largest_run l)

-- one above the largest of the first n cells
unfoldable pub first_fresh_cells : ℕ → List ℕ → ℕ
first_fresh_cells n h = suc (largest_run (run 0 (min n 65535) h))
