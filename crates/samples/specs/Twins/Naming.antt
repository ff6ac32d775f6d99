-- The table that names are printed by. proofs/NameLaws.antt: the names are those of `sample_names`.
use Rattle.std.specs.Prelude.{ℕ, zero, suc, ◌+◌, ◌*◌, ◌/◌, cond, List, eqb, length, get_or, set, replicate}
use Rattle.lexer.specs.Twins.Table.{word_in}
use Rattle.samples.specs.Twins.Numbers.{number_of}

-- `left` cells from i on; 65,535 where the symbols' table has none
unfoldable pub copied_from : List ℕ → ℕ → ℕ → List ℕ → List ℕ
copied_from symbols zero i table = table
copied_from symbols (suc left) i table = copied_from symbols left (i + 1) (set table i (get_or symbols i 65535))

-- a mark for each of `left` symbols from the k-th on
unfoldable pub marked_from : List ℕ → List ℕ → List ℕ → ℕ → ℕ → List ℕ → List ℕ
marked_from program job symbols zero k taken = taken
marked_from program job symbols (suc left) k taken =
    marked_from program job symbols left (k + 1) (set taken (number_of (word_in program job (get_or symbols (2 * k + 1) 0))) 1)

-- the numbers without a mark among `left` from n on, from the cell `at` on
unfoldable pub free_from : List ℕ → ℕ → ℕ → ℕ → List ℕ → List ℕ
free_from taken zero n at table = table
free_from taken (suc left) n at table =
    cond (eqb (get_or taken n 0) 0) (free_from taken left (n + 1) (at + 1) (set table at n)) (free_from taken left (n + 1) at table)

unfoldable pub name_table : List ℕ → List ℕ → List ℕ → List ℕ → List ℕ
name_table program job symbols table =
    free_from (marked_from program job symbols (length symbols / 2) 0 (replicate 5121 0)) 5120 1 2048 (copied_from symbols 2048 0 table)
