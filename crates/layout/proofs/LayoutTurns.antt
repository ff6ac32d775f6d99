-- One turn of each loop, as a step of what its function is equated with.
use Prim.Native.Nat.{ℕ, suc, ◌+◌, ◌-◌, ◌≤◌, ◌<◌, max}
use mathlib.Core.Path.{◌≡◌}
use mathlib.Core.List.{List}
use native.Mathlib.Omega.{arith}
use lib.ListN.{get_or}
use Rattle.std.specs.Prelude.{Some}
use Rattle.sets.specs.Twins.Fill.{fill_answer}
use Rattle.runs.specs.Twins.Runs.{run}
use Rattle.runs.proofs.RunLaws.{run_cons, run_end}
use Rattle.values.specs.Twins.Values.{onward_fill}
use Rattle.layout.specs.Twins.Data.{datum_written, data_written}
use Rattle.layout.specs.Twins.Fresh.{number_cell, largest_run}

pub none_left : (c j : ℕ) → c ≤ j → c - j ≡ 0
none_left c j l = omega arith

pub some_left : (c j : ℕ) → j < c → c - j ≡ suc (c - (j + 1))
some_left c j l = omega arith

-- the cells of data, token by token
pub data_end : {to i : ℕ} → to ≤ i → (marks nums : List ℕ) (k : ℕ) (h : List ℕ) → data_written marks nums (to - i) i k h ≡ fill_answer (Some k) h
unfolding data_written
data_end {to} {i} l marks nums k h = rw (none_left to i l)

pub data_turn : {to i : ℕ} → i < to → (marks nums : List ℕ) (k : ℕ) (h : List ℕ) → let w = datum_written marks nums i k h in
    data_written marks nums (to - i) i k h ≡ onward_fill (λ m g. data_written marks nums (to - (i + 1)) (i + 1) m g) w.answer w.cells
unfolding data_written
data_turn {to} {i} l marks nums k h = rw (some_left to i l)

-- the largest number, cell by cell
pub largest_turn : {i end : ℕ} → i < end → (h : List ℕ) → largest_run (run i end h) ≡ max (number_cell (get_or h i 0)) (largest_run (run (i + 1) end h))
unfolding largest_run
largest_turn {i} {end} l h = rw (run_cons i end h l)

pub largest_end : {i end : ℕ} → end ≤ i → (h : List ℕ) → largest_run (run i end h) ≡ 0
unfolding largest_run
largest_end {i} {end} l h = rw (run_end i end h l)
