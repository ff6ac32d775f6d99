-- The turns of `stands` and `look_through` of codes over a range of a heap; RunLaws has them over the cells of a slice.
use Prim.Native.Nat.{ℕ, ◌+◌, ◌%◌, ◌<◌}
use mathlib.Core.Path.{◌≡◌, refl}
use mathlib.Core.Bool.{Bool, true, false, cond}
use mathlib.Core.List.{List}
use native.Mathlib.Omega.{arith}
use lib.Dec.{eqb, ltb}
use lib.ListN.{get_or}
use Rattle.sets.specs.Twins.Copying.{any_cell}
use Rattle.codes.specs.Twins.Codes.{met_of, variable_met, one_if}
use Rattle.runs.specs.Twins.Runs.{run, count_in, any_variable}
use Rattle.runs.proofs.RunLaws.{met_or, run_cons}

met_all : (t : Bool) → cond t true true ≡ true
met_all true = refl
met_all false = refl

module _ (x i end : ℕ) (g : List ℕ) (n : ℕ) where
  pub stands_next : i < end → met_or n (any_cell x (run i end g)) ≡ met_or (met_of n (get_or g i 0) x) (any_cell x (run (i + 1) end g))
  unfolding any_cell
  stands_next l = rw (run_cons i end g l) (pick (eqb (get_or g i 0) x))
    where
      pick : (b : Bool) → met_or n (cond b true (any_cell x (run (i + 1) end g))) ≡ met_or (cond b 1 n) (any_cell x (run (i + 1) end g))
      pick true = met_all (eqb n 1)
      pick false = refl

module _ (x i end : ℕ) (g : List ℕ) where
  pub count_next : (n : ℕ) → i < end → n + count_in x (run i end g) ≡ n + one_if (get_or g i 0) x + count_in x (run (i + 1) end g)
  unfolding count_in
  count_next n l = rw (run_cons i end g l) (pick (eqb (get_or g i 0) x))
    where
      pick : (b : Bool) → n + (cond b 1 0 + count_in x (run (i + 1) end g)) ≡ n + cond b 1 0 + count_in x (run (i + 1) end g)
      pick true = omega arith
      pick false = omega arith

pub variable_next : (n i end : ℕ) (g : List ℕ) → i < end → met_or n (any_variable (run i end g)) ≡ met_or (variable_met n (get_or g i 0)) (any_variable (run (i + 1) end g))
unfolding any_variable
variable_next n i end g l = rw (run_cons i end g l) (pick (ltb (get_or g i 0 % 4) 2))
  where
    pick : (b : Bool) → met_or n (cond b (any_variable (run (i + 1) end g)) true) ≡ met_or (cond b n 1) (any_variable (run (i + 1) end g))
    pick true = refl
    pick false = met_all (eqb n 1)
