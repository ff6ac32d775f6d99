-- One turn of the loop that writes the entries of a line.
use Prim.Native.Nat.{ℕ, suc, ◌+◌, ◌-◌, ◌≤◌, ◌<◌}
use mathlib.Core.Path.{◌≡◌}
use mathlib.Core.List.{List}
use native.Mathlib.Omega.{arith}
use Rattle.meetings.specs.Twins.LineCells.{line_answer, entry_put, entries_put}

module _ (n : ℕ) (h f : List ℕ) (top : ℕ) (a : List ℕ) where
  pub entries_start : entries_put n 0 h f top a ≡ entries_put (n - 0) 0 h f top a
  entries_start = let e : n - 0 ≡ n = omega arith in rw e

  module _ (i : ℕ) where
    pub entries_end : n ≤ i → line_answer top a ≡ entries_put (n - i) i h f top a
    unfolding entries_put
    entries_end l = let e : n - i ≡ 0 = omega arith in rw e

    pub entries_next : i < n → (r : ℕ) (b : List ℕ) → line_answer r b ≡ entry_put i h f top a → entries_put (n - i) i h f top a ≡ entries_put (n - (i + 1)) (i + 1) h f r b
    unfolding entries_put
    entries_next l r b e = let m : n - i ≡ suc (n - (i + 1)) = omega arith in rw (m, ← e)
