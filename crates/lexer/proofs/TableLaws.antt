-- Laws of the table of words: one entry of a search.
use Prim.Native.Nat.{ℕ, zero, suc, ◌+◌, ◌-◌, ◌≤◌, ◌<◌}
use mathlib.Core.Path.{◌≡◌, refl, ap}
use mathlib.Core.Bool.{true, false, cond}
use mathlib.Core.List.{List}
use native.Mathlib.Omega.{arith}
use Rattle.language.specs.Words.{Word}
use Rattle.lexer.specs.Twins.Table.{entry_is, find_at}

module _ (first second table : List ℕ) (hash : ℕ) (w : Word) where
  pub find_none : {n : ℕ} (k : ℕ) → n ≤ 0 → find_at first second table hash w n k ≡ k
  unfolding find_at
  find_none {n = zero} k h = refl
  find_none {n = suc n} k h = let z : ⊥ = omega arith in absurd z

  pub find_here : {n : ℕ} (k : ℕ) → 0 < n → entry_is first second table hash w k ≡ true → find_at first second table hash w n k ≡ k
  unfolding find_at
  find_here {n = zero} k h e = let z : ⊥ = omega arith in absurd z
  find_here {n = suc n} k h e = ap (λ t. cond t k (find_at first second table hash w n (k + 1))) e

  pub find_on : {n : ℕ} (k : ℕ) → 0 < n → entry_is first second table hash w k ≡ false → find_at first second table hash w n k ≡ find_at first second table hash w (n - 1) (k + 1)
  unfolding find_at
  find_on {n = zero} k h e = let z : ⊥ = omega arith in absurd z
  find_on {n = suc n} k h e =
      let d : suc n - 1 ≡ n = omega arith in
      rw d (ap (λ t. cond t k (find_at first second table hash w n (k + 1))) e)

  -- at the entry k of n
  pub find_past : (n k : ℕ) → n ≤ k → find_at first second table hash w (n - k) k ≡ k
  find_past n k h = find_none k (omega arith)

  pub find_found : (n k : ℕ) → k < n → entry_is first second table hash w k ≡ true → find_at first second table hash w (n - k) k ≡ k
  find_found n k h e = find_here k (omega arith) e

  pub find_next : (n k : ℕ) → k < n → entry_is first second table hash w k ≡ false → find_at first second table hash w (n - k) k ≡ find_at first second table hash w (n - (k + 1)) (k + 1)
  find_next n k h e =
      let d : n - k - 1 ≡ n - (k + 1) = omega arith in
      rw (find_on {n = n - k} k (omega arith) e, d)
