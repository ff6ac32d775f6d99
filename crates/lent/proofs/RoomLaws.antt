-- What is not too short has its least length.
use Prim.Native.Nat.{ℕ, ◌≤◌}
use mathlib.Core.Path.{◌≡◌, refl}
use mathlib.Core.Bool.{Bool, true, false, cond}
use native.Mathlib.Omega.{arith}
use lib.Dec.{ltb}
use borrow.Author.Tests.{ltb-false}

pub long_enough_lem : (m n k l : ℕ) → cond (ltb k m) true (ltb l n) ≡ false → (m ≤ k) × (n ≤ l)
long_enough_lem m n k l e = pick (ltb k m) refl e
  where
    pick : (t : Bool) → ltb k m ≡ t → cond t true (ltb l n) ≡ false → (m ≤ k) × (n ≤ l)
    pick true f g = let z : true ≡ false = g in let q : ◌≡◌ {A = ℕ} 0 1 = cc in omega arith
    pick false f g = (ltb-false k m f, ltb-false l n g)
