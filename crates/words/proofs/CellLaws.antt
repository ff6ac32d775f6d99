-- Laws of cells by index.
use Prim.Native.Nat.{ℕ, zero, suc, ◌<◌}
use mathlib.Core.Path.{◌≡◌, refl}
use mathlib.Core.List.{List, [], ◌∷◌}
use native.Mathlib.Omega.{arith}
use native.Mathlib.Nat.{not-suc-le-zero, le_of_suc-le-suc, lt_irrefl}
use lib.ListN.{length, get_or}

-- within the list what stands past its end does not count
pub get_d_any : (l : List ℕ) (i a b : ℕ) → i < length l → get_or l i a ≡ get_or l i b
get_d_any [] i a b h = absurd (not-suc-le-zero h)
get_d_any (x ∷ l) zero a b h = refl
get_d_any (x ∷ l) (suc i) a b h = get_d_any l i a b (le_of_suc-le-suc h)

-- what is less than what stands past the end stands before it
pub within_list : (l : List ℕ) (i d : ℕ) → get_or l i d < d → i < length l
within_list [] i d h = absurd (lt_irrefl d h)
within_list (x ∷ l) zero d h = omega arith
within_list (x ∷ l) (suc i) d h = let k = within_list l i d h in omega arith
