-- A number's digits, one at a time.
use Prim.Native.Nat.{ℕ, zero, suc, ◌+◌, ◌/◌, ◌%◌, ◌≤◌, ◌<◌}
use mathlib.Core.Path.{◌≡◌, refl, ap, ◌∙◌}
use mathlib.Core.Bool.{Bool, true, false}
use mathlib.Core.List.{List, [], ◌∷◌, ◌++◌}
use native.Mathlib.Omega.{arith}
use lib.Dec.{ltb}
use borrow.Author.Tests.{lt-ltb, le-ltb, ltb-false}
use Rattle.listing.specs.Print.{digits_within, digits}

abbrev one_or : Bool → ℕ → List ℕ → List ℕ
one_or t n ds = elim t [ true ↦ (48 + n) ∷ [] | false ↦ ds ++ ((48 + n % 10) ∷ []) ]

-- enough is enough
within : (k l n : ℕ) → n < k → n < l → digits_within k n ≡ digits_within l n
within zero l n h g = absurd (omega arith)
within (suc k) zero n h g = absurd (omega arith)
within (suc k) (suc l) n h g = go (ltb n 10) refl (λ b. within k l (n / 10) (omega arith) (omega arith))
  where
    go : (t : Bool) → ltb n 10 ≡ t → (10 ≤ n → digits_within k (n / 10) ≡ digits_within l (n / 10)) → one_or t n (digits_within k (n / 10)) ≡ one_or t n (digits_within l (n / 10))
    go true e again = refl
    go false e again = ap (λ (ds : List ℕ). ds ++ ((48 + n % 10) ∷ [])) (again (ltb-false n 10 e))

pub digits_one : (n : ℕ) → n < 10 → digits n ≡ (48 + n) ∷ []
digits_one n h = ap (λ (t : Bool). one_or t n (digits_within n (n / 10))) (lt-ltb n 10 h)

pub digits_more : (n : ℕ) → 10 ≤ n → digits n ≡ digits (n / 10) ++ ((48 + n % 10) ∷ [])
digits_more n h =
    ap (λ (t : Bool). one_or t n (digits_within n (n / 10))) (le-ltb n 10 h)
    ∙ ap (λ (ds : List ℕ). ds ++ ((48 + n % 10) ∷ [])) (within n (suc (n / 10)) (n / 10) (omega arith) (omega arith))
