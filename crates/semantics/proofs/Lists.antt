-- Laws of All, Any and AllPairs.
use Prim.Native.Nat.{ℕ, zero, suc, ◌<◌}
use mathlib.Core.List.{List, [], ◌∷◌, ◌++◌}
use mathlib.Core.Logic.{inl, inr}
use native.Mathlib.Nat.{not-suc-le-zero, le_of_suc-le-suc}
use native.Mathlib.Omega.{arith}
use lib.ListN.{length, get_or}
use Rattle.semantics.specs.Lists.{All, Any, AllPairs}

module _ {A : Type 0} where
  pub all_append : (Q : A → Type 0) (xs ys : List A) → All Q xs → All Q ys → All Q (xs ++ ys)
  all_append Q [] ys h k = k
  all_append Q (x ∷ xs) ys h k = (h.0, all_append Q xs ys h.1 k)

  pub all_map : (Q R : A → Type 0) → ((x : A) → Q x → R x) → (xs : List A) → All Q xs → All R xs
  all_map Q R f [] h = tt
  all_map Q R f (x ∷ xs) h = (f x h.0, all_map Q R f xs h.1)

  pub any_left : (Q : A → Type 0) (xs ys : List A) → Any Q xs → Any Q (xs ++ ys)
  any_left Q [] ys h = absurd h
  any_left Q (x ∷ xs) ys (inl h) = inl h
  any_left Q (x ∷ xs) ys (inr h) = inr (any_left Q xs ys h)

  pub any_right : (Q : A → Type 0) (xs ys : List A) → Any Q ys → Any Q (xs ++ ys)
  any_right Q [] ys h = h
  any_right Q (x ∷ xs) ys h = inr (any_right Q xs ys h)

  pub any_map : (Q R : A → Type 0) → ((x : A) → Q x → R x) → (xs : List A) → Any Q xs → Any R xs
  any_map Q R f [] h = h
  any_map Q R f (x ∷ xs) (inl h) = inl (f x h)
  any_map Q R f (x ∷ xs) (inr h) = inr (any_map Q R f xs h)

  pub pairs_append : (R : A → A → Type 0) (xs ys : List A) → AllPairs R xs → AllPairs R ys → All (λ x. All (R x) ys) xs → AllPairs R (xs ++ ys)
  pairs_append R [] ys h k c = k
  pairs_append R (x ∷ xs) ys h k c = (all_append (R x) xs ys h.0 c.0, pairs_append R xs ys h.1 k c.1)

  pub all_at : (Q : A → Type 0) (d : A) (xs : List A) → All Q xs → (i : ℕ) → i < length xs → Q (get_or xs i d)
  all_at Q d [] h i l = absurd (not-suc-le-zero l)
  all_at Q d (x ∷ xs) h zero l = h.0
  all_at Q d (x ∷ xs) h (suc i) l = all_at Q d xs h.1 i (le_of_suc-le-suc l)

  pub pairs_at_lem : (R : A → A → Type 0) (d : A) (xs : List A) → AllPairs R xs → (i k : ℕ) → i < k → k < length xs → R (get_or xs i d) (get_or xs k d)
  pairs_at_lem R d [] h i k l m = absurd (not-suc-le-zero m)
  pairs_at_lem R d (x ∷ xs) h i zero l m = absurd (not-suc-le-zero l)
  pairs_at_lem R d (x ∷ xs) h zero (suc k) l m = all_at (R x) d xs h.0 k (le_of_suc-le-suc m)
  pairs_at_lem R d (x ∷ xs) h (suc i) (suc k) l m = pairs_at_lem R d xs h.1 i k (le_of_suc-le-suc l) (le_of_suc-le-suc m)

  pub any_at : (Q : A → Type 0) (d : A) (xs : List A) → Any Q xs → (i : ℕ) × (i < length xs) × Q (get_or xs i d)
  any_at Q d [] h = absurd h
  any_at Q d (x ∷ xs) (inl h) = (0, omega arith, h)
  any_at Q d (x ∷ xs) (inr h) = let r = any_at Q d xs h in (suc r.0, omega (arith, r.1), r.2)
