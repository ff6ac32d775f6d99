-- One turn of each loop over a restriction's cells, as a step of what its function is equated with.
use Prim.Native.Nat.{ℕ, zero, suc, ◌+◌, ◌-◌, ◌*◌, ◌/◌, ◌≤◌, ◌<◌, min}
use mathlib.Core.Path.{◌≡◌, refl}
use mathlib.Core.Bool.{Bool, true, false, cond}
use mathlib.Core.List.{List, [], ◌∷◌}
use native.Mathlib.Omega.{arith}
use native.Mathlib.Decide.{dec_le}
use native.Mathlib.Numerals.{add-one}
use lib.Dec.{eqb}
use lib.ListN.{length, drop, get_or, length-drop}
use lib.Seq.{drop-cons}
use borrow.Author.Tests.{eqb-true, eq-eqb, ne_eqb}
use Rattle.std.specs.Prelude.{Ok}
use Rattle.restrictions.specs.Twins.Restricting.{restrict_answer, either_order, stands_cells, kind_cells, simplify_kind, simplify_from}

-- the two cells of the i-th non-equality, and what is behind them
pub two_cells : (q : List ℕ) (i : ℕ) → i < length q / 2 → drop (2 * i) q ≡ get_or q (2 * i) 0 ∷ get_or q (2 * i + 1) 0 ∷ drop (2 * (i + 1)) q
two_cells q i h =
    let a : 2 * i < length q = omega arith in
    let b : suc (2 * i) < length q = omega arith in
    let e : 2 * (i + 1) ≡ suc (suc (2 * i)) = omega arith in
    rw (e, add-one (2 * i), drop-cons q (2 * i) 0 a, drop-cons q (suc (2 * i)) 0 b)

module _ (x y a b : ℕ) where
  pub either_written : a ≡ x → b ≡ y → either_order x y a b ≡ true
  either_written e f = rw (eq-eqb a x e, eq-eqb b y f)

  pub either_turned : a ≡ y → b ≡ x → either_order x y a b ≡ true
  either_turned e f = rw (eq-eqb a y e, eq-eqb b x f) (pick (eqb a x) (eqb b y))
    where
      pick : (s t : Bool) → cond s (cond t true true) true ≡ true
      pick true true = refl
      pick true false = refl
      pick false t = refl

  pub either_none : (a ≡ x → b ≡ y → ⊥) → (a ≡ y → b ≡ x → ⊥) → either_order x y a b ≡ false
  either_none f g = pick (eqb a x) refl (eqb a y) refl
    where
      pick : (s : Bool) → eqb a x ≡ s → (t : Bool) → eqb a y ≡ t → cond s (cond (eqb b y) true (cond t (eqb b x) false)) (cond t (eqb b x) false) ≡ false
      pick true e true k = rw (ne_eqb b y (f (eqb-true a x e)), ne_eqb b x (g (eqb-true a y k)))
      pick true e false k = rw (ne_eqb b y (f (eqb-true a x e)))
      pick false e true k = rw (ne_eqb b x (g (eqb-true a y k)))
      pick false e false k = refl

short : (n x y : ℕ) (s : List ℕ) → length s ≤ 1 → stands_cells n x y s ≡ false
unfolding stands_cells
short zero x y s h = refl
short (suc n) x y [] h = refl
short (suc n) x y (a ∷ []) h = refl
short (suc n) x y (a ∷ (b ∷ s)) h = absurd (omega arith)

module _ (n x y : ℕ) (q : List ℕ) (i : ℕ) where
  pub stands_turn : i < min n (length q / 2) → stands_cells (n - i) x y (drop (2 * i) q) ≡
      cond (either_order x y (get_or q (2 * i) 0) (get_or q (2 * i + 1) 0)) true (stands_cells (n - (i + 1)) x y (drop (2 * (i + 1)) q))
  unfolding stands_cells
  stands_turn h =
      let l : n - i ≡ suc (n - (i + 1)) = omega arith in
      let b : i < length q / 2 = omega arith in
      rw (l, two_cells q i b)

  pub stands_end : min n (length q / 2) ≤ i → stands_cells (n - i) x y (drop (2 * i) q) ≡ false
  unfolding stands_cells
  stands_end h = go (dec_le n i)
    where
      go : Dec (n ≤ i) → stands_cells (n - i) x y (drop (2 * i) q) ≡ false
      go (yes l) = let e : n - i ≡ 0 = omega arith in rw e
      go (no l) = short (n - i) x y (drop (2 * i) q) (omega (arith, length-drop (2 * i) q))

module _ (count i kept : ℕ) (q : List ℕ) where
  pub simplify_turn : i < count → simplify_from (count - i) i kept q ≡
      simplify_kind (simplify_from (count - (i + 1)) (i + 1)) kept (get_or q (2 * i) 0) (get_or q (2 * i + 1) 0) q (kind_cells kept (get_or q (2 * i) 0) (get_or q (2 * i + 1) 0) q)
  unfolding simplify_from
  simplify_turn h = let l : count - i ≡ suc (count - (i + 1)) = omega arith in rw l

  pub simplify_end : count ≤ i → simplify_from (count - i) i kept q ≡ restrict_answer (Ok kept) q
  unfolding simplify_from
  simplify_end h = let l : count - i ≡ 0 = omega arith in rw l
