-- One turn of each loop over cells, as a step of what its function is equated with.
use Prim.Native.Nat.{ℕ, zero, suc, ◌+◌, ◌-◌, ◌*◌, ◌≤◌, ◌<◌, min}
use mathlib.Core.Path.{◌≡◌, refl, ap}
use mathlib.Core.Bool.{Bool, true, false, cond}
use mathlib.Core.List.{List, [], ◌∷◌}
use native.Mathlib.Omega.{arith}
use native.Mathlib.Decide.{dec_le}
use native.Mathlib.Numerals.{add-one}
use lib.Dec.{leb, ltb, eqb}
use lib.ListN.{length, drop, get_or, set, drop_of_length-le}
use lib.Seq.{drop-cons, take-nil}
use borrow.Author.Tests.{eq-eqb, ne_eqb, ltb-false, leb-false}
use Rattle.sets.specs.Twins.Copying.{part, one_pair, four_pairs, behind_four, walk_trees, any_cell}
use Rattle.sets.specs.Twins.Fill.{renamed}

-- the part from i on: a cell and the part behind it, or nothing
pub part_cons : (s : List ℕ) (i to : ℕ) → i < min to (length s) → part i to s ≡ get_or s i 0 ∷ part (i + 1) to s
part_cons s i to h =
    let n : to - i ≡ suc (to - (i + 1)) = omega arith in
    let b : i < length s = omega arith in
    rw (n, drop-cons s i 0 b, ← add-one i)

pub part_end : (s : List ℕ) (i to : ℕ) → min to (length s) ≤ i → part i to s ≡ []
part_end s i to h = go (dec_le to i)
  where
    go : Dec (to ≤ i) → part i to s ≡ []
    go (yes l) = let n : to - i ≡ 0 = omega arith in rw n
    go (no l) = let b : length s ≤ i = omega arith in rw (drop_of_length-le s b, take-nil)

pub walk_none : (l : List ℕ) (need : ℕ) → need ≡ 0 → walk_trees l need ≡ 0
unfolding walk_trees
walk_none [] need e = refl
walk_none (n ∷ l) need e = rw e

pub walk_end : (l : List ℕ) (i need : ℕ) → length l ≤ i → walk_trees (drop i l) need ≡ 0
unfolding walk_trees
walk_end l i need h = rw (drop_of_length-le l h)

-- one cell on: at a pair one tree more is needed, at a leaf one less
module _ (s : List ℕ) (i : ℕ) (in-s : i < length s) where
  pub walk_pair : (need next : ℕ) → (need ≡ 0 → ⊥) → get_or s i 0 ≡ 4 → next ≡ need + 1 → walk_trees (drop i s) need ≡ 1 + walk_trees (drop (i + 1) s) next
  unfolding walk_trees
  walk_pair zero next p e q = absurd (p refl)
  walk_pair (suc k) next p e q = let n : next ≡ suc (suc k) = omega arith in rw (add-one i, drop-cons s i 0, eq-eqb (get_or s i 0) 4, n)

  pub walk_leaf : (need next : ℕ) → (need ≡ 0 → ⊥) → (get_or s i 0 ≡ 4 → ⊥) → next ≡ need - 1 → walk_trees (drop i s) need ≡ 1 + walk_trees (drop (i + 1) s) next
  unfolding walk_trees
  walk_leaf zero next p e q = absurd (p refl)
  walk_leaf (suc k) next p e q = let n : next ≡ k = omega arith in rw (add-one i, drop-cons s i 0, ne_eqb (get_or s i 0) 4, n)

-- four cells on, where the needed trees do not end in them
one_at_most : (b : Bool) → cond b 1 0 ≤ 1
one_at_most true = omega arith
one_at_most false = omega arith

module _ (s : List ℕ) where
  walk_one : (i need j next : ℕ) → i < length s → 0 < need → j ≡ i + 1 → next ≡ need + 2 * one_pair (get_or s i 0) - 1 → walk_trees (drop i s) need ≡ 1 + walk_trees (drop j s) next
  unfolding walk_trees
  walk_one i zero j next l p e f = absurd (omega arith)
  walk_one i (suc k) j next l p e f = rw (e, f, add-one i, drop-cons s i 0 l) (ap (λ (n : ℕ). 1 + walk_trees (drop (suc i) s) n) (pick (eqb (get_or s i 0) 4)))
    where
      pick : (b : Bool) → cond b (suc (suc k)) k ≡ suc k + 2 * cond b 1 0 - 1
      pick true = omega arith
      pick false = omega arith

  pub walk_four : (i need n : ℕ) → n ≡ behind_four s i need → 0 < n → (i + 4 ≤ length s) × (n ≤ need + 4) × (walk_trees (drop i s) need ≡ 4 + walk_trees (drop (i + 4) s) n)
  walk_four i need n e more = pick (ltb (length s) 4) (ltb (length s - 4) i) (leb (need + four_pairs s i) 4) refl refl refl e
    where
      small : (c : ℕ) → one_pair c ≤ 1
      small c = one_at_most (eqb c 4)

      pick : (a b c : Bool) → ltb (length s) 4 ≡ a → ltb (length s - 4) i ≡ b → leb (need + four_pairs s i) 4 ≡ c → n ≡ cond a 0 (cond b 0 (cond c 0 (need + 2 * four_pairs s i - 4))) →
          (i + 4 ≤ length s) × (n ≤ need + 4) × (walk_trees (drop i s) need ≡ 4 + walk_trees (drop (i + 4) s) n)
      pick true b c u v w z = absurd (omega arith)
      pick false true c u v w z = absurd (omega arith)
      pick false false true u v w z = absurd (omega arith)
      pick false false false u v w z =
          let here : i + 4 ≤ length s = omega (arith, ltb-false (length s) 4 u, ltb-false (length s - 4) i v) in
          let deep : 4 < need + four_pairs s i = leb-false (need + four_pairs s i) 4 w in
          let a = small (get_or s i 0) in
          let b = small (get_or s (i + 1) 0) in
          let c = small (get_or s (i + 2) 0) in
          let d = small (get_or s (i + 3) 0) in
          let k = need + 2 * one_pair (get_or s i 0) - 1 in
          let l = k + 2 * one_pair (get_or s (i + 1) 0) - 1 in
          let m = l + 2 * one_pair (get_or s (i + 2) 0) - 1 in (
            here,
            omega (arith, a, b, c, d, deep),
            omega (
              arith,
              walk_one i need (i + 1) k (omega arith) (omega (arith, a, b, c, d, deep)) refl refl,
              walk_one (i + 1) k (i + 2) l (omega arith) (omega (arith, a, b, c, d, deep)) (omega arith) refl,
              walk_one (i + 2) l (i + 3) m (omega arith) (omega (arith, a, b, c, d, deep)) (omega arith) refl,
              walk_one (i + 3) m (i + 4) n (omega arith) (omega (arith, a, b, c, d, deep)) (omega arith) (omega (arith, a, b, c, d, deep)),
            ),
          )

module _ (s : List ℕ) (i to x : ℕ) where
  pub any_here : i < min to (length s) → get_or s i 0 ≡ x → any_cell x (part i to s) ≡ true
  unfolding any_cell
  any_here h e = rw (part_cons s i to h, eq-eqb (get_or s i 0) x e)

  pub any_later : i < min to (length s) → (get_or s i 0 ≡ x → ⊥) → any_cell x (part i to s) ≡ any_cell x (part (i + 1) to s)
  unfolding any_cell
  any_later h e = rw (part_cons s i to h, ne_eqb (get_or s i 0) x e)

  pub any_none : min to (length s) ≤ i → any_cell x (part i to s) ≡ false
  unfolding any_cell
  any_none h = rw (part_end s i to h)

module _ (x y : ℕ) where
  pub renamed_none : (s : List ℕ) → renamed 0 x y s ≡ s
  unfolding renamed
  renamed_none s = refl

  -- what is not reached yet is as it was
  pub renamed_at : (i : ℕ) (s : List ℕ) → get_or (renamed i x y s) i 0 ≡ get_or s i 0
  unfolding renamed
  renamed_at zero s = refl
  renamed_at (suc i) [] = refl
  renamed_at (suc i) (c ∷ s) = renamed_at i s

  pub renamed_next : (i : ℕ) (s : List ℕ) → i < length s → set (renamed i x y s) i (cond (eqb (get_or s i 0) x) y (get_or s i 0)) ≡ renamed (suc i) x y s
  unfolding renamed
  renamed_next i [] h = absurd (omega arith)
  renamed_next zero (c ∷ s) h = refl
  renamed_next (suc i) (c ∷ s) h = ap (λ (l : List ℕ). cond (eqb c x) y c ∷ l) (renamed_next i s (omega arith))

  pub renamed_min : (n : ℕ) (s : List ℕ) → renamed (min n (length s)) x y s ≡ renamed n x y s
  unfolding renamed
  renamed_min zero s = let e : min 0 (length s) ≡ 0 = omega arith in rw e
  renamed_min (suc n) [] = let e : min (suc n) 0 ≡ 0 = omega arith in rw e
  renamed_min (suc n) (c ∷ s) =
      let e : min (suc n) (suc (length s)) ≡ suc (min n (length s)) = omega arith in
      rw e (ap (λ (l : List ℕ). cond (eqb c x) y c ∷ l) (renamed_min n s))
