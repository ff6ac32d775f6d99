-- One turn of each loop over a text, over bytes and over the cells of a tree, as a step of what is written.
use Prim.Native.Nat.{ℕ, suc, ◌+◌, ◌-◌, ◌≤◌, ◌<◌}
use mathlib.Core.Path.{◌≡◌, ap, ◌∙◌}
use mathlib.Core.List.{List, [], ◌∷◌, ◌++◌}
use native.Mathlib.Omega.{arith}
use native.Mathlib.Numerals.{add-one}
use borrow.Author.Tests.{lt-ltb, le-ltb, eq-eqb, ne_eqb}
use lib.ListN.{length, get_or, take, drop, replicate}
use lib.Seq.{drop-cons}
use Rattle.language.specs.Bytes.{txt}
use Rattle.window.specs.Twins.TreeText.{leaf_text, closings, behind_leaf, node_text, tree_from, tree_text}

-- the first cells
pub part_front : (s : List ℕ) (n : ℕ) → take (n - 0) (drop 0 s) ≡ take n s
part_front s n = let m : n - 0 ≡ n = omega arith in ap (λ (k : ℕ). take k s) m

-- one byte of a text, and one of those that are repeated
pub text_step : (text : List ℕ) (i : ℕ) → i < length text → drop i text ≡ (get_or text i 0 ∷ []) ++ drop (i + 1) text
text_step text i h = rw (add-one i) (drop-cons text i 0 h)

pub repeat_start : (n b : ℕ) → replicate n b ≡ replicate (n - 0) b
repeat_start n b = let e : n ≡ n - 0 = omega arith in ap (λ (k : ℕ). replicate k b) e

pub repeat_step : (n i b : ℕ) → i < n → replicate (n - i) b ≡ (b ∷ []) ++ replicate (n - (i + 1)) b
repeat_step n i b h = let e : n - i ≡ suc (n - (i + 1)) = omega arith in ap (λ (k : ℕ). replicate k b) e

pub repeat_end : (n i b : ℕ) → n ≤ i → replicate (n - i) b ≡ []
repeat_end n i b h = let e : n - i ≡ 0 = omega arith in ap (λ (k : ℕ). replicate k b) e

-- going back over one cell
module _ (s : List ℕ) where
  pub closings_end : (i t : ℕ) → i ≤ 0 → closings s i t ≡ 0
  unfolding closings
  closings_end i t h = let z : i ≡ 0 = omega arith in rw z

  module _ (i j t : ℕ) (back : i ≡ suc j) where
    pub closings_leaf : (get_or s j 0 ≡ 4 → ⊥) → closings s i t ≡ closings s j (t + 1)
    unfolding closings
    closings_leaf e = rw (back, ne_eqb (get_or s j 0) 4 e)

    module _ (e : get_or s j 0 ≡ 4) where
      pub closings_waits : t < 2 → closings s i t ≡ 0
      unfolding closings
      closings_waits h = rw (back, eq-eqb (get_or s j 0) 4 e, lt-ltb t 2 h)

      pub closings_ends : 2 ≤ t → t - 1 ≡ 1 → closings s i t ≡ 1 + closings s j (t - 1)
      unfolding closings
      closings_ends h k = rw (back, eq-eqb (get_or s j 0) 4 e, le-ltb t 2 h, eq-eqb (t - 1) 1 k)

      pub closings_joins : 2 ≤ t → (t - 1 ≡ 1 → ⊥) → closings s i t ≡ closings s j (t - 1)
      unfolding closings
      closings_joins h k = rw (back, eq-eqb (get_or s j 0) 4 e, le-ltb t 2 h, ne_eqb (t - 1) 1 k)

pub tree_start : (name : ℕ → List ℕ) (s : List ℕ) → tree_text name s ≡ tree_from name s (length s - 0) 0
unfolding tree_text
tree_start name s = let n : length s ≡ length s - 0 = omega arith in ap (λ (k : ℕ). tree_from name s k 0) n

module _ (name : ℕ → List ℕ) (s : List ℕ) (i : ℕ) where
  pub tree_end_lem : length s ≤ i → tree_from name s (length s - i) i ≡ []
  unfolding tree_from
  tree_end_lem h = let z : length s - i ≡ 0 = omega arith in rw z

  tree_step : i < length s → tree_from name s (length s - i) i ≡ node_text name s i ++ tree_from name s (length s - (i + 1)) (i + 1)
  unfolding tree_from
  tree_step h = let z : length s - i ≡ suc (length s - (i + 1)) = omega arith in rw z

  -- the two kinds of node
  pub tree_pair : i < length s → get_or s i 0 ≡ 4 → tree_from name s (length s - i) i ≡ txt "(cons " ++ tree_from name s (length s - (i + 1)) (i + 1)
  unfolding node_text
  tree_pair h e = tree_step h ∙ rw (eq-eqb (get_or s i 0) 4 e)

  pub tree_leaf : i < length s → (get_or s i 0 ≡ 4 → ⊥) → tree_from name s (length s - i) i ≡ (leaf_text name (get_or s i 0) ++ behind_leaf s (i + 1)) ++ tree_from name s (length s - (i + 1)) (i + 1)
  unfolding node_text
  tree_leaf h e = tree_step h ∙ rw (ne_eqb (get_or s i 0) 4 e)
