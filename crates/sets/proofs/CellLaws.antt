-- What the operations on runs of cells are where the cells hold trees.
use Prim.Native.Nat.{ℕ, suc, ◌+◌, ◌-◌, ◌*◌, ◌≤◌, ◌<◌}
use mathlib.Core.Path.{◌≡◌, refl, ap, ap₂, ◌∙◌, sym as inv}
use mathlib.Core.Bool.{Bool, true, false, cond, ◌&&◌, ◌||◌}
use mathlib.Core.List.{List, [], ◌∷◌, ◌++◌, append_assoc, append-nil}
use mathlib.Core.Logic.{◌⊎◌, inl, inr}
use native.Mathlib.Omega.{arith}
use lib.Dec.{eqb, leb}
use lib.ListN.{length, drop, length-append}
use lib.Seq.{paste, drop-drop, drop-append_seam, take-append_seam}
use borrow.Author.Tests.{eqb-true, eqb-false, eq-eqb, ne_eqb, le-leb, lt-leb}
use Rattle.expressions.specs.Expression.{AtomicExp, sym, avar, Exp, atm, evar, pair, nodes, nodes_all}
use Rattle.expressions.specs.Restriction.{Restriction, nodes_restriction}
use Rattle.expressions.specs.Intersection.{occurs}
use Rattle.sets.specs.Twins.Copying.{part, not_copied, copied, walk_trees, tree_end, any_cell}
use Rattle.sets.specs.Cells.{pair_code, evar_code, atomic_code, cells, cells_all, restriction_cells}

-- the codes tell the kinds of node apart, and the nodes of a kind
pub atomic_not_pair : (x : AtomicExp) → atomic_code x ≡ pair_code → ⊥
atomic_not_pair (sym z) e = omega arith
atomic_not_pair (avar n) e = omega arith

pub atomic_not_evar : (x : AtomicExp) (n : ℕ) → atomic_code x ≡ evar_code n → ⊥
atomic_not_evar (sym z) n e = omega arith
atomic_not_evar (avar m) n e = omega arith

pub atomic_injective : (x y : AtomicExp) → atomic_code x ≡ atomic_code y → x ≡ y
atomic_injective (sym y) (sym z) e = ap sym (omega arith)
atomic_injective (sym y) (avar n) e = absurd (omega arith)
atomic_injective (avar m) (sym z) e = absurd (omega arith)
atomic_injective (avar m) (avar n) e = ap avar (omega arith)

pub code_test : (tag m n : ℕ) → eqb (4 * m + tag) (4 * n + tag) ≡ eqb m n
code_test tag m n = pick (eqb m n) refl
  where
    pick : (t : Bool) → eqb m n ≡ t → eqb (4 * m + tag) (4 * n + tag) ≡ t
    pick true e = eq-eqb (4 * m + tag) (4 * n + tag) (ap (λ (k : ℕ). 4 * k + tag) (eqb-true m n e))
    pick false e = ne_eqb (4 * m + tag) (4 * n + tag) (λ q. eqb-false m n e (omega arith))

-- a cell a node
pub cells_nodes : (c : Exp) → length (cells c) ≡ nodes c
cells_nodes (atm x) = refl
cells_nodes (evar n) = refl
cells_nodes (pair c d) = omega (arith, length-append (cells c) (cells d), cells_nodes c, cells_nodes d)

pub cells_all_nodes : (cs : List Exp) → length (cells_all cs) ≡ nodes_all cs
cells_all_nodes [] = refl
cells_all_nodes (c ∷ cs) = omega (arith, length-append (cells c) (cells_all cs), cells_nodes c, cells_all_nodes cs)

pub restriction_cells_nodes : (qs : Restriction) → length (restriction_cells qs) ≡ nodes_restriction qs
restriction_cells_nodes [] = refl
restriction_cells_nodes (q ∷ qs) = omega (arith, restriction_cells_nodes qs)

heads : {m n : ℕ} {r s : List ℕ} → m ∷ r ≡ n ∷ s → m ≡ n
heads e = cc

tails : {m n : ℕ} {r s : List ℕ} → m ∷ r ≡ n ∷ s → r ≡ s
tails e = cc

-- No tree's cells are a proper beginning of another's.
pub cells_prefix : (c d : Exp) (r s : List ℕ) → cells c ++ r ≡ cells d ++ s → (c ≡ d) × (r ≡ s)
cells_prefix (atm x) (atm y) r s e = (ap atm (atomic_injective x y (heads e)), tails e)
cells_prefix (atm x) (evar n) r s e = absurd (atomic_not_evar x n (heads e))
cells_prefix (atm x) (pair c d) r s e = absurd (atomic_not_pair x (heads e))
cells_prefix (evar n) (atm y) r s e = absurd (atomic_not_evar y n (inv (heads e)))
cells_prefix (evar m) (evar n) r s e = (ap evar (omega (arith, heads e)), tails e)
cells_prefix (evar n) (pair c d) r s e = absurd (omega (arith, heads e))
cells_prefix (pair a b) (atm y) r s e = absurd (atomic_not_pair y (inv (heads e)))
cells_prefix (pair a b) (evar n) r s e = absurd (omega (arith, heads e))
cells_prefix (pair a b) (pair c d) r s e =
    let h : cells a ++ (cells b ++ r) ≡ cells c ++ (cells d ++ s) = simp append_assoc at (tails e) in
    let one = cells_prefix a c (cells b ++ r) (cells d ++ s) h in
    let two = cells_prefix b d r s one.1 in
    (ap₂ pair one.0 two.0, two.1)

pub cells_injective : (c d : Exp) → cells c ≡ cells d → c ≡ d
cells_injective c d e = (cells_prefix c d [] [] (simp append-nil e)).0

pub walk_cells : (c : Exp) (rest : List ℕ) (k : ℕ) → walk_trees (cells c ++ rest) (suc k) ≡ nodes c + walk_trees rest k
unfolding walk_trees
walk_cells (atm x) rest k = simp (ne_eqb (atomic_code x) 4 (atomic_not_pair x))
walk_cells (evar n) rest k = simp (ne_eqb (evar_code n) 4 (omega arith))
walk_cells (pair c d) rest k =
    let h : walk_trees ((cells c ++ cells d) ++ rest) (suc (suc k)) ≡ nodes c + (nodes d + walk_trees rest k) =
    rw (append_assoc (cells c) (cells d) rest) (omega (arith, walk_cells c (cells d ++ rest) (suc k), walk_cells d rest k)) in
    omega arith

walk_zero : (l : List ℕ) → walk_trees l 0 ≡ 0
unfolding walk_trees
walk_zero [] = refl
walk_zero (c ∷ l) = refl

-- the tree c stands at a place of s, with `rest` behind it
pub record Stands (s : List ℕ) (at : ℕ) (c : Exp) (rest : List ℕ) : Type 0 where
  pub here : drop at s ≡ cells c ++ rest

module _ {s : List ℕ} {at : ℕ} {c : Exp} {rest : List ℕ} (t : Stands s at c rest) where
  pub stands_end : tree_end s at ≡ at + nodes c
  unfolding tree_end
  stands_end = rw t.here (omega (arith, walk_cells c rest 0, walk_zero rest))

  end_cells : tree_end s at ≡ at + length (cells c)
  end_cells = stands_end ∙ ap (λ (n : ℕ). at + n) (inv (cells_nodes c))

  pub stands_behind : drop (tree_end s at) s ≡ rest
  stands_behind = rw (end_cells, ← (drop-drop (length (cells c)) at s), t.here) (drop-append_seam (cells c) rest)

  pub stands_part : part at (tree_end s at) s ≡ cells c
  stands_part =
      let n : tree_end s at - at ≡ length (cells c) = omega (arith, end_cells) in
      rw (n, t.here) (take-append_seam (cells c) rest)

pub tree_end_lem : (before : List ℕ) (c : Exp) (rest : List ℕ) → tree_end (before ++ (cells c ++ rest)) (length before) ≡ length before + nodes c
tree_end_lem before c rest = stands_end {c = c} {rest = rest} (record { here = drop-append_seam before (cells c ++ rest) })

-- The head of a pair stands behind the pair's own cell, and the tail behind the head.
module _ {s : List ℕ} {at : ℕ} {c d : Exp} {rest : List ℕ} (t : Stands s at (pair c d) rest) where
  pub head_stands : Stands s (at + 1) c (cells d ++ rest)
  head_stands = record { here = inv (drop-drop 1 at s) ∙ ap (λ (l : List ℕ). drop 1 l) t.here ∙ append_assoc (cells c) (cells d) rest }

  pub tail_stands : Stands s (tree_end s (at + 1)) d rest
  tail_stands = record { here = stands_behind head_stands }

any_append : (x : ℕ) (s t : List ℕ) → any_cell x (s ++ t) ≡ (any_cell x s || any_cell x t)
unfolding any_cell
any_append x [] t = refl
any_append x (c ∷ s) t = pick (eqb c x) (any_append x s t)
  where
    pick : (b : Bool) → any_cell x (s ++ t) ≡ (any_cell x s || any_cell x t) → cond b true (any_cell x (s ++ t)) ≡ (cond b true (any_cell x s) || any_cell x t)
    pick true h = refl
    pick false h = h

pub stands_occurs : (n : ℕ) (c : Exp) → any_cell (evar_code n) (cells c) ≡ occurs n c
unfolding any_cell
stands_occurs n (atm x) = rw (ne_eqb (atomic_code x) (evar_code n) (atomic_not_evar x n))
stands_occurs n (evar m) = rw (code_test 2 m n) (pick (eqb m n))
  where
    pick : (b : Bool) → cond b true false ≡ b
    pick true = refl
    pick false = refl
stands_occurs n (pair c d) = rw (ne_eqb pair_code (evar_code n) (omega arith), any_append (evar_code n) (cells c) (cells d)) (ap₂ ◌||◌ (stands_occurs n c) (stands_occurs n d))

-- what `copy` answers where both have the cells, and where one has not
module _ (src : List ℕ) (from n : ℕ) (dst : List ℕ) (at : ℕ) where
  pub copied_done : from + n ≤ length src → at + n ≤ length dst → copied src from n dst at ≡ record { done = true; cells = paste dst at (drop from src) n }
  copied_done h l = rw (le-leb (from + n) (length src) h, le-leb (at + n) (length dst) l)

  pub copied_not : (length src < from + n) ⊎ (length dst < at + n) → copied src from n dst at ≡ not_copied dst
  copied_not (inl h) = rw (lt-leb (from + n) (length src) h)
  copied_not (inr h) = rw (lt-leb (at + n) (length dst) h) (pick (leb (from + n) (length src)))
    where
      pick : (b : Bool) → cond (b && false) (record { done = true; cells = paste dst at (drop from src) n }) (not_copied dst) ≡ not_copied dst
      pick true = refl
      pick false = refl
