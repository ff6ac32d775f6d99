-- What filling and renaming are where the cells hold trees: substitution, if there is room for what it makes.
use Prim.Native.Nat.{ℕ}
use mathlib.Core.Path.{◌≡◌, refl, ap, sym as inv}
use mathlib.Core.Bool.{Bool, true, false, cond}
use mathlib.Core.List.{List, [], ◌∷◌, ◌++◌, map, append_assoc, append-nil}
use native.Mathlib.Omega.{arith}
use lib.Dec.{eqb}
use lib.ListN.{length}
use borrow.Author.Tests.{ne_eqb}
use Rattle.expressions.specs.Expression.{AtomicExp, sym, avar, Exp, atm, evar, pair}
use Rattle.expressions.specs.Substitution.{apply_atomic, apply, apply_all, subst_e, subst_a}
use Rattle.expressions.specs.Restriction.{Restriction, apply_non_equality, nodes_restriction}
use Rattle.sets.specs.Twins.Copying.{part, tree_end}
use Rattle.sets.specs.Cells.{pair_code, evar_code, avar_code, atomic_code, cells, cells_all, restriction_cells}
use Rattle.sets.specs.Twins.Fill.{spread, renamed}
use Rattle.sets.proofs.CellLaws.{atomic_not_evar, code_test, restriction_cells_nodes, Stands, stands_part}

pub spread_append : (x : ℕ) (v s t : List ℕ) → spread x v (s ++ t) ≡ spread x v s ++ spread x v t
spread_append x v [] t = refl
spread_append x v (c ∷ s) t = rw (spread_append x v s t) (inv (append_assoc (cond (eqb c x) v (c ∷ [])) (spread x v s) (spread x v t)))

-- [Xe ↦ d]
module _ (n : ℕ) (d : Exp) where
  one_e : (m : ℕ) (b : Bool) → cond b (cells d) (evar_code m ∷ []) ++ [] ≡ cells (cond b d (evar m))
  one_e m true = append-nil (cells d)
  one_e m false = refl

  atomic_e : (x : AtomicExp) → atomic_code x ≡ atomic_code (apply_atomic (subst_e n d) x)
  atomic_e (sym z) = refl
  atomic_e (avar m) = refl

  pub spread_apply_e : (c : Exp) → spread (evar_code n) (cells d) (cells c) ≡ cells (apply (subst_e n d) c)
  spread_apply_e (atm x) = rw (ne_eqb (atomic_code x) (evar_code n) (atomic_not_evar x n)) (ap (λ (k : ℕ). k ∷ []) (atomic_e x))
  spread_apply_e (evar m) = rw (code_test 2 m n) (one_e m (eqb m n))
  spread_apply_e (pair a b) =
      rw (ne_eqb pair_code (evar_code n) (omega arith), spread_append (evar_code n) (cells d) (cells a) (cells b), spread_apply_e a, spread_apply_e b)

  pub spread_apply_all_e : (cs : List Exp) → spread (evar_code n) (cells d) (cells_all cs) ≡ cells_all (apply_all (subst_e n d) cs)
  spread_apply_all_e [] = refl
  spread_apply_all_e (c ∷ cs) = rw (spread_append (evar_code n) (cells d) (cells c) (cells_all cs), spread_apply_e c, spread_apply_all_e cs)

  -- of a tree that stands in a storage
  pub spread_tree_e : {s : List ℕ} {at : ℕ} {c : Exp} {rest : List ℕ} → Stands s at c rest →
      cells (apply (subst_e n d) c) ≡ spread (evar_code n) (cells d) (part at (tree_end s at) s)
  spread_tree_e {c = c} t = rw (stands_part t) (inv (spread_apply_e c))

-- A `?e` stands in no non-equality.
pub spread_restriction_e : (n : ℕ) (v : List ℕ) (qs : Restriction) → spread (evar_code n) v (restriction_cells qs) ≡ restriction_cells qs
spread_restriction_e n v [] = refl
spread_restriction_e n v (q ∷ qs) =
    rw (ne_eqb (atomic_code q.left) (evar_code n) (atomic_not_evar q.left n), ne_eqb (atomic_code q.right) (evar_code n) (atomic_not_evar q.right n), spread_restriction_e n v qs)

-- [Xa ↦ x]
module _ (n : ℕ) (x : AtomicExp) where
  one_a : (y : AtomicExp) → cond (eqb (atomic_code y) (avar_code n)) (atomic_code x ∷ []) (atomic_code y ∷ []) ≡ atomic_code (apply_atomic (subst_a n x) y) ∷ []
  one_a (sym z) = rw (ne_eqb (atomic_code (sym z)) (avar_code n) (omega arith))
  one_a (avar m) = rw (code_test 3 m n) (pick (eqb m n))
    where
      pick : (b : Bool) → cond b (atomic_code x ∷ []) (avar_code m ∷ []) ≡ atomic_code (cond b x (avar m)) ∷ []
      pick true = refl
      pick false = refl

  pub spread_apply_a : (c : Exp) → spread (avar_code n) (atomic_code x ∷ []) (cells c) ≡ cells (apply (subst_a n x) c)
  spread_apply_a (atm y) = rw (one_a y)
  spread_apply_a (evar m) = rw (ne_eqb (evar_code m) (avar_code n) (omega arith))
  spread_apply_a (pair a b) =
      rw (ne_eqb pair_code (avar_code n) (omega arith), spread_append (avar_code n) (atomic_code x ∷ []) (cells a) (cells b), spread_apply_a a, spread_apply_a b)

  pub spread_apply_all_a : (cs : List Exp) → spread (avar_code n) (atomic_code x ∷ []) (cells_all cs) ≡ cells_all (apply_all (subst_a n x) cs)
  spread_apply_all_a [] = refl
  spread_apply_all_a (c ∷ cs) = rw (spread_append (avar_code n) (atomic_code x ∷ []) (cells c) (cells_all cs), spread_apply_a c, spread_apply_all_a cs)

  pub spread_restriction_a : (qs : Restriction) → spread (avar_code n) (atomic_code x ∷ []) (restriction_cells qs) ≡ restriction_cells (map (apply_non_equality (subst_a n x)) qs)
  spread_restriction_a [] = refl
  spread_restriction_a (q ∷ qs) = rw (one_a q.left, one_a q.right, spread_restriction_a qs)

-- Renaming is filling by one cell, in place.
pub renamed_front : (x y : ℕ) (s r : List ℕ) → renamed (length s) x y (s ++ r) ≡ spread x (y ∷ []) s ++ r
unfolding renamed
renamed_front x y [] r = refl
renamed_front x y (c ∷ s) r = rw (renamed_front x y s r) (pick (eqb c x))
  where
    pick : (b : Bool) → cond b y c ∷ (spread x (y ∷ []) s ++ r) ≡ (cond b (y ∷ []) (c ∷ []) ++ spread x (y ∷ []) s) ++ r
    pick true = refl
    pick false = refl

module _ (n : ℕ) (x : AtomicExp) where
  pub renamed_restriction : (qs : Restriction) (r : List ℕ) →
      renamed (nodes_restriction qs) (avar_code n) (atomic_code x) (restriction_cells qs ++ r) ≡ restriction_cells (map (apply_non_equality (subst_a n x)) qs) ++ r
  renamed_restriction qs r = rw (← (restriction_cells_nodes qs), renamed_front (avar_code n) (atomic_code x) (restriction_cells qs) r, spread_restriction_a n x qs)
