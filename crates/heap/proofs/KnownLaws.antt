-- What the first cell of an entry says of its tree.
use Prim.Native.Nat.{ℕ, ◌+◌, ◌*◌, ◌/◌, ◌%◌, ◌<◌}
use mathlib.Core.Path.{◌≡◌, refl, ap, ◌∙◌, sym as inv}
use mathlib.Core.Bool.{Bool, true, false, cond}
use mathlib.Core.List.{List}
use native.Mathlib.Omega.{arith}
use lib.Dec.{eqb}
use lib.ListN.{length}
use borrow.Author.Tests.{eqb-true, eqb-false}
use Rattle.expressions.specs.Expression.{Exp, atm, evar, pair, nodes}
use Rattle.expressions.specs.Substitution.{Substitution, apply}
use Rattle.sets.specs.Twins.Copying.{any_cell}
use Rattle.sets.specs.Cells.{cells}
use Rattle.sets.proofs.CellLaws.{cells_nodes, cells_injective}
use Rattle.runs.specs.Twins.Runs.{any_variable, spread_size}
use Rattle.runs.proofs.RunLaws.{size_is, size_one}
use Rattle.codes.specs.Twins.Knowing.{known_after, closed_as}
use Rattle.heap.proofs.HeapLaws.{Filling, spread_none}

-- the nodes of a pair's head; no other tree has a head
abbrev pub head_nodes : Exp → ℕ
head_nodes (pair a b) = nodes a
head_nodes (atm y) = 0
head_nodes (evar x) = 0

-- 2 n + 1: no variable stands in the tree; n, where it is not 0, is how many nodes its head has
pub record KnownOf (k : ℕ) (t : Exp) : Type 0 where
  pub closed : k % 2 ≡ 1 → any_variable (cells t) ≡ false
  pub head : 0 < k / 2 → head_nodes t ≡ k / 2

pub unknown : {t : Exp} → KnownOf 0 t
unknown = record { closed = λ e. let z : ⊥ = omega arith in absurd z; head = λ l. let z : ⊥ = omega arith in absurd z }

pub known_head_lem : (n : ℕ) {t : Exp} → head_nodes t ≡ n → KnownOf (2 * n) t
known_head_lem n e = record { closed = λ z. let w : ⊥ = omega arith in absurd w; head = λ l. let w : 2 * n / 2 ≡ n = omega arith in e ∙ inv w }

pub known_closed : (k : ℕ) {t : Exp} → KnownOf k t → any_variable (cells t) ≡ false → KnownOf (closed_as k) t
known_closed k {t} x e = pick (eqb (k % 2) 1) refl
  where
    pick : (b : Bool) → eqb (k % 2) 1 ≡ b → KnownOf (cond b k (k + 1)) t
    pick true f = x
    pick false f =
        let n : k % 2 ≡ 1 → ⊥ = eqb-false (k % 2) 1 f in
        let z : (k + 1) / 2 ≡ k / 2 = omega (arith, n) in
        record { closed = λ w. e; head = λ l. x.head (omega arith) ∙ inv z }

-- where x does not stand, filling leaves the tree
pub filled_same : {x : ℕ} {v : List ℕ} {s : Substitution} → Filling x v s → (t : Exp) → any_cell x (cells t) ≡ false → apply s t ≡ t
filled_same {x} {v} {s} f t e = inv (cells_injective t (apply s t) (inv (spread_none x v (cells t) e) ∙ f.fills t))

-- a value of one cell keeps every length
filled_nodes : {x : ℕ} {v : List ℕ} {s : Substitution} → Filling x v s → length v ≡ 1 → (t : Exp) → nodes (apply s t) ≡ nodes t
filled_nodes {x} {v} {s} f one t =
    inv (cells_nodes (apply s t)) ∙ ap length (inv (f.fills t)) ∙ size_is x v (cells t) ∙ ap (λ (n : ℕ). spread_size x n (cells t)) one ∙ size_one x (cells t) ∙ cells_nodes t

head_filled : {x : ℕ} {v : List ℕ} {s : Substitution} → Filling x v s → length v ≡ 1 → (t : Exp) → 0 < head_nodes t → head_nodes (apply s t) ≡ head_nodes t
head_filled f one (atm y) l = let z : ⊥ = omega arith in absurd z
head_filled f one (evar x) l = let z : ⊥ = omega arith in absurd z
head_filled f one (pair a b) l = filled_nodes f one a

pub known_filled : {x : ℕ} {v : List ℕ} {s : Substitution} → Filling x v s → (k size : ℕ) (t : Exp) → size ≡ length v → (k % 2 ≡ 1 → ⊥) → KnownOf k t → KnownOf (known_after k size) (apply s t)
known_filled {x} {v} {s} f k size t is n w = pick (eqb size 1) refl
  where
    pick : (b : Bool) → eqb size 1 ≡ b → KnownOf (cond b k 0) (apply s t)
    pick true e =
        let one : length v ≡ 1 = inv is ∙ eqb-true size 1 e in
        record { closed = λ z. absurd (n z); head = λ l. let h = w.head l in head_filled f one t (omega arith) ∙ h }
    pick false e = unknown
