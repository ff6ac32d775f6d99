-- The variables that stand in the cells passed, and the bindings that they have.
use Prim.Native.Nat.{ℕ, ◌+◌, ◌*◌, ◌%◌, ◌≤◌, ◌<◌}
use mathlib.Core.Path.{◌≡◌, refl, ap, ap₂, ◌∙◌, sym as inv}
use mathlib.Core.Bool.{Bool, true, false, cond, ◌||◌}
use mathlib.Core.List.{List, [], ◌∷◌, ◌++◌}
use native.Mathlib.Omega.{arith}
use lib.Dec.{eqb}
use borrow.Author.Tests.{ne_eqb, eqb-true}
use Rattle.expressions.specs.Expression.{sym, avar, Exp, atm, evar, pair}
use Rattle.expressions.proofs.Tests.{eqb_sym}
use Rattle.listing.specs.Bindings.{same, Binding, is_bound, add_binding}
use Rattle.sets.specs.Twins.Copying.{any_cell}
use Rattle.sets.specs.Cells.{pair_code, evar_code, avar_code}
use Rattle.sets.proofs.CellLaws.{atomic_not_evar, code_test}
use Rattle.print.proofs.TreeLaws.{first_cell}

-- a variable; its cell tells it from every other tree
abbrev pub IsVariable : Exp → Type 0
IsVariable (atm (sym z)) = ⊥
IsVariable (atm (avar n)) = Unit {0}
IsVariable (evar n) = Unit {0}
IsVariable (pair c d) = ⊥

pub same_first : (v e : Exp) → IsVariable v → same v e ≡ eqb (first_cell e) (first_cell v)
same_first (evar n) (atm x) h = inv (ne_eqb _ _ (atomic_not_evar x n))
same_first (evar n) (evar m) h = eqb_sym n m ∙ inv (code_test 2 m n)
same_first (evar n) (pair c d) h = inv (ne_eqb pair_code (evar_code n) (λ z. omega arith))
same_first (atm (avar n)) (atm (sym z)) h = inv (ne_eqb (4 * z + 1) (avar_code n) (λ q. omega arith))
same_first (atm (avar n)) (atm (avar m)) h = eqb_sym n m ∙ inv (code_test 3 m n)
same_first (atm (avar n)) (evar m) h = inv (ne_eqb (evar_code m) (avar_code n) (λ z. omega arith))
same_first (atm (avar n)) (pair c d) h = inv (ne_eqb pair_code (avar_code n) (λ z. omega arith))
same_first (atm (sym z)) e h = absurd h
same_first (pair c d) e h = absurd h

pub variable_tag : (v : Exp) → IsVariable v → 2 ≤ first_cell v % 4
variable_tag (evar n) h = omega arith
variable_tag (atm (avar n)) h = omega arith
variable_tag (atm (sym z)) h = absurd h
variable_tag (pair c d) h = absurd h

-- no variable has the cell of a symbol or a pair
other_cell : (x : ℕ) → x % 4 < 2 → (v : Exp) → IsVariable v → eqb x (first_cell v) ≡ false
other_cell x h v w = ne_eqb x (first_cell v) (λ z. let t = variable_tag v w in let q : x % 4 ≡ first_cell v % 4 = ap (λ (k : ℕ). k % 4) z in omega arith)

or_false : (a : Bool) → (a || false) ≡ a
or_false true = refl
or_false false = refl

or_true : (a : Bool) → (a || true) ≡ true
or_true true = refl
or_true false = refl

any_last : (y x : ℕ) (l : List ℕ) → any_cell y (l ++ (x ∷ [])) ≡ (any_cell y l || eqb x y)
unfolding any_cell
any_last y x [] = pick (eqb x y)
  where
    pick : (t : Bool) → cond t true false ≡ t
    pick true = refl
    pick false = refl
any_last y x (c ∷ l) = pick (eqb c y) (any_last y x l)
  where
    pick : (t : Bool) → any_cell y (l ++ (x ∷ [])) ≡ (any_cell y l || eqb x y) → cond t true (any_cell y (l ++ (x ∷ []))) ≡ (cond t true (any_cell y l) || eqb x y)
    pick true h = refl
    pick false h = h

abbrev pub bound : Exp → Exp → Binding
bound v e = record { var = v; exp = e }

bound_last : (w v e : Exp) (bs : List Binding) → is_bound w (bs ++ (bound v e ∷ [])) ≡ (is_bound w bs || same v w)
bound_last w v e [] = or_false (same v w)
bound_last w v e (b ∷ bs) = pick (same b.var w) (bound_last w v e bs)
  where
    pick : (t : Bool) → is_bound w (bs ++ (bound v e ∷ [])) ≡ (is_bound w bs || same v w) → (t || is_bound w (bs ++ (bound v e ∷ []))) ≡ ((t || is_bound w bs) || same v w)
    pick true h = refl
    pick false h = h

-- the variables that stand in the cells passed are those that have a binding
abbrev pub Seen : List ℕ → List Binding → Type 0
Seen l bs = (v : Exp) → IsVariable v → is_bound v bs ≡ any_cell (first_cell v) l

pub seen_other : (l : List ℕ) (bs : List Binding) (x : ℕ) → x % 4 < 2 → Seen l bs → Seen (l ++ (x ∷ [])) bs
seen_other l bs x h s v w = s v w ∙ inv (or_false (any_cell (first_cell v) l)) ∙ ap (λ (t : Bool). any_cell (first_cell v) l || t) (inv (other_cell x h v w)) ∙ inv (any_last (first_cell v) x l)

module _ (l : List ℕ) (bs : List Binding) (v e : Exp) (h : IsVariable v) (s : Seen l bs) where
  seen_again : is_bound v bs ≡ true → Seen (l ++ (first_cell v ∷ [])) bs
  seen_again b w g = s w g ∙ go (eqb (first_cell v) (first_cell w)) refl ∙ inv (any_last (first_cell w) (first_cell v) l)
    where
      go : (t : Bool) → eqb (first_cell v) (first_cell w) ≡ t → any_cell (first_cell w) l ≡ (any_cell (first_cell w) l || eqb (first_cell v) (first_cell w))
      go true q =
          let y : any_cell (first_cell w) l ≡ true = ap (λ (k : ℕ). any_cell k l) (inv (eqb-true (first_cell v) (first_cell w) q)) ∙ inv (s v h) ∙ b in
          y ∙ inv (ap₂ ◌||◌ y q)
      go false q = inv (or_false (any_cell (first_cell w) l)) ∙ ap (λ (t : Bool). any_cell (first_cell w) l || t) (inv q)

  seen_new : Seen (l ++ (first_cell v ∷ [])) (bs ++ (bound v e ∷ []))
  seen_new w g =
      bound_last w v e bs ∙ ap₂ ◌||◌ (s w g) (same_first v w h ∙ eqb_sym (first_cell w) (first_cell v)) ∙ inv (any_last (first_cell w) (first_cell v) l)

  pub seen_added : Seen (l ++ (first_cell v ∷ [])) (add_binding v e bs)
  seen_added = go (is_bound v bs) refl
    where
      go : (t : Bool) → is_bound v bs ≡ t → Seen (l ++ (first_cell v ∷ [])) (cond t bs (bs ++ (bound v e ∷ [])))
      go true b = seen_again b
      go false b = seen_new
