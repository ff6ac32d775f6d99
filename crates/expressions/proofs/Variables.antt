-- The variables of an expression: each binding removes one, and there are no more than nodes.
use Prim.Native.Nat.{ℕ, suc, ◌<◌, ◌≤◌}
use mathlib.Core.Path.{◌≡◌, refl, ap, ◌∙◌, sym as inv}
use mathlib.Core.Bool.{Bool, true, false, cond, true≢false}
use mathlib.Core.List.{List, [], ◌∷◌, ◌++◌}
use mathlib.Core.Logic.{◌⊎◌, inl, inr}
use native.Mathlib.Omega.{arith}
use lib.Dec.{eqb}
use lib.ListN.{length, length-append}
use Rattle.expressions.specs.Expression.{AtomicExp, sym, avar, Exp, atm, evar, pair, nodes}
use Rattle.expressions.specs.Substitution.{apply, subst_e, subst_a}
use Rattle.expressions.specs.Restriction.{same_atomic}
use Rattle.expressions.specs.Intersection.{occurs}
use Rattle.expressions.proofs.Tests.{or_none, eqb_same}

pub data Var : Type 0 where
  ev av : ℕ → Var

abbrev same_var : Var → Var → Bool
same_var (ev m) (ev n) = eqb m n
same_var (ev m) (av n) = false
same_var (av m) (ev n) = false
same_var (av m) (av n) = eqb m n

same_var_same : (x : Var) → same_var x x ≡ true
same_var_same (ev n) = eqb_same n
same_var_same (av n) = eqb_same n

abbrev pub In : Var → List Var → Type 0
In x [] = ⊥
In x (y ∷ ys) = (x ≡ y) ⊎ In x ys

abbrev pub remove : Var → List Var → List Var
remove x [] = []
remove x (y ∷ ys) = cond (same_var y x) (remove x ys) (y ∷ remove x ys)

remove_in : (x y : Var) (vs : List Var) → In y vs → same_var y x ≡ false → In y (remove x vs)
remove_in x y [] i d = i
remove_in x y (z ∷ vs) i d = pick (same_var z x) refl i (λ j. remove_in x y vs j d)
  where
    pick : (t : Bool) → same_var z x ≡ t → (y ≡ z) ⊎ In y vs → (In y vs → In y (remove x vs)) → In y (cond t (remove x vs) (z ∷ remove x vs))
    pick true e (inl q) ih = absurd (true≢false (inv e ∙ ap (λ (v : Var). same_var v x) (inv q) ∙ d))
    pick true e (inr j) ih = ih j
    pick false e (inl q) ih = inl q
    pick false e (inr j) ih = inr (ih j)

remove_le : (x : Var) (vs : List Var) → length (remove x vs) ≤ length vs
remove_le x [] = omega arith
remove_le x (z ∷ vs) = pick (same_var z x) (remove_le x vs)
  where
    pick : (t : Bool) → length (remove x vs) ≤ length vs → length (cond t (remove x vs) (z ∷ remove x vs)) ≤ suc (length vs)
    pick true h = omega arith
    pick false h = omega arith

pub remove_lt : (x : Var) (vs : List Var) → In x vs → length (remove x vs) < length vs
remove_lt x [] i = absurd i
remove_lt x (z ∷ vs) i = pick (same_var z x) refl i (remove_le x vs) (λ j. remove_lt x vs j)
  where
    pick : (t : Bool) → same_var z x ≡ t → (x ≡ z) ⊎ In x vs → length (remove x vs) ≤ length vs → (In x vs → length (remove x vs) < length vs) →
        length (cond t (remove x vs) (z ∷ remove x vs)) < suc (length vs)
    pick true e i h ih = omega arith
    pick false e (inl q) h ih = absurd (true≢false (inv (same_var_same x) ∙ ap (λ (v : Var). same_var v x) q ∙ e))
    pick false e (inr j) h ih = let k = ih j in omega arith

-- every variable of an expression is in the list
abbrev pub Covers : List Var → Exp → Type 0
Covers vs (atm (sym z)) = Unit {0}
Covers vs (atm (avar n)) = In (av n) vs
Covers vs (evar n) = In (ev n) vs
Covers vs (pair c d) = Covers vs c × Covers vs d

remove_e : (vs : List Var) (n : ℕ) (d : Exp) → occurs n d ≡ false → Covers vs d → Covers (remove (ev n) vs) d
remove_e vs n (atm (sym z)) e h = tt
remove_e vs n (atm (avar m)) e h = remove_in (ev n) (av m) vs h refl
remove_e vs n (evar m) e h = remove_in (ev n) (ev m) vs h e
remove_e vs n (pair c d) e h = let r = or_none (occurs n c) (occurs n d) e in (remove_e vs n c r.0 h.0, remove_e vs n d r.1 h.1)

-- Behind a binding its variable is gone.
pub covers_subst_e : (vs : List Var) (n : ℕ) (d c : Exp) → occurs n d ≡ false → Covers vs d → Covers vs c → Covers (remove (ev n) vs) (apply (subst_e n d) c)
covers_subst_e vs n d (atm (sym z)) e h k = tt
covers_subst_e vs n d (atm (avar m)) e h k = remove_in (ev n) (av m) vs k refl
covers_subst_e vs n d (pair a b) e h k = (covers_subst_e vs n d a e h k.0, covers_subst_e vs n d b e h k.1)
covers_subst_e vs n d (evar m) e h k = pick (eqb m n) refl
  where
    pick : (t : Bool) → eqb m n ≡ t → Covers (remove (ev n) vs) (cond t d (evar m))
    pick true f = remove_e vs n d e h
    pick false f = remove_in (ev n) (ev m) vs k f

remove_a : (vs : List Var) (n : ℕ) (y : AtomicExp) → same_atomic y (avar n) ≡ false → Covers vs (atm y) → Covers (remove (av n) vs) (atm y)
remove_a vs n (sym z) e h = tt
remove_a vs n (avar m) e h = remove_in (av n) (av m) vs h e

pub covers_subst_a : (vs : List Var) (n : ℕ) (y : AtomicExp) (c : Exp) → same_atomic y (avar n) ≡ false → Covers vs (atm y) → Covers vs c →
    Covers (remove (av n) vs) (apply (subst_a n y) c)
covers_subst_a vs n y (atm (sym z)) e h k = tt
covers_subst_a vs n y (evar m) e h k = remove_in (av n) (ev m) vs k refl
covers_subst_a vs n y (pair a b) e h k = (covers_subst_a vs n y a e h k.0, covers_subst_a vs n y b e h k.1)
covers_subst_a vs n y (atm (avar m)) e h k = pick (eqb m n) refl
  where
    pick : (t : Bool) → eqb m n ≡ t → Covers (remove (av n) vs) (atm (cond t y (avar m)))
    pick true f = remove_a vs n y e h
    pick false f = remove_in (av n) (av m) vs k f

-- the variables of an expression are no more than its nodes
abbrev pub vars : Exp → List Var
vars (atm (sym z)) = []
vars (atm (avar n)) = av n ∷ []
vars (evar n) = ev n ∷ []
vars (pair c d) = vars c ++ vars d

in_left : (x : Var) (us vs : List Var) → In x us → In x (us ++ vs)
in_left x [] vs i = absurd i
in_left x (u ∷ us) vs (inl q) = inl q
in_left x (u ∷ us) vs (inr i) = inr (in_left x us vs i)

in_right : (x : Var) (us vs : List Var) → In x vs → In x (us ++ vs)
in_right x [] vs i = i
in_right x (u ∷ us) vs i = inr (in_right x us vs i)

pub covers_left : (us vs : List Var) (c : Exp) → Covers us c → Covers (us ++ vs) c
covers_left us vs (atm (sym z)) h = tt
covers_left us vs (atm (avar n)) h = in_left (av n) us vs h
covers_left us vs (evar n) h = in_left (ev n) us vs h
covers_left us vs (pair c d) h = (covers_left us vs c h.0, covers_left us vs d h.1)

pub covers_right : (us vs : List Var) (c : Exp) → Covers vs c → Covers (us ++ vs) c
covers_right us vs (atm (sym z)) h = tt
covers_right us vs (atm (avar n)) h = in_right (av n) us vs h
covers_right us vs (evar n) h = in_right (ev n) us vs h
covers_right us vs (pair c d) h = (covers_right us vs c h.0, covers_right us vs d h.1)

pub vars_cover : (c : Exp) → Covers (vars c) c
vars_cover (atm (sym z)) = tt
vars_cover (atm (avar n)) = inl refl
vars_cover (evar n) = inl refl
vars_cover (pair c d) = (covers_left (vars c) (vars d) c (vars_cover c), covers_right (vars c) (vars d) d (vars_cover d))

pub vars_nodes : (c : Exp) → length (vars c) ≤ nodes c
vars_nodes (atm (sym z)) = omega arith
vars_nodes (atm (avar n)) = omega arith
vars_nodes (evar n) = omega arith
vars_nodes (pair c d) = omega (arith, length-append (vars c) (vars d), vars_nodes c, vars_nodes d)
