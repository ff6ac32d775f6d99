-- The leftmost disagreement of two expressions: what makes them equal agrees with it, and it binds a variable of theirs.
use Prim.Native.Nat.{ℕ, suc, ◌+◌, ◌<◌, ◌≤◌}
use mathlib.Core.Path.{◌≡◌, refl, ap, ap₂, subst, ◌∙◌, sym as inv}
use mathlib.Core.Bool.{Bool, true, false, cond, false≢true}
use mathlib.Core.List.{List}
use native.Mathlib.Omega.{arith}
use lib.Dec.{eqb}
use borrow.Author.Tests.{eqb-true}
use Rattle.expressions.specs.Expression.{Value, atom, cons, AtomicExp, sym, avar, Exp, atm, evar, pair}
use Rattle.expressions.specs.Substitution.{GroundSubst, ground_exp}
use Rattle.expressions.specs.Restriction.{same_atomic}
use Rattle.expressions.specs.Contraction.{Contraction, identity, contra, bind_e, bind_a, non_equal, mk_bind, equality_contraction}
use Rattle.expressions.specs.Split.{largest}
use Rattle.expressions.specs.Intersection.{occurs, bind_unless_occurs, first, disagreement}
use Rattle.expressions.proofs.Tests.{or_either, eqb_sym}
use Rattle.expressions.proofs.Filling.{Holds}
use Rattle.expressions.proofs.Simplification.{same_atomic_eq}
use Rattle.expressions.proofs.Contracting.{OccursChecked, equality_occurs_checked, equal_holds, head_of, tail_of, atom_in}
use Rattle.expressions.proofs.Numbering.{Below, equality_below}
use Rattle.expressions.proofs.Variables.{Var, ev, av, In, Covers}

-- A value is no part of itself, so no filling makes equal a variable and a pair that it stands in.
abbrev size : Value → ℕ
size (atom z) = 1
size (cons u v) = suc (size u + size v)

size_occurs : (θ : GroundSubst) (n : ℕ) (c : Exp) → occurs n c ≡ true → size (θ.e n) ≤ size (ground_exp θ c)
size_occurs θ n (atm x) e = absurd (false≢true e)
size_occurs θ n (evar m) e = rw (eqb-true m n e) (omega arith)
size_occurs θ n (pair c d) e = or_either (occurs n c) (occurs n d) e (λ t. let h = size_occurs θ n c t in omega arith) (λ t. let h = size_occurs θ n d t in omega arith)

no_loop : (θ : GroundSubst) (n : ℕ) (c d : Exp) → occurs n (pair c d) ≡ true → θ.e n ≡ ground_exp θ (pair c d) → ⊥
no_loop θ n c d e f =
    let s : size (θ.e n) ≡ suc (size (ground_exp θ c) + size (ground_exp θ d)) = ap size f in
    or_either (occurs n c) (occurs n d) e (λ t. omega (arith, size_occurs θ n c t)) (λ t. omega (arith, size_occurs θ n d t))

-- What holds of each contraction that a case can answer holds of its answer.
first_with : (M : Contraction → Type 0) (κ l : Contraction) → M κ → M l → M (first κ l)
first_with M identity l h k = k
first_with M contra l h k = h
first_with M (bind_e n d) l h k = h
first_with M (bind_a n x) l h k = h
first_with M (non_equal x y) l h k = h

bind_with : (M : Contraction → Type 0) (n : ℕ) (d : Exp) → (occurs n d ≡ true → M contra) → (occurs n d ≡ false → M (bind_e n d)) → M (bind_unless_occurs n d)
bind_with M n d yes' no' = pick (occurs n d) refl
  where
    pick : (t : Bool) → occurs n d ≡ t → M (cond t contra (bind_e n d))
    pick true e = yes' e
    pick false e = no' e

evars_with : (M : Contraction → Type 0) (m n : ℕ) → (eqb m n ≡ true → M identity) → (eqb m n ≡ false → M (bind_e m (evar n))) →
    M (cond (eqb m n) identity (bind_e m (evar n)))
evars_with M m n yes' no' = pick (eqb m n) refl
  where
    pick : (t : Bool) → eqb m n ≡ t → M (cond t identity (bind_e m (evar n)))
    pick true e = yes' e
    pick false e = no' e

abbrev NotPair : Value → Type 0
NotPair (atom z) = Unit {0}
NotPair (cons u v) = ⊥

pub disagreement_holds : (θ : GroundSubst) (w u : Exp) → ground_exp θ w ≡ ground_exp θ u → Holds (disagreement w u) θ
unfolding disagreement
disagreement_holds θ (evar m) (evar n) f = evars_with (λ κ. Holds κ θ) m n (λ e. tt) (λ e. f)
disagreement_holds θ (evar m) (atm y) f = f
disagreement_holds θ (evar m) (pair c d) f = bind_with (λ κ. Holds κ θ) m (pair c d) (λ e. no_loop θ m c d e f) (λ e. f)
disagreement_holds θ (atm x) (evar n) f = inv f
disagreement_holds θ (atm x) (atm y) f = equal_holds θ x y (ap atom_in f)
disagreement_holds θ (atm x) (pair c d) f = subst NotPair f tt
disagreement_holds θ (pair a b) (evar n) f = bind_with (λ κ. Holds κ θ) n (pair a b) (λ e. no_loop θ n a b e (inv f)) (λ e. inv f)
disagreement_holds θ (pair a b) (atm y) f = subst NotPair (inv f) tt
disagreement_holds θ (pair a b) (pair c d) f =
    first_with (λ κ. Holds κ θ) (disagreement a c) (disagreement b d) (disagreement_holds θ a c (ap head_of f)) (disagreement_holds θ b d (ap tail_of f))

pub disagreement_occurs_checked : (w u : Exp) → OccursChecked (disagreement w u)
unfolding disagreement
disagreement_occurs_checked (evar m) (evar n) = evars_with OccursChecked m n (λ e. tt) (λ e. eqb_sym n m ∙ e)
disagreement_occurs_checked (evar m) (atm y) = refl
disagreement_occurs_checked (evar m) (pair c d) = bind_with OccursChecked m (pair c d) (λ e. tt) (λ e. e)
disagreement_occurs_checked (atm x) (evar n) = refl
disagreement_occurs_checked (atm x) (atm y) = equality_occurs_checked x y
disagreement_occurs_checked (atm x) (pair c d) = tt
disagreement_occurs_checked (pair a b) (evar n) = bind_with OccursChecked n (pair a b) (λ e. tt) (λ e. e)
disagreement_occurs_checked (pair a b) (atm y) = tt
disagreement_occurs_checked (pair a b) (pair c d) =
    first_with OccursChecked (disagreement a c) (disagreement b d) (disagreement_occurs_checked a c) (disagreement_occurs_checked b d)

-- its numbers are those of the two
pub disagreement_below : (k : ℕ) (w u : Exp) → largest w < k → largest u < k → Below k (disagreement w u)
unfolding disagreement
disagreement_below k (evar m) (evar n) h l = evars_with (Below k) m n (λ e. tt) (λ e. l)
disagreement_below k (evar m) (atm y) h l = l
disagreement_below k (evar m) (pair c d) h l = bind_with (Below k) m (pair c d) (λ e. tt) (λ e. l)
disagreement_below k (atm x) (evar n) h l = h
disagreement_below k (atm x) (atm y) h l = equality_below k x y h l
disagreement_below k (atm x) (pair c d) h l = tt
disagreement_below k (pair a b) (evar n) h l = bind_with (Below k) n (pair a b) (λ e. tt) (λ e. h)
disagreement_below k (pair a b) (atm y) h l = tt
disagreement_below k (pair a b) (pair c d) h l =
    first_with (Below k) (disagreement a c) (disagreement b d) (disagreement_below k a c (omega arith) (omega arith)) (disagreement_below k b d (omega arith) (omega arith))

-- no disagreement: the two are the same
abbrev pub IsIdentity : Contraction → Type 0
IsIdentity identity = Unit {0}
IsIdentity contra = ⊥
IsIdentity (bind_e n d) = ⊥
IsIdentity (bind_a n x) = ⊥
IsIdentity (non_equal x y) = ⊥

first_identity : (κ l : Contraction) → IsIdentity (first κ l) → IsIdentity κ × IsIdentity l
first_identity identity l h = (tt, h)
first_identity contra l h = absurd h
first_identity (bind_e n d) l h = absurd h
first_identity (bind_a n x) l h = absurd h
first_identity (non_equal x y) l h = absurd h

bind_identity : (n : ℕ) (d : Exp) → IsIdentity (bind_unless_occurs n d) → ⊥
bind_identity n d = bind_with (λ κ. IsIdentity κ → ⊥) n d (λ e h. h) (λ e h. h)

equality_identity : (x y : AtomicExp) → IsIdentity (equality_contraction x y) → x ≡ y
equality_identity x y = pick (same_atomic x y) refl
  where
    mk : (x y : AtomicExp) → IsIdentity (mk_bind x y) → ⊥
    mk (sym y) (sym z) h = h
    mk (sym y) (avar n) h = h
    mk (avar m) y h = h

    pick : (t : Bool) → same_atomic x y ≡ t → IsIdentity (cond t identity (mk_bind x y)) → x ≡ y
    pick true e h = same_atomic_eq x y e
    pick false e h = absurd (mk x y h)

pub disagreement_identity : (w u : Exp) → IsIdentity (disagreement w u) → w ≡ u
unfolding disagreement
disagreement_identity (evar m) (evar n) h = evars_with (λ κ. IsIdentity κ → evar m ≡ evar n) m n (λ e h. ap evar (eqb-true m n e)) (λ e h. absurd h) h
disagreement_identity (evar m) (atm y) h = absurd h
disagreement_identity (evar m) (pair c d) h = absurd (bind_identity m (pair c d) h)
disagreement_identity (atm x) (evar n) h = absurd h
disagreement_identity (atm x) (atm y) h = ap atm (equality_identity x y h)
disagreement_identity (atm x) (pair c d) h = absurd h
disagreement_identity (pair a b) (evar n) h = absurd (bind_identity n (pair a b) h)
disagreement_identity (pair a b) (atm y) h = absurd h
disagreement_identity (pair a b) (pair c d) h =
    let r = first_identity (disagreement a c) (disagreement b d) h in ap₂ pair (disagreement_identity a c r.0) (disagreement_identity b d r.1)

-- the variable that is bound, and those in what it is bound to, are in the list
abbrev pub Bound : List Var → Contraction → Type 0
Bound vs identity = Unit {0}
Bound vs contra = Unit {0}
Bound vs (bind_e n d) = In (ev n) vs × Covers vs d
Bound vs (bind_a n x) = In (av n) vs × Covers vs (atm x)
Bound vs (non_equal x y) = ⊥

equality_bound : (vs : List Var) (x y : AtomicExp) → Covers vs (atm x) → Covers vs (atm y) → Bound vs (equality_contraction x y)
equality_bound vs x y h k = pick (same_atomic x y)
  where
    mk : (x y : AtomicExp) → Covers vs (atm x) → Covers vs (atm y) → Bound vs (mk_bind x y)
    mk (sym y) (sym z) h k = tt
    mk (sym y) (avar n) h k = (k, tt)
    mk (avar m) y h k = (h, k)

    pick : (t : Bool) → Bound vs (cond t identity (mk_bind x y))
    pick true = tt
    pick false = mk x y h k

pub disagreement_bound : (vs : List Var) (w u : Exp) → Covers vs w → Covers vs u → Bound vs (disagreement w u)
unfolding disagreement
disagreement_bound vs (evar m) (evar n) h k = evars_with (Bound vs) m n (λ e. tt) (λ e. (h, k))
disagreement_bound vs (evar m) (atm y) h k = (h, k)
disagreement_bound vs (evar m) (pair c d) h k = bind_with (Bound vs) m (pair c d) (λ e. tt) (λ e. (h, k))
disagreement_bound vs (atm x) (evar n) h k = (k, h)
disagreement_bound vs (atm x) (atm y) h k = equality_bound vs x y h k
disagreement_bound vs (atm x) (pair c d) h k = tt
disagreement_bound vs (pair a b) (evar n) h k = bind_with (Bound vs) n (pair a b) (λ e. tt) (λ e. (k, h))
disagreement_bound vs (pair a b) (atm y) h k = tt
disagreement_bound vs (pair a b) (pair c d) h k =
    first_with (Bound vs) (disagreement a c) (disagreement b d) (disagreement_bound vs a c h.0 k.0) (disagreement_bound vs b d h.1 k.1)
