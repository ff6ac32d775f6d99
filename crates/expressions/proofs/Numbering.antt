-- The numbers of variables: what stands below a counter does not depend on fresh variables, and contracting keeps it below.
use Prim.Native.Nat.{ℕ, ◌<◌, ◌≤◌}
use mathlib.Core.Path.{◌≡◌, refl, ap, ap₂, ◌∙◌, sym as inv}
use mathlib.Core.Bool.{Bool, true, false, cond}
use mathlib.Core.List.{List, [], ◌∷◌, ◌++◌, map}
use mathlib.Core.Option.{some, none-ne-some, some-injective}
use native.Mathlib.Omega.{arith}
use lib.Dec.{eqb}
use Rattle.expressions.specs.Expression.{Value, atom, cons, AtomicExp, sym, avar, Exp, atm, evar, pair}
use Rattle.expressions.specs.Substitution.{GroundSubst, ground_all, apply_atomic, apply, apply_all, subst_a}
use Rattle.expressions.specs.Restriction.{Restriction, Satisfies, same_atomic, apply_non_equality}
use Rattle.expressions.specs.Contraction.{Contraction, identity, contra, bind_e, bind_a, non_equal, subst_of, contract_restriction, mk_bind, equality_contraction}
use Rattle.expressions.specs.Class.{IOClass}
use Rattle.expressions.specs.Split.{largest_atomic, largest, largest_all, largest_restriction, first_fresh}
use Rattle.expressions.proofs.Simplification.{simplify_largest, largest_append}
use Rattle.expressions.proofs.Contracting.{Agree, FreshE, FreshA, FreshK, Fresh}

pub below_fresh_a : (k : ℕ) (x : AtomicExp) → largest_atomic x < k → FreshA k x
below_fresh_a k (sym z) h θ φ a = refl
below_fresh_a k (avar n) h θ φ a = a.1 n h

pub below_fresh_e : (k : ℕ) (c : Exp) → largest c < k → FreshE k c
below_fresh_e k (atm x) h θ φ a = ap atom (below_fresh_a k x h θ φ a)
below_fresh_e k (evar n) h θ φ a = a.0 n h
below_fresh_e k (pair c d) h θ φ a = ap₂ cons (below_fresh_e k c (omega arith) θ φ a) (below_fresh_e k d (omega arith) θ φ a)

pub below_fresh_all : (k : ℕ) (cs : List Exp) → largest_all cs < k → (θ φ : GroundSubst) → Agree k θ φ → ground_all θ cs ≡ ground_all φ cs
below_fresh_all k [] h θ φ a = refl
below_fresh_all k (c ∷ cs) h θ φ a = ap₂ {C = List Value} ◌∷◌ (below_fresh_e k c (omega arith) θ φ a) (below_fresh_all k cs (omega arith) θ φ a)

pub below_fresh_restriction : (k : ℕ) (qs : Restriction) → largest_restriction qs < k → (θ φ : GroundSubst) → Agree k θ φ → Satisfies θ qs → Satisfies φ qs
below_fresh_restriction k [] h θ φ a s = tt
below_fresh_restriction k (q ∷ qs) h θ φ a s = (
  (λ e. s.0 (below_fresh_a k q.left (omega arith) θ φ a ∙ e ∙ inv (below_fresh_a k q.right (omega arith) θ φ a))),
  below_fresh_restriction k qs (omega arith) θ φ a s.1,
)

-- "Fresh numbers start one above the largest K of either kind in the job"
pub class_fresh : (P : IOClass) (k : ℕ) → first_fresh P ≤ k → Fresh k P
class_fresh P k l θ φ a = (
  (λ i. record { ins = below_fresh_all k P.con.ins (omega arith) θ φ a i; out = below_fresh_e k P.con.out (omega arith) θ φ a i }),
  below_fresh_restriction k P.neqs (omega arith) θ φ a,
)

-- what a contraction puts in has its numbers below k
abbrev pub Below : ℕ → Contraction → Type 0
Below k identity = Unit {0}
Below k contra = Unit {0}
Below k (bind_e n d) = largest d < k
Below k (bind_a n x) = largest_atomic x < k
Below k (non_equal x y) = (largest_atomic x < k) × (largest_atomic y < k)

pub below_fresh_k : (k : ℕ) (κ : Contraction) → Below k κ → FreshK k κ
below_fresh_k k identity h = tt
below_fresh_k k contra h = tt
below_fresh_k k (bind_e n d) h = below_fresh_e k d h
below_fresh_k k (bind_a n x) h = below_fresh_a k x h
below_fresh_k k (non_equal x y) h = (below_fresh_a k x h.0, below_fresh_a k y h.1)

pub equality_below : (k : ℕ) (x y : AtomicExp) → largest_atomic x < k → largest_atomic y < k → Below k (equality_contraction x y)
equality_below k x y h l = pick (same_atomic x y)
  where
    mk : (x y : AtomicExp) → largest_atomic x < k → largest_atomic y < k → Below k (mk_bind x y)
    mk (sym y) (sym z) h l = tt
    mk (sym y) (avar n) h l = h
    mk (avar m) y h l = l

    pick : (t : Bool) → Below k (cond t identity (mk_bind x y))
    pick true = tt
    pick false = mk x y h l

pub largest_atomic_contract : (k : ℕ) (κ : Contraction) → Below k κ → (x : AtomicExp) → largest_atomic x < k → largest_atomic (apply_atomic (subst_of κ) x) < k
largest_atomic_contract k κ b (sym z) h = h
largest_atomic_contract k identity b (avar n) h = h
largest_atomic_contract k contra b (avar n) h = h
largest_atomic_contract k (bind_e m d) b (avar n) h = h
largest_atomic_contract k (non_equal x y) b (avar n) h = h
largest_atomic_contract k (bind_a m x) b (avar n) h = pick (eqb n m)
  where
    pick : (t : Bool) → largest_atomic (cond t x (avar n)) < k
    pick true = b
    pick false = h

pub largest_contract : (k : ℕ) (κ : Contraction) → Below k κ → (c : Exp) → largest c < k → largest (apply (subst_of κ) c) < k
largest_contract k κ b (atm x) h = largest_atomic_contract k κ b x h
largest_contract k κ b (pair c d) h =
    let p = largest_contract k κ b c (omega arith) in let q = largest_contract k κ b d (omega arith) in omega arith
largest_contract k identity b (evar n) h = h
largest_contract k contra b (evar n) h = h
largest_contract k (bind_a m x) b (evar n) h = h
largest_contract k (non_equal x y) b (evar n) h = h
largest_contract k (bind_e m d) b (evar n) h = pick (eqb n m)
  where
    pick : (t : Bool) → largest (cond t d (evar n)) < k
    pick true = b
    pick false = h

pub largest_all_contract : (k : ℕ) (κ : Contraction) → Below k κ → (cs : List Exp) → largest_all cs < k → largest_all (apply_all (subst_of κ) cs) < k
largest_all_contract k κ b [] h = h
largest_all_contract k κ b (c ∷ cs) h =
    let p = largest_contract k κ b c (omega arith) in let q = largest_all_contract k κ b cs (omega arith) in omega arith

largest_map : (k : ℕ) (κ : Contraction) → Below k κ → (qs : Restriction) → largest_restriction qs < k → largest_restriction (map (apply_non_equality (subst_of κ)) qs) < k
largest_map k κ b [] h = h
largest_map k κ b (q ∷ qs) h =
    let l = largest_atomic_contract k κ b q.left (omega arith) in
    let r = largest_atomic_contract k κ b q.right (omega arith) in
    let m = largest_map k κ b qs (omega arith) in
    omega arith

pub largest_restriction_contract : (k : ℕ) (κ : Contraction) → Below k κ → (qs out : Restriction) → contract_restriction κ qs ≡ some out →
    largest_restriction qs < k → largest_restriction out < k
largest_restriction_contract k identity b qs out e h = rw (inv (some-injective _ _ e)) h
largest_restriction_contract k contra b qs out e h = absurd (none-ne-some _ e)
largest_restriction_contract k (bind_e n d) b qs out e h = rw (inv (some-injective _ _ e)) h
largest_restriction_contract k (bind_a n x) b qs out e h =
    let r = simplify_largest (map (apply_non_equality (subst_a n x)) qs) out e in let m = largest_map k (bind_a n x) b qs h in omega arith
largest_restriction_contract k (non_equal x y) b qs out e h =
    let r = simplify_largest (qs ++ (record { left = x; right = y } ∷ [])) out e in
    let m = largest_append qs (record { left = x; right = y } ∷ []) in
    omega arith
