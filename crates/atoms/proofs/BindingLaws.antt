-- Binding a `?a` contradicts a simplified restriction exactly where the non-equality of the two sides stands in it.
use Prim.Native.Nat.{ℕ}
use mathlib.Core.Path.{◌≡◌, refl, ap, ap₂, ◌∙◌, sym as inv}
use mathlib.Core.Bool.{Bool, true, false, cond, ◌&&◌, ◌||◌, true≢false, false≢true}
use mathlib.Core.List.{[], ◌∷◌, map}
use mathlib.Core.Option.{Option, none, some}
use lib.Dec.{eqb}
use borrow.Author.Tests.{eqb-true, eqb-false}
use Rattle.expressions.specs.Expression.{AtomicExp, sym, avar}
use Rattle.expressions.specs.Substitution.{GroundSubst, ground_atomic, apply_atomic, compose_ground, subst_a}
use Rattle.expressions.specs.Restriction.{NonEquality, Restriction, Satisfies, same_atomic, same_non_equality, stands, simplify, apply_non_equality, subst_restriction}
use Rattle.expressions.proofs.Tests.{or_either, or_none, and_both, eqb_same}
use Rattle.expressions.proofs.Simplification.{same_atomic_eq, Consistent, simplify_sound, simplify_complete, simplify_consistent, consistent_satisfiable, satisfies_compose}
use Rattle.values.proofs.StateLaws.{is_none}

-- x # y
abbrev pub against : AtomicExp → AtomicExp → NonEquality
against x y = record { left = x; right = y }

or_swap : (a b : Bool) → (a || b) ≡ (b || a)
or_swap true true = refl
or_swap true false = refl
or_swap false true = refl
or_swap false false = refl

-- "in either order of sides"
pub stands_swapped : (x y : AtomicExp) (ps : Restriction) → stands (against x y) ps ≡ stands (against y x) ps
stands_swapped x y [] = refl
stands_swapped x y (p ∷ ps) =
    ap₂ ◌||◌ (or_swap (same_atomic p.left x && same_atomic p.right y) (same_atomic p.left y && same_atomic p.right x)) (stands_swapped x y ps)

module _ (m : ℕ) (z : AtomicExp) where
  abbrev bound : AtomicExp → AtomicExp
  bound x = apply_atomic (subst_a m z) x

  -- two different items that the binding makes the same are its two sides
  met : (l r : AtomicExp) → same_atomic l r ≡ false → same_atomic (bound l) (bound r) ≡ true → same_non_equality (against l r) (against (avar m) z) ≡ true
  met (sym a) (sym b) e t = absurd (false≢true (inv e ∙ t))
  met (sym a) (avar n) e t = pick (eqb n m) refl t
    where
      pick : (b : Bool) → eqb n m ≡ b → same_atomic (sym a) (cond b z (avar n)) ≡ true → same_non_equality (against (sym a) (avar n)) (against (avar m) z) ≡ true
      pick true i s = rw (s, i)
      pick false i s = absurd (false≢true s)
  met (avar n) (sym a) e t = pick (eqb n m) refl t
    where
      pick : (b : Bool) → eqb n m ≡ b → same_atomic (cond b z (avar n)) (sym a) ≡ true → same_non_equality (against (avar n) (sym a)) (against (avar m) z) ≡ true
      pick true i s = let k = same_atomic_eq z (sym a) s in rw (i, k, eqb_same a)
      pick false i s = absurd (false≢true s)
  met (avar n) (avar k) e t = pick (eqb n m) refl (eqb k m) refl t
    where
      pick : (b : Bool) → eqb n m ≡ b → (c : Bool) → eqb k m ≡ c → same_atomic (cond b z (avar n)) (cond c z (avar k)) ≡ true →
          same_non_equality (against (avar n) (avar k)) (against (avar m) z) ≡ true
      pick true i true j s = absurd (eqb-false n k e (eqb-true n m i ∙ inv (eqb-true k m j)))
      pick true i false j s = let w = same_atomic_eq z (avar k) s in rw (i, w, eqb_same k)
      pick false i true j s = rw (i, s, j)
      pick false i false j s = absurd (false≢true (inv e ∙ s))

  still_consistent : (qs : Restriction) → Consistent qs → stands (against (avar m) z) qs ≡ false → Consistent (map (apply_non_equality (subst_a m z)) qs)
  still_consistent [] c s = tt
  still_consistent (q ∷ qs) c s =
      let w = or_none (same_non_equality q (against (avar m) z)) (stands (against (avar m) z) qs) s in
      (pick w.0 (same_atomic (bound q.left) (bound q.right)) refl, still_consistent qs c.1 w.1)
    where
      pick : same_non_equality q (against (avar m) z) ≡ false → (b : Bool) → same_atomic (bound q.left) (bound q.right) ≡ b → b ≡ false
      pick n true e = absurd (true≢false (inv (met q.left q.right c.0 e) ∙ n))
      pick n false e = refl

  -- a non-equality that stands is satisfied
  stands_apart : (θ : GroundSubst) (x y : AtomicExp) (ps : Restriction) → stands (against x y) ps ≡ true → Satisfies θ ps → ground_atomic θ x ≡ ground_atomic θ y → ⊥
  stands_apart θ x y [] e h k = false≢true e
  stands_apart θ x y (p ∷ ps) e h k =
      or_either (same_non_equality p (against x y)) (stands (against x y) ps) e
      (λ t. or_either (same_atomic p.left x && same_atomic p.right y) (same_atomic p.left y && same_atomic p.right x) t
      (λ u. let v = and_both (same_atomic p.left x) (same_atomic p.right y) u in h.0 (same p.left x v.0 ∙ k ∙ inv (same p.right y v.1)))
      (λ u. let v = and_both (same_atomic p.left y) (same_atomic p.right x) u in h.0 (same p.left y v.0 ∙ inv k ∙ inv (same p.right x v.1))))
      (λ t. stands_apart θ x y ps t h.1 k)
    where
      same : (a b : AtomicExp) → same_atomic a b ≡ true → ground_atomic θ a ≡ ground_atomic θ b
      same a b s = ap (ground_atomic θ) (same_atomic_eq a b s)

  -- the binding makes its two sides the same
  made_same : (θ : GroundSubst) → ground_atomic (compose_ground (subst_a m z) θ) (avar m) ≡ ground_atomic (compose_ground (subst_a m z) θ) z
  made_same θ = rw (eqb_same m) (other z)
    where
      both : (n : ℕ) (b : Bool) → ground_atomic θ (avar n) ≡ ground_atomic θ (cond b (avar n) (avar n))
      both n true = refl
      both n false = refl

      other : (y : AtomicExp) → ground_atomic θ y ≡ ground_atomic (compose_ground (subst_a m y) θ) y
      other (sym a) = refl
      other (avar n) = both n (eqb n m)

  -- THE LAW, both ways
  pub binding_contradicts : (qs : Restriction) → stands (against (avar m) z) qs ≡ true → is_none (subst_restriction (subst_a m z) qs) ≡ true
  binding_contradicts qs s = pick (subst_restriction (subst_a m z) qs) refl
    where
      pick : (o : Option Restriction) → subst_restriction (subst_a m z) qs ≡ o → is_none o ≡ true
      pick none e = refl
      pick (some out) e =
          let w = consistent_satisfiable out (simplify_consistent (map (apply_non_equality (subst_a m z)) qs) out e) in
          let v = satisfies_compose w.0 (subst_a m z) qs (simplify_sound w.0 (map (apply_non_equality (subst_a m z)) qs) out e w.1) in
          absurd (stands_apart (compose_ground (subst_a m z) w.0) (avar m) z qs s v (made_same w.0))

  pub binding_goes_on : (qs : Restriction) → simplify qs ≡ some qs → stands (against (avar m) z) qs ≡ false → is_none (subst_restriction (subst_a m z) qs) ≡ false
  binding_goes_on qs e s =
      let d = still_consistent qs (simplify_consistent qs qs e) s in
      let w = consistent_satisfiable (map (apply_non_equality (subst_a m z)) qs) d in
      let r = simplify_complete w.0 (map (apply_non_equality (subst_a m z)) qs) w.1 in
      rw r.1
