-- What simplification keeps of a restriction (001, definition 8), and that what it leaves can be satisfied (proposition 22).
use Prim.Native.Nat.{ℕ, suc, ◌+◌, ◌≤◌, max}
use mathlib.Core.Path.{◌≡◌, refl, ap, subst, ◌∙◌, sym as inv}
use mathlib.Core.Bool.{Bool, true, false, cond, ◌&&◌, ◌||◌, false≢true}
use mathlib.Core.List.{[], ◌∷◌, ◌++◌, map}
use mathlib.Core.Option.{some, none-ne-some, some-injective}
use native.Mathlib.Omega.{arith}
use borrow.Author.Tests.{eqb-true, eqb-false}
use Rattle.expressions.specs.Expression.{atom, AtomicExp, sym, avar}
use Rattle.expressions.specs.Substitution.{GroundSubst, ground_atomic, Substitution, compose_ground, subst_e, subst_a}
use Rattle.expressions.specs.Restriction.{NonEquality, Restriction, Satisfies, same_atomic, same_non_equality, stands, is_symbol, Kind, contradiction, redundant, kept, kind, keep_or_drop, simplify_after, simplify, apply_non_equality}
use Rattle.expressions.specs.Contraction.{Contraction, identity, contra, bind_e, bind_a, non_equal, subst_of, contract_restriction}
use Rattle.expressions.specs.Split.{largest_restriction}
use Rattle.expressions.proofs.Tests.{or_either, and_both, eqb_same}
use Rattle.expressions.proofs.Filling.{ground_atomic_apply, Holds, holds_compose}

pub same_atomic_eq : (x y : AtomicExp) → same_atomic x y ≡ true → x ≡ y
same_atomic_eq (sym y) (sym z) e = ap sym (eqb-true y z e)
same_atomic_eq (sym y) (avar n) e = absurd (false≢true e)
same_atomic_eq (avar m) (sym z) e = absurd (false≢true e)
same_atomic_eq (avar m) (avar n) e = ap avar (eqb-true m n e)

pub same_atomic_same : (x : AtomicExp) → same_atomic x x ≡ true
same_atomic_same (sym z) = eqb_same z
same_atomic_same (avar n) = eqb_same n

-- a ground_exp substitution satisfies one non-equality
abbrev Apart : GroundSubst → NonEquality → Type 0
Apart θ q = ground_atomic θ q.left ≡ ground_atomic θ q.right → ⊥

same_ground : (θ : GroundSubst) (x y : AtomicExp) → same_atomic x y ≡ true → ground_atomic θ x ≡ ground_atomic θ y
same_ground θ x y e = ap (ground_atomic θ) (same_atomic_eq x y e)

same_apart : (θ : GroundSubst) (p q : NonEquality) → same_non_equality p q ≡ true → Apart θ p → Apart θ q
same_apart θ p q e h = or_either _ _ e
    (λ t k. let u = and_both _ _ t in h (same_ground θ p.left q.left u.0 ∙ k ∙ inv (same_ground θ p.right q.right u.1)))
    (λ t k. let u = and_both _ _ t in h (same_ground θ p.left q.right u.0 ∙ inv k ∙ inv (same_ground θ p.right q.left u.1)))

stands_apart : (θ : GroundSubst) (q : NonEquality) (ps : Restriction) → stands q ps ≡ true → Satisfies θ ps → Apart θ q
stands_apart θ q [] e h = absurd (false≢true e)
stands_apart θ q (p ∷ ps) e h = or_either (same_non_equality p q) (stands q ps) e (λ t. same_apart θ p q t h.0) (λ t. stands_apart θ q ps t h.1)

symbols_apart : (θ : GroundSubst) (x y : AtomicExp) → same_atomic x y ≡ false → (is_symbol x && is_symbol y) ≡ true → ground_atomic θ x ≡ ground_atomic θ y → ⊥
symbols_apart θ (sym y) (sym z) e t k = eqb-false y z e k
symbols_apart θ (sym y) (avar n) e t k = false≢true t
symbols_apart θ (avar m) y e t k = false≢true t

-- A non-equality that is dropped behind `done`: of two different symbols, or a repeat.
abbrev pub Dropped : Restriction → NonEquality → Type 0
Dropped done q = (same_atomic q.left q.right ≡ false) × (((is_symbol q.left && is_symbol q.right) || stands q done) ≡ true)

dropped_apart : (θ : GroundSubst) (done : Restriction) (q : NonEquality) → Dropped done q → Satisfies θ done → Apart θ q
dropped_apart θ done q d h = or_either (is_symbol q.left && is_symbol q.right) (stands q done) d.1
    (λ t. symbols_apart θ q.left q.right d.0 t) (λ t. stands_apart θ q done t h)

-- what each answer of `kind` says
abbrev pub Says : Restriction → NonEquality → Kind → Type 0
Says done q contradiction = q.left ≡ q.right
Says done q redundant = Dropped done q
Says done q kept = same_atomic q.left q.right ≡ false

pub says : (done : Restriction) (q : NonEquality) → Says done q (kind done q)
says done q = pick (same_atomic q.left q.right) refl ((is_symbol q.left && is_symbol q.right) || stands q done) refl
  where
    pick : (t : Bool) → same_atomic q.left q.right ≡ t → (u : Bool) → ((is_symbol q.left && is_symbol q.right) || stands q done) ≡ u →
        Says done q (cond t contradiction (cond u redundant kept))
    pick true e u f = same_atomic_eq _ _ e
    pick false e true f = (e, f)
    pick false e false f = e

pub satisfies_append : (θ : GroundSubst) (ps qs : Restriction) → Satisfies θ ps → Satisfies θ qs → Satisfies θ (ps ++ qs)
satisfies_append θ [] qs h k = k
satisfies_append θ (p ∷ ps) qs h k = (h.0, satisfies_append θ ps qs h.1 k)

pub append_satisfies : (θ : GroundSubst) (ps qs : Restriction) → Satisfies θ (ps ++ qs) → Satisfies θ ps × Satisfies θ qs
append_satisfies θ [] qs h = (tt, h)
append_satisfies θ (p ∷ ps) qs h = let r = append_satisfies θ ps qs h.1 in ((h.0, r.0), r.1)

after_sound : (θ : GroundSubst) (done qs out : Restriction) → simplify_after done qs ≡ some out → Satisfies θ out → Satisfies θ done × Satisfies θ qs
after_sound θ done [] out e h = (subst (Satisfies θ) (inv (some-injective _ _ e)) h, tt)
after_sound θ done (q ∷ qs) out e h = pick (kind done q) (says done q) e (λ d f. after_sound θ d qs out f h)
  where
    pick : (k : Kind) → Says done q k → keep_or_drop (λ d. simplify_after d qs) done q k ≡ some out →
        ((d : Restriction) → simplify_after d qs ≡ some out → Satisfies θ d × Satisfies θ qs) → Satisfies θ done × Satisfies θ (q ∷ qs)
    pick contradiction s f ih = absurd (none-ne-some _ f)
    pick redundant s f ih = let r = ih done f in (r.0, (dropped_apart θ done q s r.0, r.1))
    pick kept s f ih = let r = ih (done ++ (q ∷ [])) f in let u = append_satisfies θ done (q ∷ []) r.0 in (u.0, (u.1.0, r.1))

after_complete : (θ : GroundSubst) (done qs : Restriction) → Satisfies θ done → Satisfies θ qs → (out : Restriction) × (simplify_after done qs ≡ some out) × Satisfies θ out
after_complete θ done [] h k = (done, refl, h)
after_complete θ done (q ∷ qs) h k = pick (kind done q) (says done q) (λ d u. after_complete θ d qs u k.1)
  where
    pick : (t : Kind) → Says done q t → ((d : Restriction) → Satisfies θ d → (out : Restriction) × (simplify_after d qs ≡ some out) × Satisfies θ out) →
        (out : Restriction) × (keep_or_drop (λ d. simplify_after d qs) done q t ≡ some out) × Satisfies θ out
    pick contradiction s ih = absurd (k.0 (ap (ground_atomic θ) s))
    pick redundant s ih = ih done h
    pick kept s ih = ih (done ++ (q ∷ [])) (satisfies_append θ done (q ∷ []) h (k.0, tt))

-- no item against itself
abbrev pub Consistent : Restriction → Type 0
Consistent [] = Unit {0}
Consistent (q ∷ qs) = (same_atomic q.left q.right ≡ false) × Consistent qs

consistent_append : (ps qs : Restriction) → Consistent ps → Consistent qs → Consistent (ps ++ qs)
consistent_append [] qs h k = k
consistent_append (p ∷ ps) qs h k = (h.0, consistent_append ps qs h.1 k)

after_consistent : (done qs out : Restriction) → Consistent done → simplify_after done qs ≡ some out → Consistent out
after_consistent done [] out c e = subst Consistent (some-injective _ _ e) c
after_consistent done (q ∷ qs) out c e = pick (kind done q) (says done q) e (λ d u f. after_consistent d qs out u f)
  where
    pick : (k : Kind) → Says done q k → keep_or_drop (λ d. simplify_after d qs) done q k ≡ some out →
        ((d : Restriction) → Consistent d → simplify_after d qs ≡ some out → Consistent out) → Consistent out
    pick contradiction s f ih = absurd (none-ne-some _ f)
    pick redundant s f ih = ih done c f
    pick kept s f ih = ih (done ++ (q ∷ [])) (consistent_append done (q ∷ []) c (s, tt)) f

pub largest_append : (ps qs : Restriction) → largest_restriction (ps ++ qs) ≡ max (largest_restriction ps) (largest_restriction qs)
largest_append [] qs = omega arith
largest_append (p ∷ ps) qs = let r = largest_append ps qs in omega arith

after_largest : (done qs out : Restriction) → simplify_after done qs ≡ some out → largest_restriction out ≤ max (largest_restriction done) (largest_restriction qs)
after_largest done [] out e = rw (inv (some-injective _ _ e)) (omega arith)
after_largest done (q ∷ qs) out e = pick (kind done q) e (λ d f. after_largest d qs out f)
  where
    pick : (k : Kind) → keep_or_drop (λ d. simplify_after d qs) done q k ≡ some out →
        ((d : Restriction) → simplify_after d qs ≡ some out → largest_restriction out ≤ max (largest_restriction d) (largest_restriction qs)) →
        largest_restriction out ≤ max (largest_restriction done) (largest_restriction (q ∷ qs))
    pick contradiction f ih = absurd (none-ne-some _ f)
    pick redundant f ih = let r = ih done f in omega arith
    pick kept f ih = let r = ih (done ++ (q ∷ [])) f in let u = largest_append done (q ∷ []) in omega arith

-- What satisfies the simplified restriction satisfies the other.
pub simplify_sound : (θ : GroundSubst) (qs out : Restriction) → simplify qs ≡ some out → Satisfies θ out → Satisfies θ qs
simplify_sound θ qs out e h = (after_sound θ [] qs out e h).1

-- What satisfies a restriction satisfies it simplified; so a restriction that simplifies to a contradiction nothing satisfies.
pub simplify_complete : (θ : GroundSubst) (qs : Restriction) → Satisfies θ qs → (out : Restriction) × (simplify qs ≡ some out) × Satisfies θ out
simplify_complete θ qs h = after_complete θ [] qs tt h

pub simplify_back : (θ : GroundSubst) (qs out : Restriction) → simplify qs ≡ some out → Satisfies θ qs → Satisfies θ out
simplify_back θ qs out e h = let r = simplify_complete θ qs h in subst (Satisfies θ) (some-injective _ _ (inv r.1 ∙ e)) r.2

pub simplify_consistent : (qs out : Restriction) → simplify qs ≡ some out → Consistent out
simplify_consistent qs out e = after_consistent [] qs out tt e

pub simplify_largest : (qs out : Restriction) → simplify qs ≡ some out → largest_restriction out ≤ largest_restriction qs
simplify_largest qs out e = let r = after_largest [] qs out e in omega arith

-- A consistent restriction can be satisfied: each variable gets an atom of its own, above all the atoms that it names.
abbrev above : AtomicExp → ℕ
above (sym z) = suc z
above (avar n) = 0

abbrev above_all : Restriction → ℕ
above_all [] = 0
above_all (q ∷ qs) = max (max (above q.left) (above q.right)) (above_all qs)

abbrev pub distinct_atoms : ℕ → GroundSubst
distinct_atoms k = record { e = λ n. atom (k + n); a = λ n. k + n }

distinct_apart : (k : ℕ) (x y : AtomicExp) → same_atomic x y ≡ false → above x ≤ k → above y ≤ k → ground_atomic (distinct_atoms k) x ≡ ground_atomic (distinct_atoms k) y → ⊥
distinct_apart k (sym y) (sym z) e h i = eqb-false y z e
distinct_apart k (sym y) (avar n) e h i = λ f. omega arith
distinct_apart k (avar m) (sym z) e h i = λ f. omega arith
distinct_apart k (avar m) (avar n) e h i = λ f. eqb-false m n e (omega arith)

distinct_satisfies : (k : ℕ) (qs : Restriction) → Consistent qs → above_all qs ≤ k → Satisfies (distinct_atoms k) qs
distinct_satisfies k [] c h = tt
distinct_satisfies k (q ∷ qs) c h = (distinct_apart k q.left q.right c.0 (omega arith) (omega arith), distinct_satisfies k qs c.1 (omega arith))

-- .. and these atoms can be taken as high as one likes
pub consistent_distinct : (qs : Restriction) → Consistent qs → (b : ℕ) → (k : ℕ) × (b ≤ k) × Satisfies (distinct_atoms k) qs
consistent_distinct qs c b = (max b (above_all qs), omega arith, distinct_satisfies (max b (above_all qs)) qs c (omega arith))

pub consistent_satisfiable : (qs : Restriction) → Consistent qs → (θ : GroundSubst) × Satisfies θ qs
consistent_satisfiable qs c = let r = consistent_distinct qs c 0 in (distinct_atoms r.0, r.2)

-- Substituting in a restriction is substituting before it is filled.
pub satisfies_compose : (θ : GroundSubst) (s : Substitution) (qs : Restriction) → Satisfies θ (map (apply_non_equality s) qs) → Satisfies (compose_ground s θ) qs
satisfies_compose θ s [] h = tt
satisfies_compose θ s (q ∷ qs) h = ((λ f. h.0 (ground_atomic_apply θ s q.left ∙ f ∙ inv (ground_atomic_apply θ s q.right))), satisfies_compose θ s qs h.1)

pub compose_satisfies : (θ : GroundSubst) (s : Substitution) (qs : Restriction) → Satisfies (compose_ground s θ) qs → Satisfies θ (map (apply_non_equality s) qs)
compose_satisfies θ s [] h = tt
compose_satisfies θ s (q ∷ qs) h = ((λ f. h.0 (inv (ground_atomic_apply θ s q.left) ∙ f ∙ ground_atomic_apply θ s q.right)), compose_satisfies θ s qs h.1)

-- a `?e` stands in no non-equality
satisfies_atoms : (θ φ : GroundSubst) → ((n : ℕ) → θ.a n ≡ φ.a n) → (qs : Restriction) → Satisfies θ qs → Satisfies φ qs
satisfies_atoms θ φ p [] h = tt
satisfies_atoms θ φ p (q ∷ qs) h = ((λ f. h.0 (at q.left ∙ f ∙ inv (at q.right))), satisfies_atoms θ φ p qs h.1)
  where
    at : (x : AtomicExp) → ground_atomic θ x ≡ ground_atomic φ x
    at (sym z) = refl
    at (avar n) = p n

-- what a contraction asks beyond the non-equalities that were there
abbrev pub Asks : Contraction → GroundSubst → Type 0
Asks identity θ = Unit {0}
Asks contra θ = Unit {0}
Asks (bind_e n d) θ = Unit {0}
Asks (bind_a n x) θ = Unit {0}
Asks (non_equal x y) θ = ground_atomic θ x ≡ ground_atomic θ y → ⊥

abbrev under : ℕ → AtomicExp → Restriction → Restriction
under n x qs = map (apply_non_equality (subst_a n x)) qs

abbrev only : AtomicExp → AtomicExp → Restriction
only x y = record { left = x; right = y } ∷ []

pub contract_restriction_sound : (κ : Contraction) (θ : GroundSubst) (qs out : Restriction) → contract_restriction κ qs ≡ some out → Satisfies θ out →
    Satisfies (compose_ground (subst_of κ) θ) qs × Asks κ θ
contract_restriction_sound identity θ qs out e h = (subst (Satisfies θ) (inv (some-injective _ _ e)) h, tt)
contract_restriction_sound contra θ qs out e h = absurd (none-ne-some _ e)
contract_restriction_sound (bind_e n d) θ qs out e h =
    (satisfies_atoms θ (compose_ground (subst_e n d) θ) (λ m. refl) qs (subst (Satisfies θ) (inv (some-injective _ _ e)) h), tt)
contract_restriction_sound (bind_a n x) θ qs out e h = (satisfies_compose θ (subst_a n x) qs (simplify_sound θ (under n x qs) out e h), tt)
contract_restriction_sound (non_equal x y) θ qs out e h = let r = append_satisfies θ qs (only x y) (simplify_sound θ (qs ++ only x y) out e h) in (r.0, r.1.0)

pub contract_restriction_back : (κ : Contraction) (θ : GroundSubst) (qs out : Restriction) → contract_restriction κ qs ≡ some out →
    Satisfies (compose_ground (subst_of κ) θ) qs → Asks κ θ → Satisfies θ out
contract_restriction_back identity θ qs out e h k = subst (Satisfies θ) (some-injective _ _ e) h
contract_restriction_back contra θ qs out e h k = absurd (none-ne-some _ e)
contract_restriction_back (bind_e n d) θ qs out e h k =
    subst (Satisfies θ) (some-injective _ _ e) (satisfies_atoms (compose_ground (subst_e n d) θ) θ (λ m. refl) qs h)
contract_restriction_back (bind_a n x) θ qs out e h k = simplify_back θ (under n x qs) out e (compose_satisfies θ (subst_a n x) qs h)
contract_restriction_back (non_equal x y) θ qs out e h k = simplify_back θ (qs ++ only x y) out e (satisfies_append θ qs (only x y) h (k, tt))

pub contract_restriction_complete : (κ : Contraction) (θ : GroundSubst) (qs : Restriction) → Holds κ θ → Satisfies θ qs →
    (out : Restriction) × (contract_restriction κ qs ≡ some out) × Satisfies θ out
contract_restriction_complete identity θ qs h k = (qs, refl, k)
contract_restriction_complete contra θ qs h k = absurd h
contract_restriction_complete (bind_e n d) θ qs h k = (qs, refl, k)
contract_restriction_complete (bind_a n x) θ qs h k =
    simplify_complete θ (under n x qs) (compose_satisfies θ (subst_a n x) qs (subst (λ (φ : GroundSubst). Satisfies φ qs) (inv (holds_compose (bind_a n x) θ h)) k))
contract_restriction_complete (non_equal x y) θ qs h k = simplify_complete θ (qs ++ only x y) (satisfies_append θ qs (only x y) k (h, tt))

pub contract_restriction_consistent : (κ : Contraction) (qs out : Restriction) → Consistent qs → contract_restriction κ qs ≡ some out → Consistent out
contract_restriction_consistent identity qs out c e = subst Consistent (some-injective _ _ e) c
contract_restriction_consistent contra qs out c e = absurd (none-ne-some _ e)
contract_restriction_consistent (bind_e n d) qs out c e = subst Consistent (some-injective _ _ e) c
contract_restriction_consistent (bind_a n x) qs out c e = simplify_consistent (under n x qs) out e
contract_restriction_consistent (non_equal x y) qs out c e = simplify_consistent (qs ++ only x y) out e
