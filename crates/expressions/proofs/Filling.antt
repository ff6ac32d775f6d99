-- Filling and substituting compose (001, definition 19 and proposition 20), and what a contraction asks of a filling.
use Prim.Native.Nat.{ℕ}
use mathlib.Core.Path.{◌≡◌, refl, ap, ap₂, ◌∙◌, sym as inv}
use mathlib.Core.Bool.{Bool, true, false, cond}
use mathlib.Core.List.{List, [], ◌∷◌}
use lib.Dec.{eqb}
use borrow.Author.Tests.{eqb-true}
use Rattle.expressions.specs.Expression.{Value, atom, cons, AtomicExp, sym, avar, Exp, atm, evar, pair}
use Rattle.expressions.specs.Substitution.{GroundSubst, ground_atomic, ground_exp, ground_all, Substitution, apply_atomic, apply, apply_all, compose, compose_ground, id_subst}
use Rattle.expressions.specs.Contraction.{Construction, Contraction, identity, contra, bind_e, bind_a, non_equal, subst_of}
use Rattle.expressions.specs.Class.{IOPair, apply_io, ground_io, sequence, io_pair}
use Rattle.expressions.specs.Intersection.{meeting}

pub ground_atomic_apply : (θ : GroundSubst) (s : Substitution) (x : AtomicExp) → ground_atomic θ (apply_atomic s x) ≡ ground_atomic (compose_ground s θ) x
ground_atomic_apply θ s (sym z) = refl
ground_atomic_apply θ s (avar n) = refl

pub ground_apply : (θ : GroundSubst) (s : Substitution) (c : Exp) → ground_exp θ (apply s c) ≡ ground_exp (compose_ground s θ) c
ground_apply θ s (atm x) = ap atom (ground_atomic_apply θ s x)
ground_apply θ s (evar n) = refl
ground_apply θ s (pair c d) = ap₂ cons (ground_apply θ s c) (ground_apply θ s d)

pub ground_all_apply : (θ : GroundSubst) (s : Substitution) (cs : List Exp) → ground_all θ (apply_all s cs) ≡ ground_all (compose_ground s θ) cs
ground_all_apply θ s [] = refl
ground_all_apply θ s (c ∷ cs) = ap₂ {C = List Value} ◌∷◌ (ground_apply θ s c) (ground_all_apply θ s cs)

pub ground_io_apply : (θ : GroundSubst) (s : Substitution) (c : IOPair) → ground_io θ (apply_io s c) ≡ ground_io (compose_ground s θ) c
ground_io_apply θ s c = λ i. record { ins = ground_all_apply θ s c.ins i; out = ground_apply θ s c.out i }

-- the same of two substitutions
pub apply_atomic_compose : (s t : Substitution) (x : AtomicExp) → apply_atomic t (apply_atomic s x) ≡ apply_atomic (compose s t) x
apply_atomic_compose s t (sym z) = refl
apply_atomic_compose s t (avar n) = refl

pub apply_compose : (s t : Substitution) (c : Exp) → apply t (apply s c) ≡ apply (compose s t) c
apply_compose s t (atm x) = ap atm (apply_atomic_compose s t x)
apply_compose s t (evar n) = refl
apply_compose s t (pair c d) = ap₂ pair (apply_compose s t c) (apply_compose s t d)

pub apply_all_compose : (s t : Substitution) (cs : List Exp) → apply_all t (apply_all s cs) ≡ apply_all (compose s t) cs
apply_all_compose s t [] = refl
apply_all_compose s t (c ∷ cs) = ap₂ {C = List Exp} ◌∷◌ (apply_compose s t c) (apply_all_compose s t cs)

pub apply_io_compose : (s t : Substitution) (c : IOPair) → apply_io t (apply_io s c) ≡ apply_io (compose s t) c
apply_io_compose s t c = λ i. record { ins = apply_all_compose s t c.ins i; out = apply_compose s t c.out i }

-- the identity changes nothing
pub apply_atomic_id : (x : AtomicExp) → apply_atomic id_subst x ≡ x
apply_atomic_id (sym z) = refl
apply_atomic_id (avar n) = refl

pub apply_id : (c : Exp) → apply id_subst c ≡ c
apply_id (atm x) = ap atm (apply_atomic_id x)
apply_id (evar n) = refl
apply_id (pair c d) = ap₂ pair (apply_id c) (apply_id d)

pub apply_all_id : (cs : List Exp) → apply_all id_subst cs ≡ cs
apply_all_id [] = refl
apply_all_id (c ∷ cs) = ap₂ {C = List Exp} ◌∷◌ (apply_id c) (apply_all_id cs)

pub apply_io_id : (c : IOPair) → apply_io id_subst c ≡ c
apply_io_id c = λ i. record { ins = apply_all_id c.ins i; out = apply_id c.out i }

-- two ground_exp substitutions with the same values are one
pub ground_ext : (θ φ : GroundSubst) → ((n : ℕ) → θ.e n ≡ φ.e n) → ((n : ℕ) → θ.a n ≡ φ.a n) → θ ≡ φ
ground_ext θ φ p q = λ i. record { e = λ n. p n i; a = λ n. q n i }

pub compose_ground_compose : (s t : Substitution) (θ : GroundSubst) → compose_ground (compose s t) θ ≡ compose_ground s (compose_ground t θ)
compose_ground_compose s t θ = ground_ext _ _ (λ n. ground_apply θ t (s.e n)) (λ n. ground_atomic_apply θ t (s.a n))

-- What the laws of contracting ask of a kind of c-construction.
abbrev pub Lawful : Construction → Type 0
Lawful K = (θ : GroundSubst) (s : Substitution) (c : K.Con) → K.ground_exp θ (K.apply s c) ≡ K.ground_exp (compose_ground s θ) c

pub sequence_lawful : Lawful sequence
sequence_lawful = ground_all_apply

pub io_pair_lawful : Lawful io_pair
io_pair_lawful = ground_io_apply

pub meeting_lawful : Lawful meeting
meeting_lawful θ s m = λ i. record { io = ground_io_apply θ s m.io i; output = ground_apply θ s m.output i }

-- What a contraction asks of a ground_exp substitution.
abbrev pub Holds : Contraction → GroundSubst → Type 0
Holds identity θ = Unit {0}
Holds contra θ = ⊥
Holds (bind_e n d) θ = θ.e n ≡ ground_exp θ d
Holds (bind_a n x) θ = θ.a n ≡ ground_atomic θ x
Holds (non_equal x y) θ = ground_atomic θ x ≡ ground_atomic θ y → ⊥

-- A ground_exp substitution of which a binding holds is the same behind the binding's substitution.
pub holds_compose : (κ : Contraction) (θ : GroundSubst) → Holds κ θ → compose_ground (subst_of κ) θ ≡ θ
holds_compose identity θ h = refl
holds_compose contra θ h = absurd h
holds_compose (non_equal x y) θ h = refl
holds_compose (bind_e n d) θ h = ground_ext _ _ (λ m. at m (eqb m n) refl) (λ m. refl)
  where
    at : (m : ℕ) (t : Bool) → eqb m n ≡ t → ground_exp θ (cond t d (evar m)) ≡ θ.e m
    at m true e = inv h ∙ ap θ.e (inv (eqb-true m n e))
    at m false e = refl
holds_compose (bind_a n x) θ h = ground_ext _ _ (λ m. refl) (λ m. at m (eqb m n) refl)
  where
    at : (m : ℕ) (t : Bool) → eqb m n ≡ t → ground_atomic θ (cond t x (avar m)) ≡ θ.a m
    at m true e = inv h ∙ ap θ.a (inv (eqb-true m n e))
    at m false e = refl
