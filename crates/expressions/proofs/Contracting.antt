-- Contracting a cr-pair of any lawful kind (001, definition 25), and variables that are fresh for it.
use Prim.Native.Nat.{ℕ, ◌+◌, ◌<◌, ◌≤◌}
use mathlib.Core.Path.{◌≡◌, refl, ap, ap₂, subst, ◌∙◌, sym as inv}
use mathlib.Core.Bool.{Bool, true, false, cond}
use mathlib.Core.Option.{Option, none, some, none-ne-some, some-injective}
use native.Mathlib.Omega.{arith}
use lib.Dec.{eqb, ltb}
use borrow.Author.Tests.{eqb-false, ne_eqb, ltb-true, ltb-false}
use Rattle.expressions.specs.Expression.{Value, atom, cons, AtomicExp, sym, avar, Exp, atm, evar, pair}
use Rattle.expressions.specs.Substitution.{GroundSubst, ground_atomic, ground_exp, apply_atomic, apply, compose_ground, id_subst, subst_e, subst_a}
use Rattle.expressions.specs.Restriction.{Restriction, Satisfies, same_atomic}
use Rattle.expressions.specs.Contraction.{Construction, CRPair, InConcretization, Contraction, identity, contra, bind_e, bind_a, non_equal, subst_of, contract_restriction, apply_pair, contract, mk_bind, equality_contraction}
use Rattle.expressions.specs.Split.{InContracted}
use Rattle.expressions.specs.Intersection.{occurs}
use Rattle.expressions.proofs.Tests.{or_none, eqb_same, eqb_sym}
use Rattle.expressions.proofs.Filling.{ground_atomic_apply, ground_apply, Lawful, Holds, holds_compose}
use Rattle.expressions.proofs.Simplification.{same_atomic_eq, Consistent, Asks, contract_restriction_sound, contract_restriction_back, contract_restriction_complete, contract_restriction_consistent}

-- a binding whose variable does not stand in what it is bound to
abbrev pub OccursChecked : Contraction → Type 0
OccursChecked identity = Unit {0}
OccursChecked contra = Unit {0}
OccursChecked (bind_e n d) = occurs n d ≡ false
OccursChecked (bind_a n x) = same_atomic x (avar n) ≡ false
OccursChecked (non_equal x y) = Unit {0}

-- a variable that does not stand in an expression
pub absent : (n : ℕ) (d c : Exp) → occurs n c ≡ false → apply (subst_e n d) c ≡ c
absent n d (atm (sym z)) e = refl
absent n d (atm (avar m)) e = refl
absent n d (evar m) e = ap (λ (t : Bool). cond t d (evar m)) e
absent n d (pair a b) e = let r = or_none (occurs n a) (occurs n b) e in ap₂ pair (absent n d a r.0) (absent n d b r.1)

absent_atomic : (n : ℕ) (d x : AtomicExp) → same_atomic x (avar n) ≡ false → apply_atomic (subst_a n d) x ≡ x
absent_atomic n d (sym z) e = refl
absent_atomic n d (avar m) e = ap (λ (t : Bool). cond t d (avar m)) e

-- Behind its own substitution a contraction holds.
compose_holds : (κ : Contraction) (θ : GroundSubst) (qs out : Restriction) → contract_restriction κ qs ≡ some out → OccursChecked κ → Asks κ θ →
    Holds κ (compose_ground (subst_of κ) θ)
compose_holds identity θ qs out e p a = tt
compose_holds contra θ qs out e p a = none-ne-some _ e
compose_holds (bind_e n d) θ qs out e p a =
    ap (λ (t : Bool). ground_exp θ (cond t d (evar n))) (eqb_same n) ∙ ap (ground_exp θ) (inv (absent n d d p)) ∙ ground_apply θ (subst_e n d) d
compose_holds (bind_a n x) θ qs out e p a =
    ap (λ (t : Bool). ground_atomic θ (cond t x (avar n))) (eqb_same n) ∙ ap (ground_atomic θ) (inv (absent_atomic n x x p)) ∙ ground_atomic_apply θ (subst_a n x) x
compose_holds (non_equal x y) θ qs out e p a = λ f. a (same x ∙ f ∙ inv (same y))
  where
    same : (x : AtomicExp) → ground_atomic θ x ≡ ground_atomic (compose_ground id_subst θ) x
    same (sym z) = refl
    same (avar n) = refl

-- What makes two atomic expressions equal.
pub equality_occurs_checked : (x y : AtomicExp) → OccursChecked (equality_contraction x y)
equality_occurs_checked x y = pick (same_atomic x y) refl
  where
    mk : (x y : AtomicExp) → same_atomic x y ≡ false → OccursChecked (mk_bind x y)
    mk (sym y) (sym z) e = tt
    mk (sym y) (avar n) e = refl
    mk (avar m) (sym z) e = refl
    mk (avar m) (avar n) e = eqb_sym n m ∙ e

    pick : (t : Bool) → same_atomic x y ≡ t → OccursChecked (cond t identity (mk_bind x y))
    pick true e = tt
    pick false e = mk x y e

pub equal_holds : (θ : GroundSubst) (x y : AtomicExp) → ground_atomic θ x ≡ ground_atomic θ y → Holds (equality_contraction x y) θ
equal_holds θ x y f = pick (same_atomic x y) refl
  where
    mk : (x y : AtomicExp) → same_atomic x y ≡ false → ground_atomic θ x ≡ ground_atomic θ y → Holds (mk_bind x y) θ
    mk (sym y) (sym z) e f = eqb-false y z e f
    mk (sym y) (avar n) e f = inv f
    mk (avar m) y e f = f

    pick : (t : Bool) → same_atomic x y ≡ t → Holds (cond t identity (mk_bind x y)) θ
    pick true e = tt
    pick false e = mk x y e f

pub holds_equal : (θ : GroundSubst) (x y : AtomicExp) → Holds (equality_contraction x y) θ → ground_atomic θ x ≡ ground_atomic θ y
holds_equal θ x y h = pick (same_atomic x y) refl h
  where
    mk : (x y : AtomicExp) → Holds (mk_bind x y) θ → ground_atomic θ x ≡ ground_atomic θ y
    mk (sym y) (sym z) h = absurd h
    mk (sym y) (avar n) h = inv h
    mk (avar m) y h = h

    pick : (t : Bool) → same_atomic x y ≡ t → Holds (cond t identity (mk_bind x y)) θ → ground_atomic θ x ≡ ground_atomic θ y
    pick true e h = ap (ground_atomic θ) (same_atomic_eq x y e)
    pick false e h = mk x y h

-- What contracting promises: all that is used of it.
pub contracted : {K : Construction} (κ : Contraction) (P P' : CRPair K) → contract κ P ≡ some P' →
    (qs : Restriction) × (contract_restriction κ P.neqs ≡ some qs) × (record { con = K.apply (subst_of κ) P.con; neqs = qs } ≡ P')
contracted {K} κ P P' e = pick (contract_restriction κ P.neqs) refl e
  where
    pick : (o : Option Restriction) → contract_restriction κ P.neqs ≡ o → apply_pair (subst_of κ) P o ≡ some P' →
        (qs : Restriction) × (contract_restriction κ P.neqs ≡ some qs) × (record { con = K.apply (subst_of κ) P.con; neqs = qs } ≡ P')
    pick none f e = absurd (none-ne-some _ e)
    pick (some qs) f e = (qs, f, some-injective _ _ e)

-- what fills a contracted pair came of what fills the pair
source : {K : Construction} → Lawful K → (κ : Contraction) (P P' : CRPair K) → contract κ P ≡ some P' → (φ : GroundSubst) → Satisfies φ P'.neqs →
    Satisfies (compose_ground (subst_of κ) φ) P.neqs × (K.ground_exp (compose_ground (subst_of κ) φ) P.con ≡ K.ground_exp φ P'.con) ×
    (OccursChecked κ → Holds κ (compose_ground (subst_of κ) φ))
source {K} law κ P P' e φ h =
    let r = contracted κ P P' e in
    let s = contract_restriction_sound κ φ P.neqs r.0 r.1 (subst (λ (Q : CRPair K). Satisfies φ Q.neqs) (inv r.2) h) in (
      s.0,
      inv (law φ (subst_of κ) P.con) ∙ ap (λ (Q : CRPair K). K.ground_exp φ Q.con) r.2,
      λ pr. compose_holds κ φ P.neqs r.0 r.1 pr s.1,
    )

pub record Before {K : Construction} (κ : Contraction) (P P' : CRPair K) (φ : GroundSubst) : Type 0 where
  pub θ : GroundSubst
  pub sat : Satisfies θ P.neqs
  pub same : K.ground_exp θ P.con ≡ K.ground_exp φ P'.con
  pub holds : Holds κ θ

pub contract_back : {K : Construction} → Lawful K → (κ : Contraction) (P P' : CRPair K) → contract κ P ≡ some P' → OccursChecked κ →
    (φ : GroundSubst) → Satisfies φ P'.neqs → Before κ P P' φ
contract_back law κ P P' e pr φ h = let r = source law κ P P' e φ h in record { θ = compose_ground (subst_of κ) φ; sat = r.0; same = r.1; holds = r.2 pr }

-- a contraction never enlarges what a cr-pair represents (theorem 26)
pub contract_subset : {K : Construction} → Lawful K → (κ : Contraction) (P : CRPair K) (g : K.Ground) → InContracted (contract κ P) g → InConcretization P g
contract_subset {K} law κ P g = pick (contract κ P) refl
  where
    pick : (o : Option (CRPair K)) → contract κ P ≡ o → InContracted o g → InConcretization P g
    pick none e i = absurd i
    pick (some P') e i = let r = source law κ P P' e i.θ i.sat in record { θ = compose_ground (subst_of κ) i.θ; sat = r.0; is = r.1 ∙ i.is }

-- what fills a pair and agrees with the contraction fills the contracted one
pub record After {K : Construction} (κ : Contraction) (P : CRPair K) (θ : GroundSubst) : Type 0 where
  pub P' : CRPair K
  pub is : contract κ P ≡ some P'
  pub sat : Satisfies θ P'.neqs
  pub same : K.ground_exp θ P'.con ≡ K.ground_exp θ P.con

pub contract_forth : {K : Construction} → Lawful K → (κ : Contraction) (P : CRPair K) (θ : GroundSubst) → Holds κ θ → Satisfies θ P.neqs → After κ P θ
contract_forth {K} law κ P θ h k =
    let r = contract_restriction_complete κ θ P.neqs h k in
    record {
      P' = record { con = K.apply (subst_of κ) P.con; neqs = r.0 };
      is = ap (apply_pair (subst_of κ) P) r.1;
      sat = r.2;
      same = law θ (subst_of κ) P.con ∙ ap (λ (φ : GroundSubst). K.ground_exp φ P.con) (holds_compose κ θ h);
    }

pub contract_consistent : {K : Construction} (κ : Contraction) (P P' : CRPair K) → contract κ P ≡ some P' → Consistent P.neqs → Consistent P'.neqs
contract_consistent {K} κ P P' e c =
    let r = contracted κ P P' e in subst (λ (Q : CRPair K). Consistent Q.neqs) r.2 (contract_restriction_consistent κ P.neqs r.0 c r.1)

-- Fresh variables: nothing depends on a variable numbered k or above.
abbrev pub Agree : ℕ → GroundSubst → GroundSubst → Type 0
Agree k θ φ = ((n : ℕ) → n < k → θ.e n ≡ φ.e n) × ((n : ℕ) → n < k → θ.a n ≡ φ.a n)

abbrev pub FreshE : ℕ → Exp → Type 0
FreshE k c = (θ φ : GroundSubst) → Agree k θ φ → ground_exp θ c ≡ ground_exp φ c

abbrev pub FreshA : ℕ → AtomicExp → Type 0
FreshA k x = (θ φ : GroundSubst) → Agree k θ φ → ground_atomic θ x ≡ ground_atomic φ x

abbrev pub Fresh : {K : Construction} → ℕ → CRPair K → Type 0
Fresh {K} k P = (θ φ : GroundSubst) → Agree k θ φ → (K.ground_exp θ P.con ≡ K.ground_exp φ P.con) × (Satisfies θ P.neqs → Satisfies φ P.neqs)

pub agree_sym : (k : ℕ) (θ φ : GroundSubst) → Agree k θ φ → Agree k φ θ
agree_sym k θ φ a = ((λ n h. inv (a.0 n h)), (λ n h. inv (a.1 n h)))

pub agree_down : (j k : ℕ) → j ≤ k → (θ φ : GroundSubst) → Agree k θ φ → Agree j θ φ
agree_down j k l θ φ a = ((λ n h. a.0 n (omega arith)), (λ n h. a.1 n (omega arith)))

-- what a contraction puts in does not depend on fresh variables
abbrev pub FreshK : ℕ → Contraction → Type 0
FreshK k identity = Unit {0}
FreshK k contra = Unit {0}
FreshK k (bind_e n d) = FreshE k d
FreshK k (bind_a n x) = FreshA k x
FreshK k (non_equal x y) = FreshA k x × FreshA k y

compose_agree : (k : ℕ) (κ : Contraction) → FreshK k κ → (θ φ : GroundSubst) → Agree k θ φ → Agree k (compose_ground (subst_of κ) θ) (compose_ground (subst_of κ) φ)
compose_agree k identity f θ φ a = a
compose_agree k contra f θ φ a = a
compose_agree k (non_equal x y) f θ φ a = a
compose_agree k (bind_e n d) f θ φ a = ((λ m h. at m h (eqb m n)), a.1)
  where
    at : (m : ℕ) → m < k → (t : Bool) → ground_exp θ (cond t d (evar m)) ≡ ground_exp φ (cond t d (evar m))
    at m h true = f θ φ a
    at m h false = a.0 m h
compose_agree k (bind_a n x) f θ φ a = (a.0, (λ m h. at m h (eqb m n)))
  where
    at : (m : ℕ) → m < k → (t : Bool) → ground_atomic θ (cond t x (avar m)) ≡ ground_atomic φ (cond t x (avar m))
    at m h true = f θ φ a
    at m h false = a.1 m h

asks_agree : (k : ℕ) (κ : Contraction) → FreshK k κ → (θ φ : GroundSubst) → Agree k θ φ → Asks κ θ → Asks κ φ
asks_agree k identity f θ φ a h = tt
asks_agree k contra f θ φ a h = tt
asks_agree k (bind_e n d) f θ φ a h = tt
asks_agree k (bind_a n x) f θ φ a h = tt
asks_agree k (non_equal x y) f θ φ a h = λ e. h (f.0 θ φ a ∙ e ∙ inv (f.1 θ φ a))

pub contract_fresh : {K : Construction} → Lawful K → (k : ℕ) (κ : Contraction) (P P' : CRPair K) → contract κ P ≡ some P' → Fresh k P → FreshK k κ → Fresh k P'
contract_fresh {K} law k κ P P' e fP fκ = let r = contracted κ P P' e in subst (Fresh k) r.2 (at r.0 r.1)
  where
    at : (qs : Restriction) → contract_restriction κ P.neqs ≡ some qs → Fresh {K = K} k (record { con = K.apply (subst_of κ) P.con; neqs = qs })
    at qs f θ φ a =
        let r = fP (compose_ground (subst_of κ) θ) (compose_ground (subst_of κ) φ) (compose_agree k κ fκ θ φ a) in (
          law θ (subst_of κ) P.con ∙ r.0 ∙ inv (law φ (subst_of κ) P.con),
          λ h. let s = contract_restriction_sound κ θ P.neqs qs f h in contract_restriction_back κ φ P.neqs qs f (r.1 s.0) (asks_agree k κ fκ θ φ a s.1),
        )

-- A `?e` that is split: one ground_exp substitution for both branches.
abbrev pub head_of : Value → Value
head_of (atom z) = atom z
head_of (cons u v) = u

abbrev pub tail_of : Value → Value
tail_of (atom z) = atom z
tail_of (cons u v) = v

abbrev pub atom_in : Value → ℕ
atom_in (atom z) = z
atom_in (cons u v) = 0

abbrev pub extend_fresh : GroundSubst → ℕ → ℕ → GroundSubst
extend_fresh θ n k = record {
  e = λ m. cond (eqb m k) (head_of (θ.e n)) (cond (eqb m (k + 1)) (tail_of (θ.e n)) (θ.e m));
  a = λ m. cond (eqb m (k + 2)) (atom_in (θ.e n)) (θ.a m);
}

pub extend_fresh_agree : (θ : GroundSubst) (n k : ℕ) → Agree k θ (extend_fresh θ n k)
extend_fresh_agree θ n k = (
  (λ m h. rw (ne_eqb m k (λ e. omega arith), ne_eqb m (k + 1) (λ e. omega arith)) refl),
  (λ m h. rw (ne_eqb m (k + 2) (λ e. omega arith)) refl),
)

pub extend_fresh_head : (θ : GroundSubst) (n k : ℕ) → (extend_fresh θ n k).e k ≡ head_of (θ.e n)
extend_fresh_head θ n k = rw (eqb_same k) refl

pub extend_fresh_tail : (θ : GroundSubst) (n k : ℕ) → (extend_fresh θ n k).e (k + 1) ≡ tail_of (θ.e n)
extend_fresh_tail θ n k = rw (ne_eqb (k + 1) k (λ e. omega arith), eqb_same (k + 1)) refl

pub extend_fresh_atom : (θ : GroundSubst) (n k : ℕ) → (extend_fresh θ n k).a (k + 2) ≡ atom_in (θ.e n)
extend_fresh_atom θ n k = rw (eqb_same (k + 2)) refl

-- what does not depend on fresh variables is no fresh variable
pub fresh_below : (k n : ℕ) → FreshE k (evar n) → n < k
fresh_below k n f = pick (ltb n k) refl
  where
    zeroes : GroundSubst
    zeroes = record { e = λ m. atom 0; a = λ m. 0 }

    ones : GroundSubst
    ones = record { e = λ m. cond (eqb m n) (atom 1) (atom 0); a = λ m. 0 }

    one : k ≤ n → ◌≡◌ {A = ℕ} 0 1
    one l = ap atom_in (f zeroes ones ((λ m h. rw (ne_eqb m n (λ e. omega arith)) refl), (λ m h. refl)) ∙ ap (λ (t : Bool). cond t (atom 1) (atom 0)) (eqb_same n))

    pick : (t : Bool) → ltb n k ≡ t → n < k
    pick true e = ltb-true n k e
    pick false e = let z = one (ltb-false n k e) in omega arith
