-- Perfect splits (001, theorem 31), for cr-pairs of any lawful kind.
use Prim.Native.Nat.{ℕ, ◌+◌, ◌<◌}
use mathlib.Core.Path.{◌≡◌, refl, ap, ap₂, subst, ◌∙◌, sym as inv}
use mathlib.Core.Bool.{Bool, true, false, ◌||◌, false≢true}
use mathlib.Core.List.{List, [], ◌∷◌}
use mathlib.Core.Option.{Option, none, some}
use mathlib.Core.Logic.{◌⊎◌, inl, inr}
use native.Mathlib.Omega.{arith}
use lib.Dec.{eqb}
use borrow.Author.Tests.{eqb-true, eqb-false, ne_eqb}
use Rattle.expressions.specs.Expression.{Value, atom, cons, AtomicExp, sym, avar, Exp, atm, evar, pair}
use Rattle.expressions.specs.Substitution.{GroundSubst, ground_atomic, ground_exp}
use Rattle.expressions.specs.Restriction.{Satisfies, same_atomic}
use Rattle.expressions.specs.Contraction.{Construction, CRPair, InConcretization, Contraction, identity, contra, bind_e, non_equal, contract, equality_contraction}
use Rattle.expressions.specs.Class.{sequence}
use Rattle.expressions.specs.Split.{take_numbers, Split, split_atomic, split_exp, InContracted, Perfect}
use Rattle.expressions.specs.Intersection.{occurs}
use Rattle.expressions.proofs.Tests.{or_either}
use Rattle.expressions.proofs.Filling.{Lawful, Holds}
use Rattle.expressions.proofs.Simplification.{same_atomic_eq}
use Rattle.expressions.proofs.Contracting.{OccursChecked, equality_occurs_checked, equal_holds, holds_equal, contract_back, contract_subset, After, contract_forth, Fresh, head_of, tail_of, atom_in, extend_fresh, extend_fresh_agree, extend_fresh_head, extend_fresh_tail, extend_fresh_atom, fresh_below}

-- A contracted cr-pair represents what the pair does by the ground_exp substitutions of which the contraction holds.
pub record Represents {K : Construction} (κ : Contraction) (P : CRPair K) (g : K.Ground) : Type 0 where
  pub θ : GroundSubst
  pub sat : Satisfies θ P.neqs
  pub is : K.ground_exp θ P.con ≡ g
  pub holds : Holds κ θ

pub contracted_represents : {K : Construction} → Lawful K → (κ : Contraction) → OccursChecked κ → (P : CRPair K) (g : K.Ground) →
    InContracted (contract κ P) g → Represents κ P g
contracted_represents {K} law κ pr P g = pick (contract κ P) refl
  where
    pick : (o : Option (CRPair K)) → contract κ P ≡ o → InContracted o g → Represents κ P g
    pick none e i = absurd i
    pick (some P') e i = let b = contract_back law κ P P' e pr i.θ i.sat in record { θ = b.θ; sat = b.sat; is = b.same ∙ i.is; holds = b.holds }

pub represents_contracted : {K : Construction} → Lawful K → (κ : Contraction) (P : CRPair K) (g : K.Ground) → Represents κ P g → InContracted (contract κ P) g
represents_contracted {K} law κ P g r = at (contract_forth law κ P r.θ r.holds r.sat)
  where
    at : After κ P r.θ → InContracted (contract κ P) g
    at a = subst (λ (o : Option (CRPair K)). InContracted o g) (inv a.is) (record { θ = r.θ; sat = a.sat; is = a.same ∙ r.is })

-- So a split is perfect if each ground_exp substitution has a like one of which one of its sides holds, and none of both.
perfect : {K : Construction} → Lawful K → (P : CRPair K) (s : Split) → OccursChecked s.yes → OccursChecked s.no →
    ((g : K.Ground) → InConcretization P g → Represents s.yes P g ⊎ Represents s.no P g) →
    ((θ φ : GroundSubst) → K.ground_exp θ P.con ≡ K.ground_exp φ P.con → Holds s.yes θ → Holds s.no φ → ⊥) → Perfect P s
perfect {K} law P s py pn cover apart = record {
  whole = λ g. ((λ i. to g (cover g i)), of g);
  apart = λ g a b.
      let y = contracted_represents law s.yes py P g a in
      let n = contracted_represents law s.no pn P g b in
      apart y.θ n.θ (y.is ∙ inv n.is) y.holds n.holds;
}
  where
    to : (g : K.Ground) → Represents s.yes P g ⊎ Represents s.no P g → InContracted (contract s.yes P) g ⊎ InContracted (contract s.no P) g
    to g (inl r) = inl (represents_contracted law s.yes P g r)
    to g (inr r) = inr (represents_contracted law s.no P g r)

    of : (g : K.Ground) → InContracted (contract s.yes P) g ⊎ InContracted (contract s.no P) g → InConcretization P g
    of g (inl i) = contract_subset law s.yes P g i
    of g (inr i) = contract_subset law s.no P g i

-- (1) the identity and the contradiction
pub trivial_perfect : {K : Construction} → Lawful K → (P : CRPair K) → Perfect P (record { yes = identity; no = contra })
trivial_perfect law P =
    perfect law P (record { yes = identity; no = contra }) tt tt (λ g i. inl (record { θ = i.θ; sat = i.sat; is = i.is; holds = tt })) (λ θ φ e y n. n)

-- 001 asks that a variable that is split stands in the construction. What is used of this: the construction, filled, determines its value.
abbrev pub Determines : (K : Construction) → K.Con → ℕ → Type 0
Determines K c n = (θ φ : GroundSubst) → K.ground_exp θ c ≡ K.ground_exp φ c → θ.e n ≡ φ.e n

abbrev pub DeterminesAtomic : (K : Construction) → K.Con → AtomicExp → Type 0
DeterminesAtomic K c x = (θ φ : GroundSubst) → K.ground_exp θ c ≡ K.ground_exp φ c → ground_atomic θ x ≡ ground_atomic φ x

pub symbol_determined : (K : Construction) (c : K.Con) (z : ℕ) → DeterminesAtomic K c (sym z)
symbol_determined K c z θ φ e = refl

-- (2) and (3): two atomic expressions are equal or not
pub split_atomic_perfect : {K : Construction} → Lawful K → (P : CRPair K) (x y : AtomicExp) → DeterminesAtomic K P.con x → DeterminesAtomic K P.con y →
    Perfect P (split_atomic x y)
split_atomic_perfect {K} law P x y dx dy =
    perfect law P (split_atomic x y) (equality_occurs_checked x y) tt (λ g i. pick g i (eqb (ground_atomic i.θ x) (ground_atomic i.θ y)) refl)
    (λ θ φ e h k. k (inv (dx θ φ e) ∙ holds_equal θ x y h ∙ dy θ φ e))
  where
    pick : (g : K.Ground) (i : InConcretization P g) (t : Bool) → eqb (ground_atomic i.θ x) (ground_atomic i.θ y) ≡ t →
        Represents (equality_contraction x y) P g ⊎ Represents (non_equal x y) P g
    pick g i true e = inl (record { θ = i.θ; sat = i.sat; is = i.is; holds = equal_holds i.θ x y (eqb-true _ _ e) })
    pick g i false e = inr (record { θ = i.θ; sat = i.sat; is = i.is; holds = eqb-false _ _ e })

-- (4) a `?e` stands for a pair or for an atom; k is the first number that is fresh for the pair
abbrev IsPair : Value → Type 0
IsPair (atom z) = ⊥
IsPair (cons u v) = Unit {0}

pub split_exp_perfect : {K : Construction} → Lawful K → (P : CRPair K) (n k : ℕ) → Fresh k P → Determines K P.con n → Perfect P (split_exp n (take_numbers k))
split_exp_perfect {K} law P n k f d =
    perfect law P (split_exp n (take_numbers k)) (ap₂ ◌||◌ (ne_eqb k n (λ e. omega (arith, below))) (ne_eqb (k + 1) n (λ e. omega (arith, below)))) refl
    (λ g i. pick g i (i.θ.e n) refl)
    (λ θ φ e h l. subst IsPair (inv h ∙ d θ φ e ∙ l) tt)
  where
    below : n < k
    below = fresh_below k n (λ θ φ a. d θ φ (f θ φ a).0)

    represented : (κ : Contraction) (g : K.Ground) (i : InConcretization P g) → Holds κ (extend_fresh i.θ n k) → Represents κ P g
    represented κ g i h =
        let a = extend_fresh_agree i.θ n k in
        let r = f i.θ (extend_fresh i.θ n k) a in
        record { θ = extend_fresh i.θ n k; sat = r.1 i.sat; is = inv r.0 ∙ i.is; holds = h }

    kept : (θ : GroundSubst) → (extend_fresh θ n k).e n ≡ θ.e n
    kept θ = inv ((extend_fresh_agree θ n k).0 n below)

    pick : (g : K.Ground) (i : InConcretization P g) (v : Value) → i.θ.e n ≡ v →
        Represents (bind_e n (pair (evar k) (evar (k + 1)))) P g ⊎ Represents (bind_e n (atm (avar (k + 2)))) P g
    pick g i (atom z) e = inr (represented (bind_e n (atm (avar (k + 2)))) g i
        (kept i.θ ∙ e ∙ ap atom (inv (extend_fresh_atom i.θ n k ∙ ap atom_in e))))
    pick g i (cons u v) e = inl (represented (bind_e n (pair (evar k) (evar (k + 1)))) g i
        (kept i.θ ∙ e ∙ ap₂ cons (inv (extend_fresh_head i.θ n k ∙ ap head_of e)) (inv (extend_fresh_tail i.θ n k ∙ ap tail_of e))))

-- A variable that stands in a member of a sequence is determined by it.
abbrev pub occurs_in : ℕ → List Exp → Bool
occurs_in n [] = false
occurs_in n (c ∷ cs) = occurs n c || occurs_in n cs

occurs_determined : (n : ℕ) (c : Exp) → occurs n c ≡ true → (θ φ : GroundSubst) → ground_exp θ c ≡ ground_exp φ c → θ.e n ≡ φ.e n
occurs_determined n (atm x) o θ φ e = absurd (false≢true o)
occurs_determined n (evar m) o θ φ e = rw (inv (eqb-true m n o)) e
occurs_determined n (pair c d) o θ φ e =
    or_either (occurs n c) (occurs n d) o (λ t. occurs_determined n c t θ φ (ap head_of e)) (λ t. occurs_determined n d t θ φ (ap tail_of e))

pub sequence_determines : (n : ℕ) (cs : List Exp) → occurs_in n cs ≡ true → Determines sequence cs n
sequence_determines n [] o θ φ e = absurd (false≢true o)
sequence_determines n (c ∷ cs) o θ φ e = or_either (occurs n c) (occurs_in n cs) o (λ t. occurs_determined n c t θ φ (cc)) (λ t. sequence_determines n cs t θ φ (cc))

-- .. and so is a `?a`
abbrev pub occurs_atomic : ℕ → Exp → Bool
occurs_atomic n (atm x) = same_atomic x (avar n)
occurs_atomic n (evar m) = false
occurs_atomic n (pair c d) = occurs_atomic n c || occurs_atomic n d

abbrev pub occurs_atomic_in : ℕ → List Exp → Bool
occurs_atomic_in n [] = false
occurs_atomic_in n (c ∷ cs) = occurs_atomic n c || occurs_atomic_in n cs

occurs_atomic_determined : (n : ℕ) (c : Exp) → occurs_atomic n c ≡ true → (θ φ : GroundSubst) → ground_exp θ c ≡ ground_exp φ c → θ.a n ≡ φ.a n
occurs_atomic_determined n (atm x) o θ φ e = ap (ground_atomic θ) (inv (same_atomic_eq x (avar n) o)) ∙ ap atom_in e ∙ ap (ground_atomic φ) (same_atomic_eq x (avar n) o)
occurs_atomic_determined n (evar m) o θ φ e = absurd (false≢true o)
occurs_atomic_determined n (pair c d) o θ φ e =
    or_either (occurs_atomic n c) (occurs_atomic n d) o (λ t. occurs_atomic_determined n c t θ φ (ap head_of e)) (λ t. occurs_atomic_determined n d t θ φ (ap tail_of e))

pub sequence_determines_atomic : (n : ℕ) (cs : List Exp) → occurs_atomic_in n cs ≡ true → DeterminesAtomic sequence cs (avar n)
sequence_determines_atomic n [] o θ φ e = absurd (false≢true o)
sequence_determines_atomic n (c ∷ cs) o θ φ e =
    or_either (occurs_atomic n c) (occurs_atomic_in n cs) o (λ t. occurs_atomic_determined n c t θ φ (cc)) (λ t. sequence_determines_atomic n cs t θ φ (cc))
