-- The laws of the sets of values: 001, sections 4 and 5, for cr-pairs of any lawful kind.
use Prim.Native.Nat.{ℕ, ◌≤◌}
use mathlib.Core.Path.{◌≡◌, refl, ap, ◌∙◌, sym as inv}
use mathlib.Core.Option.{none, some, bind, none-ne-some}
use mathlib.Core.Logic.{◌↔◌}
use Rattle.expressions.specs.Expression.{AtomicExp, Exp}
use Rattle.expressions.specs.Substitution.{GroundSubst, ground_exp, Substitution, apply, compose, compose_ground}
use Rattle.expressions.specs.Restriction.{Restriction, simplify, add, subst_restriction}
use Rattle.expressions.specs.Contraction.{Construction, CRPair, InConcretization, Contraction, identity, contra, contract}
use Rattle.expressions.specs.Class.{GroundPair, IOClass}
use Rattle.expressions.specs.Split.{take_numbers, split_atomic, split_exp, InContracted, Perfect}
use Rattle.expressions.specs.Intersection.{meeting, GroundMeeting, Intersected, common, disjoint, too_large, NodeLimit, unify, bindings_enough, intersect, no_limit}
use Rattle.expressions.proofs.Filling.{ground_apply, apply_compose, Lawful}
use Rattle.expressions.proofs.Simplification.{simplify_complete, Consistent, consistent_satisfiable, simplify_consistent}
use Rattle.expressions.proofs.KeptOrder.{Subsequence, simplify_order}
use Rattle.expressions.proofs.Combination.{simplify_idempotent, subst_subst, add_add, add_subst}
use Rattle.expressions.proofs.Contracting.{contract_subset, Fresh}
use Rattle.expressions.proofs.Splitting.{represents_contracted, trivial_perfect, Determines, DeterminesAtomic, split_atomic_perfect, split_exp_perfect}
use Rattle.expressions.proofs.Unification.{intersect_unified, intersect_sound, intersect_found, intersect_disjoint, limited_common, limited_disjoint, unlimited_fits, more_fuel}

-- "Filling by one substitution and then another equals filling by their composition." (definition 19, proposition 20)
pub filling_composes : (s t : Substitution) (c : Exp) → apply t (apply s c) ≡ apply (compose s t) c
filling_composes = apply_compose

-- the same where the second is ground_exp
pub ground_filling_composes : (s : Substitution) (θ : GroundSubst) (c : Exp) → ground_exp θ (apply s c) ≡ ground_exp (compose_ground s θ) c
ground_filling_composes s θ c = ground_apply θ s c

-- proposition 22: a restriction that simplifies to no contradiction has a filling, so the cr-pair represents something ..
pub consistent_inhabited : {K : Construction} (P : CRPair K) → Consistent P.neqs → (g : K.Ground) × InConcretization P g
consistent_inhabited {K} P c = let r = consistent_satisfiable P.neqs c in (K.ground_exp r.0 P.con, record { θ = r.0; sat = r.1; is = refl })

pub simplified_consistent : (qs out : Restriction) → simplify qs ≡ some out → Consistent out
simplified_consistent = simplify_consistent

-- .. and a contradiction has none
pub contradiction_empty : {K : Construction} (P : CRPair K) → simplify P.neqs ≡ none → (g : K.Ground) → InConcretization P g → ⊥
contradiction_empty P e g i = none-ne-some _ (inv e ∙ (simplify_complete i.θ P.neqs i.sat).1)

-- definition 8: simplifying keeps some of the non-equalities, in their order, and once is enough
pub simplified_order : (qs out : Restriction) → simplify qs ≡ some out → Subsequence out qs
simplified_order = simplify_order

pub simplified_again : (qs out : Restriction) → simplify qs ≡ some out → simplify out ≡ some out
simplified_again = simplify_idempotent

-- theorem 26: contracting implies subset
pub contracting_subset : {K : Construction} → Lawful K → (κ : Contraction) (P : CRPair K) (g : K.Ground) → InContracted (contract κ P) g → InConcretization P g
contracting_subset = contract_subset

-- definition 27: the identity changes nothing ..
pub identity_same : {K : Construction} → Lawful K → (P : CRPair K) (g : K.Ground) → InContracted (contract identity P) g ↔ InConcretization P g
identity_same law P g = (contract_subset law identity P g, λ i. represents_contracted law identity P g (record { θ = i.θ; sat = i.sat; is = i.is; holds = tt }))

-- .. and the contradiction leaves nothing
pub contradiction_nothing : {K : Construction} (P : CRPair K) → contract contra P ≡ none
contradiction_nothing P = refl

-- proposition 28, SS → S
pub combine_substitutions : (s t : Substitution) (qs : Restriction) → bind (subst_restriction s qs) (subst_restriction t) ≡ subst_restriction (compose s t) qs
combine_substitutions = subst_subst

-- proposition 28, RR → R
pub combine_restrictions : (qs rs us : Restriction) → bind (add qs rs) (λ o. add o us) ≡ bind (add rs us) (add qs)
combine_restrictions = add_add

-- proposition 28, RS → SR (and proposition 15)
pub combine_both : (t : Substitution) (qs rs : Restriction) → bind (add qs rs) (subst_restriction t) ≡ bind (subst_restriction t qs) (λ o. bind (subst_restriction t rs) (add o))
combine_both = add_subst

-- theorem 31 (1)
pub perfect_trivial : {K : Construction} → Lawful K → (P : CRPair K) → Perfect P (record { yes = identity; no = contra })
perfect_trivial = trivial_perfect

-- theorem 31 (2) and (3)
pub perfect_atomic : {K : Construction} → Lawful K → (P : CRPair K) (x y : AtomicExp) → DeterminesAtomic K P.con x → DeterminesAtomic K P.con y → Perfect P (split_atomic x y)
perfect_atomic = split_atomic_perfect

-- theorem 31 (4)
pub perfect_exp : {K : Construction} → Lawful K → (P : CRPair K) (n k : ℕ) → Fresh k P → Determines K P.con n → Perfect P (split_exp n (take_numbers k))
perfect_exp = split_exp_perfect

-- What is in both: a pair of the class whose output is the one that was reached.
abbrev pub InBoth : CRPair meeting → GroundPair → Type 0
InBoth P g = InConcretization P (record { io = g; output = g.out })

both_meet : (P : CRPair meeting) (g : GroundPair) (i : InBoth P g) → ground_exp i.θ P.con.io.out ≡ ground_exp i.θ P.con.output
both_meet P g i = ap (λ (m : GroundMeeting). m.io.out) i.is ∙ inv (ap (λ (m : GroundMeeting). m.output) i.is)

-- theorem 37: the common class represents what is in both ..
pub intersection_exact : (over : NodeLimit) (P : CRPair meeting) (Q : IOClass) → intersect over P ≡ common Q → (g : GroundPair) → InConcretization Q g ↔ InBoth P g
intersection_exact over P Q e g = (to, of)
  where
    to : InConcretization Q g → InBoth P g
    to i = let r = intersect_sound over P Q e i.θ i.sat in
        record { θ = r.0; sat = r.1; is = λ k. record { io = (r.2 ∙ i.is) k; output = (inv r.3 ∙ ap (λ (x : GroundPair). x.out) (r.2 ∙ i.is)) k } }

    of : InBoth P g → InConcretization Q g
    of i = let r = intersect_found over P Q e i.θ i.sat (both_meet P g i) in
        record { θ = i.θ; sat = r.0; is = r.1 ∙ ap (λ (m : GroundMeeting). m.io) i.is }

-- .. and the intersection is empty where nothing is in both
pub intersection_empty : (P : CRPair meeting) → Consistent P.neqs → (intersect no_limit P ≡ disjoint) ↔ ((g : GroundPair) → InBoth P g → ⊥)
intersection_empty P c = ((λ e g i. intersect_disjoint no_limit P e i.θ i.sat (both_meet P g i)), λ h. pick h (intersect no_limit P) refl)
  where
    pick : ((g : GroundPair) → InBoth P g → ⊥) → (r : Intersected) → intersect no_limit P ≡ r → r ≡ disjoint
    pick h disjoint e = refl
    pick h too_large e = absurd (unlimited_fits P e)
    pick h (common Q) e = let w = consistent_inhabited Q ((intersect_unified no_limit P Q e).consistent c) in absurd (h w.0 ((intersection_exact no_limit P Q e w.0).0 w.1))

-- "21 .. after a binding": a limit of nodes stops an intersection and changes no answer
pub limit_changes_nothing : (over : NodeLimit) (P : CRPair meeting) → ((Q : IOClass) → intersect over P ≡ common Q → intersect no_limit P ≡ common Q) × (intersect over P ≡ disjoint → intersect no_limit P ≡ disjoint)
limit_changes_nothing over P = (limited_common over P, limited_disjoint over P)

-- more bindings change nothing
pub fuel_changes_nothing : (over : NodeLimit) (n : ℕ) (P : CRPair meeting) → bindings_enough P.con ≤ n → unify over n P ≡ unify over (bindings_enough P.con) P
fuel_changes_nothing = more_fuel
