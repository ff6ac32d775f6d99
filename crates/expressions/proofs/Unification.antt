-- The intersection is a most general unifier and its restriction (001, definition 36 and theorem 37), and its bindings suffice.
use Prim.Native.Nat.{ℕ, zero, suc, ◌<◌, ◌≤◌}
use mathlib.Core.Path.{◌≡◌, refl, ap, subst, ◌∙◌, sym as inv}
use mathlib.Core.Bool.{Bool, true, false}
use mathlib.Core.List.{List, ◌++◌}
use mathlib.Core.Option.{Option, none, some, bind}
use native.Mathlib.Omega.{arith}
use lib.ListN.{length, length-append}
use Rattle.expressions.specs.Expression.{Exp}
use Rattle.expressions.specs.Substitution.{GroundSubst, ground_exp, Substitution, apply, compose, compose_ground, id_subst, subst_e, subst_a}
use Rattle.expressions.specs.Restriction.{Restriction, Satisfies, simplify, subst_restriction}
use Rattle.expressions.specs.Contraction.{CRPair, Contraction, identity, contra, bind_e, bind_a, non_equal, subst_of, contract_restriction, apply_pair, contract}
use Rattle.expressions.specs.Class.{IOPair, apply_io, ground_io, IOClass}
use Rattle.expressions.specs.Intersection.{Meeting, meeting, disagreement, Intersected, common, disjoint, too_large, NodeLimit, unless_over, after_binding, unify_step, unify, bindings_enough, intersect, no_limit}
use Rattle.expressions.proofs.Filling.{ground_apply, ground_io_apply, apply_compose, apply_io_compose, apply_io_id, compose_ground_compose, Holds, holds_compose}
use Rattle.expressions.proofs.Simplification.{Consistent, contract_restriction_sound, contract_restriction_complete, contract_restriction_consistent}
use Rattle.expressions.proofs.Combination.{subst_subst, Substitutes, contract_substitutes, contract_simplified}
use Rattle.expressions.proofs.Contracting.{OccursChecked}
use Rattle.expressions.proofs.Variables.{Var, ev, av, remove, remove_lt, Covers, covers_subst_e, covers_subst_a, vars, covers_left, covers_right, vars_cover, vars_nodes}
use Rattle.expressions.proofs.Disagreement.{disagreement_holds, disagreement_occurs_checked, IsIdentity, disagreement_identity, Bound, disagreement_bound}

-- What binding makes of a meeting.
abbrev pub bound : Substitution → Restriction → CRPair meeting → CRPair meeting
bound s qs P = record { con = meeting.apply s P.con; neqs = qs }

-- A common class is the meeting's under one substitution, which makes its output the wanted one; so is its restriction, simplified.
pub record Unified (P : CRPair meeting) (Q : IOClass) : Type 0 where
  pub s : Substitution
  pub con : Q.con ≡ apply_io s P.con.io
  pub meets : apply s P.con.io.out ≡ apply s P.con.output
  pub neqs : simplify P.neqs ≡ some P.neqs → subst_restriction s P.neqs ≡ some Q.neqs
  pub sat : (θ : GroundSubst) → Satisfies θ Q.neqs → Satisfies (compose_ground s θ) P.neqs
  pub consistent : Consistent P.neqs → Consistent Q.neqs

abbrev Sound : CRPair meeting → Intersected → Type 0
Sound P (common Q) = Unified P Q
Sound P disjoint = Unit {0}
Sound P too_large = Unit {0}

binding_sound : (over : NodeLimit) (f : CRPair meeting → Intersected) → ((Q : CRPair meeting) → Sound Q (f Q)) → (P : CRPair meeting) (κ : Contraction) → Substitutes κ →
    Sound P (after_binding over f (contract κ P))
unfolding bind
binding_sound over f ih P κ su = pick (contract_restriction κ P.neqs) refl
  where
    lift : (qs : Restriction) → contract_restriction κ P.neqs ≡ some qs → (r : Intersected) → Sound (bound (subst_of κ) qs P) r → Sound P r
    lift qs e disjoint u = tt
    lift qs e too_large u = tt
    lift qs e (common Q) u = record {
      s = compose (subst_of κ) u.s;
      con = u.con ∙ apply_io_compose (subst_of κ) u.s P.con.io;
      meets = inv (apply_compose (subst_of κ) u.s P.con.io.out) ∙ u.meets ∙ apply_compose (subst_of κ) u.s P.con.output;
      neqs = λ k. inv (subst_subst (subst_of κ) u.s P.neqs) ∙ ap (λ (o : Option Restriction). bind o (subst_restriction u.s)) (inv (contract_substitutes κ su P.neqs k) ∙ e)
          ∙ u.neqs (contract_simplified κ P.neqs qs k e);
      sat = λ θ h. subst (λ (φ : GroundSubst). Satisfies φ P.neqs) (inv (compose_ground_compose (subst_of κ) u.s θ))
          (contract_restriction_sound κ (compose_ground u.s θ) P.neqs qs e (u.sat θ h)).0;
      consistent = λ c. u.consistent (contract_restriction_consistent κ P.neqs qs c e);
    }

    at : (Q : CRPair meeting) (t : Bool) → Sound Q (unless_over f Q t)
    at Q true = tt
    at Q false = ih Q

    pick : (o : Option Restriction) → contract_restriction κ P.neqs ≡ o → Sound P (after_binding over f (apply_pair (subst_of κ) P o))
    pick none e = tt
    pick (some qs) e = let Q = bound (subst_of κ) qs P in lift qs e (unless_over f Q (over Q)) (at Q (over Q))

step_sound : (over : NodeLimit) (f : CRPair meeting → Intersected) → ((Q : CRPair meeting) → Sound Q (f Q)) → (P : CRPair meeting) (κ : Contraction) →
    (IsIdentity κ → P.con.io.out ≡ P.con.output) → Sound P (unify_step over f P κ)
step_sound over f ih P identity i = record {
  s = id_subst;
  con = inv (apply_io_id P.con.io);
  meets = ap (apply id_subst) (i tt);
  neqs = λ k. inv (contract_substitutes identity tt P.neqs k);
  sat = λ θ h. h;
  consistent = λ c. c;
}
step_sound over f ih P contra i = tt
step_sound over f ih P (bind_e n d) i = binding_sound over f ih P (bind_e n d) tt
step_sound over f ih P (bind_a n x) i = binding_sound over f ih P (bind_a n x) tt
step_sound over f ih P (non_equal x y) i = tt

unify_sound : (over : NodeLimit) (n : ℕ) (P : CRPair meeting) → Sound P (unify over n P)
unfolding unify
unify_sound over zero P = tt
unify_sound over (suc n) P =
    step_sound over (unify over n) (λ Q. unify_sound over n Q) P (disagreement P.con.io.out P.con.output) (disagreement_identity P.con.io.out P.con.output)

pub intersect_unified : (over : NodeLimit) (P : CRPair meeting) (Q : IOClass) → intersect over P ≡ common Q → Unified P Q
intersect_unified over P Q e = subst (Sound P) e (at (over P))
  where
    at : (t : Bool) → Sound P (unless_over (unify over (bindings_enough P.con)) P t)
    at true = tt
    at false = unify_sound over (bindings_enough P.con) P

-- What fills a common class comes of what fills the meeting and makes its output the wanted one.
pub intersect_sound : (over : NodeLimit) (P : CRPair meeting) (Q : IOClass) → intersect over P ≡ common Q → (θ : GroundSubst) → Satisfies θ Q.neqs →
    (φ : GroundSubst) × Satisfies φ P.neqs × (ground_io φ P.con.io ≡ ground_io θ Q.con) × (ground_exp φ P.con.io.out ≡ ground_exp φ P.con.output)
intersect_sound over P Q e θ h =
    let u = intersect_unified over P Q e in (
      compose_ground u.s θ,
      u.sat θ h,
      inv (ground_io_apply θ u.s P.con.io) ∙ ap (ground_io θ) (inv u.con),
      inv (ground_apply θ u.s P.con.io.out) ∙ ap (ground_exp θ) u.meets ∙ ground_apply θ u.s P.con.output,
    )

-- The bindings suffice: where a list holds all variables, its length is enough, and more change nothing.
binding_fuel : (over : NodeLimit) (f g : CRPair meeting → Intersected) (P : CRPair meeting) (κ : Contraction) →
    ((qs : Restriction) → f (bound (subst_of κ) qs P) ≡ g (bound (subst_of κ) qs P)) → after_binding over f (contract κ P) ≡ after_binding over g (contract κ P)
binding_fuel over f g P κ ih = pick (contract_restriction κ P.neqs)
  where
    at : (Q : CRPair meeting) (t : Bool) → f Q ≡ g Q → unless_over f Q t ≡ unless_over g Q t
    at Q true e = refl
    at Q false e = e

    pick : (o : Option Restriction) → after_binding over f (apply_pair (subst_of κ) P o) ≡ after_binding over g (apply_pair (subst_of κ) P o)
    pick none = refl
    pick (some qs) = at (bound (subst_of κ) qs P) (over (bound (subst_of κ) qs P)) (ih qs)

unify_fuel : (over : NodeLimit) (m n : ℕ) (vs : List Var) (P : CRPair meeting) → length vs < m → length vs < n → Covers vs P.con.io.out → Covers vs P.con.output →
    unify over m P ≡ unify over n P
unfolding unify
unify_fuel over zero n vs P k l cw cu = absurd (omega arith)
unify_fuel over (suc m) zero vs P k l cw cu = absurd (omega arith)
unify_fuel over (suc m) (suc n) vs P k l cw cu =
    pick (disagreement P.con.io.out P.con.output) (disagreement_occurs_checked P.con.io.out P.con.output) (disagreement_bound vs P.con.io.out P.con.output cw cu)
    (λ us Q k l cw cu. unify_fuel over m n us Q k l cw cu)
  where
    pick : (κ : Contraction) → OccursChecked κ → Bound vs κ →
        ((us : List Var) (Q : CRPair meeting) → length us < m → length us < n → Covers us Q.con.io.out → Covers us Q.con.output → unify over m Q ≡ unify over n Q) →
        unify_step over (unify over m) P κ ≡ unify_step over (unify over n) P κ
    pick identity pr b ih = refl
    pick contra pr b ih = refl
    pick (non_equal x y) pr b ih = refl
    pick (bind_e i d) pr b ih = let r = remove_lt (ev i) vs b.0 in binding_fuel over (unify over m) (unify over n) P (bind_e i d) (λ qs.
        ih (remove (ev i) vs) (bound (subst_e i d) qs P) (omega arith) (omega arith) (covers_subst_e vs i d P.con.io.out pr b.1 cw) (covers_subst_e vs i d P.con.output pr b.1 cu))
    pick (bind_a i x) pr b ih = let r = remove_lt (av i) vs b.0 in binding_fuel over (unify over m) (unify over n) P (bind_a i x) (λ qs.
        ih (remove (av i) vs) (bound (subst_a i x) qs P) (omega arith) (omega arith) (covers_subst_a vs i x P.con.io.out pr b.1 cw) (covers_subst_a vs i x P.con.output pr b.1 cu))

-- the variables of the two outputs
abbrev both : Meeting → List Var
both m = vars m.io.out ++ vars m.output

both_nodes : (m : Meeting) → length (both m) < bindings_enough m
both_nodes m = omega (arith, length-append (vars m.io.out) (vars m.output), vars_nodes m.io.out, vars_nodes m.output)

both_left : (m : Meeting) → Covers (both m) m.io.out
both_left m = covers_left (vars m.io.out) (vars m.output) m.io.out (vars_cover m.io.out)

both_right : (m : Meeting) → Covers (both m) m.output
both_right m = covers_right (vars m.io.out) (vars m.output) m.output (vars_cover m.output)

pub more_fuel : (over : NodeLimit) (n : ℕ) (P : CRPair meeting) → bindings_enough P.con ≤ n → unify over n P ≡ unify over (bindings_enough P.con) P
more_fuel over n P l = let b = both_nodes P.con in unify_fuel over n (bindings_enough P.con) (both P.con) P (omega arith) b (both_left P.con) (both_right P.con)

-- What fills a meeting and makes its output the wanted one fills the common class.
abbrev Found : GroundSubst → CRPair meeting → Intersected → Type 0
Found θ P (common Q) = Satisfies θ Q.neqs × (ground_io θ Q.con ≡ ground_io θ P.con.io)
Found θ P disjoint = ⊥
Found θ P too_large = ⊥

binding_found : (θ : GroundSubst) (f : CRPair meeting → Intersected) (P : CRPair meeting) → Satisfies θ P.neqs → ground_exp θ P.con.io.out ≡ ground_exp θ P.con.output →
    (κ : Contraction) → Holds κ θ →
    ((qs : Restriction) → Satisfies θ qs → ground_exp θ (apply (subst_of κ) P.con.io.out) ≡ ground_exp θ (apply (subst_of κ) P.con.output) →
    Found θ (bound (subst_of κ) qs P) (f (bound (subst_of κ) qs P))) →
    Found θ P (after_binding no_limit f (contract κ P))
binding_found θ f P h g κ hκ ih =
    let r = contract_restriction_complete κ θ P.neqs hκ h in
    subst (λ (o : Option Restriction). Found θ P (after_binding no_limit f (apply_pair (subst_of κ) P o))) (inv r.1)
    (lift r.0 (f (bound (subst_of κ) r.0 P)) (ih r.0 r.2 (same P.con.io.out ∙ g ∙ inv (same P.con.output))))
  where
    same : (c : Exp) → ground_exp θ (apply (subst_of κ) c) ≡ ground_exp θ c
    same c = ground_apply θ (subst_of κ) c ∙ ap (λ (φ : GroundSubst). ground_exp φ c) (holds_compose κ θ hκ)

    same_io : (c : IOPair) → ground_io θ (apply_io (subst_of κ) c) ≡ ground_io θ c
    same_io c = ground_io_apply θ (subst_of κ) c ∙ ap (λ (φ : GroundSubst). ground_io φ c) (holds_compose κ θ hκ)

    lift : (qs : Restriction) (r : Intersected) → Found θ (bound (subst_of κ) qs P) r → Found θ P r
    lift qs (common Q) u = (u.0, u.1 ∙ same_io P.con.io)
    lift qs disjoint u = u
    lift qs too_large u = u

unify_complete : (n : ℕ) (vs : List Var) (P : CRPair meeting) → length vs < n → Covers vs P.con.io.out → Covers vs P.con.output →
    (θ : GroundSubst) → Satisfies θ P.neqs → ground_exp θ P.con.io.out ≡ ground_exp θ P.con.output → Found θ P (unify no_limit n P)
unfolding unify
unify_complete zero vs P l cw cu θ h g = absurd (omega arith)
unify_complete (suc n) vs P l cw cu θ h g =
    pick (disagreement P.con.io.out P.con.output) (disagreement_holds θ P.con.io.out P.con.output g)
    (disagreement_occurs_checked P.con.io.out P.con.output) (disagreement_bound vs P.con.io.out P.con.output cw cu)
    (λ us Q m dw du k e. unify_complete n us Q m dw du θ k e)
  where
    pick : (κ : Contraction) → Holds κ θ → OccursChecked κ → Bound vs κ →
        ((us : List Var) (Q : CRPair meeting) → length us < n → Covers us Q.con.io.out → Covers us Q.con.output → Satisfies θ Q.neqs →
        ground_exp θ Q.con.io.out ≡ ground_exp θ Q.con.output → Found θ Q (unify no_limit n Q)) →
        Found θ P (unify_step no_limit (unify no_limit n) P κ)
    pick identity hκ pr b ih = (h, refl)
    pick contra hκ pr b ih = hκ
    pick (non_equal x y) hκ pr b ih = b
    pick (bind_e m d) hκ pr b ih = binding_found θ (unify no_limit n) P h g (bind_e m d) hκ (λ qs k e.
        ih (remove (ev m) vs) (bound (subst_e m d) qs P) (omega (arith, remove_lt (ev m) vs b.0))
        (covers_subst_e vs m d P.con.io.out pr b.1 cw) (covers_subst_e vs m d P.con.output pr b.1 cu) k e)
    pick (bind_a m x) hκ pr b ih = binding_found θ (unify no_limit n) P h g (bind_a m x) hκ (λ qs k e.
        ih (remove (av m) vs) (bound (subst_a m x) qs P) (omega (arith, remove_lt (av m) vs b.0))
        (covers_subst_a vs m x P.con.io.out pr b.1 cw) (covers_subst_a vs m x P.con.output pr b.1 cu) k e)

found : (P : CRPair meeting) (θ : GroundSubst) → Satisfies θ P.neqs → ground_exp θ P.con.io.out ≡ ground_exp θ P.con.output → Found θ P (intersect no_limit P)
found P θ h g = unify_complete (bindings_enough P.con) (both P.con) P (both_nodes P.con) (both_left P.con) (both_right P.con) θ h g

pub intersect_complete : (P : CRPair meeting) (θ : GroundSubst) → Satisfies θ P.neqs → ground_exp θ P.con.io.out ≡ ground_exp θ P.con.output →
    (Q : IOClass) × (intersect no_limit P ≡ common Q) × Satisfies θ Q.neqs × (ground_io θ Q.con ≡ ground_io θ P.con.io)
intersect_complete P θ h g = pick (intersect no_limit P) refl (found P θ h g)
  where
    pick : (r : Intersected) → intersect no_limit P ≡ r → Found θ P r →
        (Q : IOClass) × (intersect no_limit P ≡ common Q) × Satisfies θ Q.neqs × (ground_io θ Q.con ≡ ground_io θ P.con.io)
    pick (common Q) e f = (Q, e, f.0, f.1)
    pick disjoint e f = absurd f
    pick too_large e f = absurd f

-- Without a limit nothing is too large.
abbrev Fits : Intersected → Type 0
Fits (common Q) = Unit {0}
Fits disjoint = Unit {0}
Fits too_large = ⊥

unify_fits : (n : ℕ) (P : CRPair meeting) → Fits (unify no_limit n P)
unfolding unify
unify_fits zero P = tt
unify_fits (suc n) P = step (disagreement P.con.io.out P.con.output) (λ Q. unify_fits n Q)
  where
    binding : (o : Option (CRPair meeting)) → ((Q : CRPair meeting) → Fits (unify no_limit n Q)) → Fits (after_binding no_limit (unify no_limit n) o)
    binding none ih = tt
    binding (some Q) ih = ih Q

    step : (κ : Contraction) → ((Q : CRPair meeting) → Fits (unify no_limit n Q)) → Fits (unify_step no_limit (unify no_limit n) P κ)
    step identity ih = tt
    step contra ih = tt
    step (non_equal x y) ih = tt
    step (bind_e i d) ih = binding (contract (bind_e i d) P) ih
    step (bind_a i x) ih = binding (contract (bind_a i x) P) ih

pub unlimited_fits : (P : CRPair meeting) → intersect no_limit P ≡ too_large → ⊥
unlimited_fits P e = subst Fits e (unify_fits (bindings_enough P.con) P)

-- Within the limit, the answer is the unlimited one.
abbrev Within : Intersected → Intersected → Type 0
Within (common Q) r = r ≡ common Q
Within disjoint r = r ≡ disjoint
Within too_large r = Unit {0}

unless_within : (over : NodeLimit) (f g : CRPair meeting → Intersected) (P : CRPair meeting) → Within (f P) (g P) → (t : Bool) → Within (unless_over f P t) (g P)
unless_within over f g P w true = tt
unless_within over f g P w false = w

unify_within : (over : NodeLimit) (n : ℕ) (P : CRPair meeting) → Within (unify over n P) (unify no_limit n P)
unfolding unify
unify_within over zero P = refl
unify_within over (suc n) P = step (disagreement P.con.io.out P.con.output) (λ Q. unify_within over n Q)
  where
    binding : (κ : Contraction) → ((Q : CRPair meeting) → Within (unify over n Q) (unify no_limit n Q)) → (o : Option Restriction) →
        Within (after_binding over (unify over n) (apply_pair (subst_of κ) P o)) (after_binding no_limit (unify no_limit n) (apply_pair (subst_of κ) P o))
    binding κ ih none = refl
    binding κ ih (some qs) = unless_within over (unify over n) (unify no_limit n) (bound (subst_of κ) qs P) (ih (bound (subst_of κ) qs P)) (over (bound (subst_of κ) qs P))

    step : (κ : Contraction) → ((Q : CRPair meeting) → Within (unify over n Q) (unify no_limit n Q)) → Within (unify_step over (unify over n) P κ) (unify_step no_limit (unify no_limit n) P κ)
    step identity ih = refl
    step contra ih = refl
    step (non_equal x y) ih = refl
    step (bind_e i d) ih = binding (bind_e i d) ih (contract_restriction (bind_e i d) P.neqs)
    step (bind_a i x) ih = binding (bind_a i x) ih (contract_restriction (bind_a i x) P.neqs)

intersect_within : (over : NodeLimit) (P : CRPair meeting) → Within (intersect over P) (intersect no_limit P)
intersect_within over P = unless_within over (unify over (bindings_enough P.con)) (unify no_limit (bindings_enough P.con)) P (unify_within over (bindings_enough P.con) P) (over P)

pub limited_common : (over : NodeLimit) (P : CRPair meeting) (Q : IOClass) → intersect over P ≡ common Q → intersect no_limit P ≡ common Q
limited_common over P Q e = subst (λ (r : Intersected). Within r (intersect no_limit P)) e (intersect_within over P)

pub limited_disjoint : (over : NodeLimit) (P : CRPair meeting) → intersect over P ≡ disjoint → intersect no_limit P ≡ disjoint
limited_disjoint over P e = subst (λ (r : Intersected). Within r (intersect no_limit P)) e (intersect_within over P)

-- so completeness holds of each answer within the limit
pub intersect_found : (over : NodeLimit) (P : CRPair meeting) (Q : IOClass) → intersect over P ≡ common Q → (θ : GroundSubst) → Satisfies θ P.neqs →
    ground_exp θ P.con.io.out ≡ ground_exp θ P.con.output → Satisfies θ Q.neqs × (ground_io θ Q.con ≡ ground_io θ P.con.io)
intersect_found over P Q e θ h g = subst (Found θ P) (limited_common over P Q e) (found P θ h g)

pub intersect_disjoint : (over : NodeLimit) (P : CRPair meeting) → intersect over P ≡ disjoint → (θ : GroundSubst) → Satisfies θ P.neqs →
    ground_exp θ P.con.io.out ≡ ground_exp θ P.con.output → ⊥
intersect_disjoint over P e θ h g = subst (Found θ P) (limited_disjoint over P e) (found P θ h g)
