-- Correctness of a transition (001, theorem 44): the step of a state of a configuration leads into exactly one of the configuration's successors.
use Prim.Native.Nat.{ℕ, ◌+◌, ◌<◌, ◌≤◌}
use mathlib.Core.Path.{◌≡◌, refl, ap, ap₂, subst, ◌∙◌, sym as inv}
use mathlib.Core.Bool.{Bool, true, false, cond}
use mathlib.Core.List.{List}
use mathlib.Core.Option.{Option, none, some}
use mathlib.Core.Logic.{◌⊎◌, inl, inr}
use native.Mathlib.Omega.{arith}
use lib.Dec.{eqb}
use borrow.Author.Tests.{eqb-true, eqb-false, eq-eqb, ne_eqb}
use Rattle.expressions.specs.Expression.{Value, atom, cons, AtomicExp, sym, avar, Exp, atm, evar, pair}
use Rattle.expressions.specs.Substitution.{GroundSubst, ground_exp, ground_atomic, apply, apply_atomic}
use Rattle.expressions.specs.Restriction.{Satisfies, same_atomic}
use Rattle.expressions.specs.Contraction.{CRPair, Contraction, identity, bind_e, non_equal, mk_bind, equality_contraction, contract}
use Rattle.expressions.specs.Class.{ground_io}
use Rattle.expressions.proofs.Filling.{Holds}
use Rattle.expressions.proofs.Simplification.{Consistent}
use Rattle.expressions.proofs.Contracting.{OccursChecked, equality_occurs_checked, equal_holds, holds_equal, Agree, FreshE, FreshA, Fresh, FreshK, agree_down, contract_back, contract_forth, contract_fresh, contract_consistent, head_of, tail_of, extend_fresh, extend_fresh_agree, extend_fresh_head, extend_fresh_tail, extend_fresh_atom, fresh_below}
use Rattle.language.specs.Program.{eqa, consp, Term, call, conditional, result, Prog, find, atom_of}
use Rattle.semantics.specs.Environment.{update_e, update_a, bind_params}
use Rattle.semantics.specs.Figure4.{ValueEnv}
use Rattle.semantics.specs.Evaluate.{ground_of, end, go, step_pair, step, atom_in}
use Rattle.semantics.specs.Configuration.{ExpEnv, ground_env, subst_of_env, GroundState, state, Configuration, with_env}
use Rattle.semantics.specs.Trace.{Successors, terminal, called, branches, configuration, trace_pair, successors_of}
use Rattle.semantics.proofs.Grounding.{state_lawful, update_e_ground, update_a_ground, value_ground, atomic_ground, arguments_ground}

-- which branch the step of a state takes; true at a call
abbrev is_cons : Value → Bool
is_cons (atom z) = false
is_cons (cons u v) = true

pub side : Term → ValueEnv → Bool
side (result c) σ = true
side (call f ds) σ = true
side (conditional (eqa x y) s t) σ = eqb (ground_atomic (ground_of σ) (atom_of x)) (ground_atomic (ground_of σ) (atom_of y))
side (conditional (consp c h t x) s u) σ = is_cons (ground_exp (ground_of σ) c)

-- what holds of every configuration of a walk
pub record Invariant (k : ℕ) (P : CRPair state) : Type 0 where
  pub fresh : Fresh k P
  pub consistent : Consistent P.neqs

-- a state of a successor came of a state of the configuration
pub record TransitionSound (p : Prog) (P : CRPair state) (t : Term) (b : Bool) (c : Configuration) (φ : GroundSubst) : Type 0 where
  pub θ : GroundSubst
  pub sat : Satisfies θ P.neqs
  pub io : ground_io θ P.con.io ≡ ground_io φ c.cr.con.io
  pub moves : step p t (ground_env θ P.con.env) ≡ go c.term (ground_env φ c.cr.con.env)
  pub takes : side t (ground_env θ P.con.env) ≡ b

-- a state of the configuration leads into the successor
pub record TransitionComplete (p : Prog) (P : CRPair state) (t : Term) (θ : GroundSubst) (c : Configuration) : Type 0 where
  pub φ : GroundSubst
  pub sat : Satisfies φ c.cr.neqs
  pub io : ground_io φ c.cr.con.io ≡ ground_io θ P.con.io
  pub moves : step p t (ground_env θ P.con.env) ≡ go c.term (ground_env φ c.cr.con.env)

abbrev pub BranchSound : Prog → CRPair state → Term → Bool → Option Configuration → Type 0
BranchSound p P t b none = Unit {0}
BranchSound p P t b (some c) = Invariant c.fresh c.cr × ((φ : GroundSubst) → Satisfies φ c.cr.neqs → TransitionSound p P t b c φ)

abbrev pub HasSuccessor : Prog → CRPair state → Term → GroundSubst → Option Configuration → Type 0
HasSuccessor p P t θ none = ⊥
HasSuccessor p P t θ (some c) = TransitionComplete p P t θ c

abbrev pub TransitionCorrect : Prog → CRPair state → Term → Successors → Type 0
TransitionCorrect p P t (terminal u) = (θ : GroundSubst) → step p t (ground_env θ P.con.env) ≡ end (ground_exp θ u)
TransitionCorrect p P t (called c) = BranchSound p P t true (some c) × ((θ : GroundSubst) → Satisfies θ P.neqs → HasSuccessor p P t θ (some c))
TransitionCorrect p P t (branches a b) =
    BranchSound p P t true a × BranchSound p P t false b × ((θ : GroundSubst) → Satisfies θ P.neqs → HasSuccessor p P t θ a ⊎ HasSuccessor p P t θ b)

-- a branch that a contraction makes, over the new environment
module _ (p : Prog) (P : CRPair state) (t : Term) (σ : ExpEnv) (s : Term) (k : ℕ) (κ : Contraction) where
  abbrev Q : CRPair state
  Q = with_env σ P

  contracted_sound : (b : Bool) → Consistent P.neqs → Fresh k Q → FreshK k κ → OccursChecked κ →
      ((φ : GroundSubst) → Holds κ φ → (step p t (ground_env φ P.con.env) ≡ go s (ground_env φ σ)) × (side t (ground_env φ P.con.env) ≡ b)) →
      BranchSound p P t b (configuration s k (contract κ Q))
  contracted_sound b cs fQ fκ oc mv = pick (contract κ Q) refl
    where
      pick : (o : Option (CRPair state)) → contract κ Q ≡ o → BranchSound p P t b (configuration s k o)
      pick none e = tt
      pick (some P') e = (
        record { fresh = contract_fresh state_lawful k κ Q P' e fQ fκ; consistent = contract_consistent κ Q P' e cs },
        λ φ h.
            let B = contract_back state_lawful κ Q P' e oc φ h in
            let m = mv B.θ B.holds in
            record {
              θ = B.θ;
              sat = B.sat;
              io = ap (λ (x : GroundState). x.io) B.same;
              moves = m.0 ∙ ap (λ (x : GroundState). go s x.env) B.same;
              takes = m.1;
            },
      )

  contracted_complete : (θ : GroundSubst) → Satisfies θ P.neqs → Holds κ θ → step p t (ground_env θ P.con.env) ≡ go s (ground_env θ σ) →
      HasSuccessor p P t θ (configuration s k (contract κ Q))
  contracted_complete θ h κh m =
      let A = contract_forth state_lawful κ Q θ κh h in
      subst (λ (o : Option (CRPair state)). HasSuccessor p P t θ (configuration s k o)) (inv A.is)
      (record {
        φ = θ;
        sat = A.sat;
        io = ap (λ (x : GroundState). x.io) A.same;
        moves = m ∙ ap (λ (x : GroundState). go s x.env) (inv A.same);
      })

-- a branch without a contraction
module _ (p : Prog) (P : CRPair state) (t : Term) (σ : ExpEnv) (s : Term) (k : ℕ) where
  plain_sound : (b : Bool) → Consistent P.neqs → Fresh k (with_env σ P) →
      ((φ : GroundSubst) → (step p t (ground_env φ P.con.env) ≡ go s (ground_env φ σ)) × (side t (ground_env φ P.con.env) ≡ b)) →
      BranchSound p P t b (configuration s k (some (with_env σ P)))
  plain_sound b cs fQ mv = (
    record { fresh = fQ; consistent = cs },
    λ φ h. record { θ = φ; sat = h; io = refl; moves = (mv φ).0; takes = (mv φ).1 },
  )

  plain_complete : (θ : GroundSubst) → Satisfies θ P.neqs → step p t (ground_env θ P.con.env) ≡ go s (ground_env θ σ) →
      HasSuccessor p P t θ (configuration s k (some (with_env σ P)))
  plain_complete θ h m = record { φ = θ; sat = h; io = refl; moves = m }

-- freshness of what a state computes
module _ (k : ℕ) (P : CRPair state) (f : Fresh k P) where
  env_fresh : (θ φ : GroundSubst) → Agree k θ φ → ground_env θ P.con.env ≡ ground_env φ P.con.env
  env_fresh θ φ a = ap (λ (x : GroundState). x.env) (f θ φ a).0

  value_fresh : (c : Exp) → FreshE k (apply (subst_of_env P.con.env) c)
  value_fresh c θ φ a =
      inv (value_ground θ P.con.env c) ∙ ap (λ (σ : ValueEnv). ground_exp (ground_of σ) c) (env_fresh θ φ a) ∙ value_ground φ P.con.env c

  atomic_fresh : (x : AtomicExp) → FreshA k (apply_atomic (subst_of_env P.con.env) x)
  atomic_fresh x θ φ a =
      inv (atomic_ground θ P.con.env x) ∙ ap (λ (σ : ValueEnv). ground_atomic (ground_of σ) x) (env_fresh θ φ a) ∙ atomic_ground φ P.con.env x

  with_fresh : (j : ℕ) → k ≤ j → (σ : ExpEnv) → ((θ φ : GroundSubst) → Agree j θ φ → ground_env θ σ ≡ ground_env φ σ) → Fresh j (with_env σ P)
  with_fresh j l σ g θ φ a =
      let r = f θ φ (agree_down k j l θ φ a) in
      ((λ i. record { io = (r.0 i).io; env = g θ φ a i }), r.1)

equality_fresh : (k : ℕ) (x y : AtomicExp) → FreshA k x → FreshA k y → FreshK k (equality_contraction x y)
equality_fresh k x y f g = pick (same_atomic x y)
  where
    mk : (x y : AtomicExp) → FreshA k x → FreshA k y → FreshK k (mk_bind x y)
    mk (sym y) (sym z) f g = tt
    mk (sym y) (avar n) f g = f
    mk (avar m) y f g = g

    pick : (t : Bool) → FreshK k (cond t identity (mk_bind x y))
    pick true = tt
    pick false = mk x y f g

-- the ground_exp substitution may be changed where the configuration does not see it
resuccessor : (p : Prog) (P : CRPair state) (t : Term) (θ φ : GroundSubst) → state.ground_exp θ P.con ≡ state.ground_exp φ P.con → (a : Option Configuration) →
    HasSuccessor p P t φ a → HasSuccessor p P t θ a
resuccessor p P t θ φ e none g = g
resuccessor p P t θ φ e (some c) g = record {
  φ = g.φ;
  sat = g.sat;
  io = g.io ∙ inv (ap (λ (x : GroundState). x.io) e);
  moves = ap (λ (x : GroundState). step p t x.env) e ∙ g.moves;
}

module _ (p : Prog) (P : CRPair state) (k : ℕ) (inv' : Invariant k P) where
  call_correct : (f : ℕ) (ds : List Exp) → TransitionCorrect p P (call f ds) (successors_of p P (call f ds) k)
  unfolding successors_of step side
  call_correct f ds = (
    plain_sound p P (call f ds) σ (find p f).body k true inv'.consistent fr (λ φ. (mv φ, refl)),
    λ θ h. plain_complete p P (call f ds) σ (find p f).body k θ h (mv θ),
  )
    where
      σ : ExpEnv
      σ = bind_params (apply (subst_of_env P.con.env)) (apply_atomic (subst_of_env P.con.env)) (find p f).params ds

      mv : (φ : GroundSubst) → step p (call f ds) (ground_env φ P.con.env) ≡ go (find p f).body (ground_env φ σ)
      mv φ = ap (go (find p f).body) (inv (arguments_ground φ P.con.env (find p f).params ds))

      fr : Fresh k (with_env σ P)
      fr = with_fresh k P inv'.fresh k (omega arith) σ (λ θ φ a.
          arguments_ground θ P.con.env (find p f).params ds
          ∙ ap (λ (τ : ValueEnv). bind_params (ground_exp (ground_of τ)) (ground_atomic (ground_of τ)) (find p f).params ds) (env_fresh k P inv'.fresh θ φ a)
          ∙ inv (arguments_ground φ P.con.env (find p f).params ds))

  eqa_correct : (x y : Exp) (s t : Term) → TransitionCorrect p P (conditional (eqa x y) s t) (successors_of p P (conditional (eqa x y) s t) k)
  unfolding successors_of step side
  eqa_correct x y s t = (
    contracted_sound p P T P.con.env s k (equality_contraction x' y') true inv'.consistent inv'.fresh (equality_fresh k x' y' fx fy) (equality_occurs_checked x' y')
        (λ φ h. let e = yes' φ (holds_equal φ x' y' h) in (ap (λ (b : Bool). cond b (go s (ground_env φ P.con.env)) (go t (ground_env φ P.con.env))) e, e)),
    contracted_sound p P T P.con.env t k (non_equal x' y') false inv'.consistent inv'.fresh (fx, fy) tt
        (λ φ h. let e = no' φ h in (ap (λ (b : Bool). cond b (go s (ground_env φ P.con.env)) (go t (ground_env φ P.con.env))) e, e)),
    λ θ h. pick θ h (eqb (ground_atomic θ x') (ground_atomic θ y')) refl,
  )
    where
      T : Term
      T = conditional (eqa x y) s t

      x' : AtomicExp
      x' = apply_atomic (subst_of_env P.con.env) (atom_of x)

      y' : AtomicExp
      y' = apply_atomic (subst_of_env P.con.env) (atom_of y)

      fx : FreshA k x'
      fx = atomic_fresh k P inv'.fresh (atom_of x)

      fy : FreshA k y'
      fy = atomic_fresh k P inv'.fresh (atom_of y)

      yes' : (φ : GroundSubst) → ground_atomic φ x' ≡ ground_atomic φ y' →
          eqb (ground_atomic (ground_of (ground_env φ P.con.env)) (atom_of x)) (ground_atomic (ground_of (ground_env φ P.con.env)) (atom_of y)) ≡ true
      yes' φ e = eq-eqb _ _ (atomic_ground φ P.con.env (atom_of x) ∙ e ∙ inv (atomic_ground φ P.con.env (atom_of y)))

      no' : (φ : GroundSubst) → (ground_atomic φ x' ≡ ground_atomic φ y' → ⊥) →
          eqb (ground_atomic (ground_of (ground_env φ P.con.env)) (atom_of x)) (ground_atomic (ground_of (ground_env φ P.con.env)) (atom_of y)) ≡ false
      no' φ e = ne_eqb _ _ (λ q. e (inv (atomic_ground φ P.con.env (atom_of x)) ∙ q ∙ atomic_ground φ P.con.env (atom_of y)))

      pick : (θ : GroundSubst) → Satisfies θ P.neqs → (b : Bool) → eqb (ground_atomic θ x') (ground_atomic θ y') ≡ b →
          HasSuccessor p P T θ (configuration s k (contract (equality_contraction x' y') P)) ⊎ HasSuccessor p P T θ (configuration t k (contract (non_equal x' y') P))
      pick θ h true e = inl (contracted_complete p P T P.con.env s k (equality_contraction x' y') θ h (equal_holds θ x' y' (eqb-true _ _ e))
          (ap (λ (b : Bool). cond b (go s (ground_env θ P.con.env)) (go t (ground_env θ P.con.env))) (yes' θ (eqb-true _ _ e))))
      pick θ h false e = inr (contracted_complete p P T P.con.env t k (non_equal x' y') θ h (eqb-false _ _ e)
          (ap (λ (b : Bool). cond b (go s (ground_env θ P.con.env)) (go t (ground_env θ P.con.env))) (no' θ (eqb-false _ _ e))))

  module _ (c : Exp) (h t x : ℕ) (s u : Term) where
    abbrev T : Term
    T = conditional (consp c h t x) s u

    -- the state's step, by the value that is tested
    opens : (v : Exp) → apply (subst_of_env P.con.env) c ≡ v → (φ : GroundSubst) → (w : Value) → ground_exp φ v ≡ w →
        (step p T (ground_env φ P.con.env) ≡ step_pair h t x s u (ground_env φ P.con.env) w) × (side T (ground_env φ P.con.env) ≡ is_cons w)
    unfolding step side
    opens v e φ w f =
        let q = value_ground φ P.con.env c ∙ ap (ground_exp φ) e ∙ f in
        (ap (step_pair h t x s u (ground_env φ P.con.env)) q, ap is_cons q)

    pair_correct : (v : Exp) → apply (subst_of_env P.con.env) c ≡ v → FreshE k v → TransitionCorrect p P T (trace_pair h t x s u P k v)
    pair_correct (atm y) e fv = (tt, plain_sound p P T σ u k false inv'.consistent fr (λ φ. mv φ), λ θ hθ. inr (plain_complete p P T σ u k θ hθ (mv θ).0))
      where
        σ : ExpEnv
        σ = update_a x y P.con.env

        mv : (φ : GroundSubst) → (step p T (ground_env φ P.con.env) ≡ go u (ground_env φ σ)) × (side T (ground_env φ P.con.env) ≡ false)
        mv φ = let r = opens (atm y) e φ (atom (ground_atomic φ y)) refl in (r.0 ∙ ap (go u) (inv (update_a_ground φ x y P.con.env)), r.1)

        fr : Fresh k (with_env σ P)
        fr = with_fresh k P inv'.fresh k (omega arith) σ (λ θ φ a. update_a_ground θ x y P.con.env
            ∙ ap₂ (update_a x) (ap atom_in (fv θ φ a)) (env_fresh k P inv'.fresh θ φ a) ∙ inv (update_a_ground φ x y P.con.env))
    pair_correct (pair c₁ c₂) e fv = (plain_sound p P T σ s k true inv'.consistent fr (λ φ. mv φ), tt, λ θ hθ. inl (plain_complete p P T σ s k θ hθ (mv θ).0))
      where
        σ : ExpEnv
        σ = update_e t c₂ (update_e h c₁ P.con.env)

        env_is : (φ : GroundSubst) → ground_env φ σ ≡ update_e t (ground_exp φ c₂) (update_e h (ground_exp φ c₁) (ground_env φ P.con.env))
        env_is φ = update_e_ground φ t c₂ (update_e h c₁ P.con.env) ∙ ap (update_e t (ground_exp φ c₂)) (update_e_ground φ h c₁ P.con.env)

        mv : (φ : GroundSubst) → (step p T (ground_env φ P.con.env) ≡ go s (ground_env φ σ)) × (side T (ground_env φ P.con.env) ≡ true)
        mv φ = let r = opens (pair c₁ c₂) e φ (cons (ground_exp φ c₁) (ground_exp φ c₂)) refl in (r.0 ∙ ap (go s) (inv (env_is φ)), r.1)

        fr : Fresh k (with_env σ P)
        fr = with_fresh k P inv'.fresh k (omega arith) σ (λ θ φ a. env_is θ
            ∙ (λ i. update_e t (tail_of (fv θ φ a i)) (update_e h (head_of (fv θ φ a i)) (env_fresh k P inv'.fresh θ φ a i))) ∙ inv (env_is φ))
    pair_correct (evar n) e fv = (
      contracted_sound p P T σ₁ s (k + 3) κ₁ true inv'.consistent fr₁ (λ θ φ a. ap₂ cons (a.0 k (omega arith)) (a.0 (k + 1) (omega arith))) oc₁ mv₁,
      contracted_sound p P T σ₂ u (k + 3) κ₂ false inv'.consistent fr₂ (λ θ φ a. ap atom (a.1 (k + 2) (omega arith))) refl mv₂,
      λ θ hθ. pick θ hθ (θ.e n) refl,
    )
      where
        n<k : n < k
        n<k = fresh_below k n fv

        κ₁ : Contraction
        κ₁ = bind_e n (pair (evar k) (evar (k + 1)))

        κ₂ : Contraction
        κ₂ = bind_e n (atm (avar (k + 2)))

        σ₁ : ExpEnv
        σ₁ = update_e t (evar (k + 1)) (update_e h (evar k) P.con.env)

        σ₂ : ExpEnv
        σ₂ = update_a x (avar (k + 2)) P.con.env

        env₁ : (φ : GroundSubst) → ground_env φ σ₁ ≡ update_e t (φ.e (k + 1)) (update_e h (φ.e k) (ground_env φ P.con.env))
        env₁ φ = update_e_ground φ t (evar (k + 1)) (update_e h (evar k) P.con.env) ∙ ap (update_e t (φ.e (k + 1))) (update_e_ground φ h (evar k) P.con.env)

        env₂ : (φ : GroundSubst) → ground_env φ σ₂ ≡ update_a x (φ.a (k + 2)) (ground_env φ P.con.env)
        env₂ φ = update_a_ground φ x (avar (k + 2)) P.con.env

        oc₁ : OccursChecked κ₁
        oc₁ = rw (ne_eqb k n (λ q. omega (arith, n<k)), ne_eqb (k + 1) n (λ q. omega (arith, n<k))) refl

        env_agree : (θ φ : GroundSubst) → Agree (k + 3) θ φ → ground_env θ P.con.env ≡ ground_env φ P.con.env
        env_agree θ φ a = env_fresh k P inv'.fresh θ φ (agree_down k (k + 3) (omega arith) θ φ a)

        fr₁ : Fresh (k + 3) (with_env σ₁ P)
        fr₁ = with_fresh k P inv'.fresh (k + 3) (omega arith) σ₁ (λ θ φ a. env₁ θ
            ∙ (λ i. update_e t (a.0 (k + 1) (omega arith) i) (update_e h (a.0 k (omega arith) i) (env_agree θ φ a i))) ∙ inv (env₁ φ))

        fr₂ : Fresh (k + 3) (with_env σ₂ P)
        fr₂ = with_fresh k P inv'.fresh (k + 3) (omega arith) σ₂ (λ θ φ a. env₂ θ
            ∙ ap₂ (update_a x) (a.1 (k + 2) (omega arith)) (env_agree θ φ a) ∙ inv (env₂ φ))

        mv₁ : (φ : GroundSubst) → Holds κ₁ φ → (step p T (ground_env φ P.con.env) ≡ go s (ground_env φ σ₁)) × (side T (ground_env φ P.con.env) ≡ true)
        mv₁ φ q = let r = opens (evar n) e φ (cons (φ.e k) (φ.e (k + 1))) q in (r.0 ∙ ap (go s) (inv (env₁ φ)), r.1)

        mv₂ : (φ : GroundSubst) → Holds κ₂ φ → (step p T (ground_env φ P.con.env) ≡ go u (ground_env φ σ₂)) × (side T (ground_env φ P.con.env) ≡ false)
        mv₂ φ q = let r = opens (evar n) e φ (atom (φ.a (k + 2))) q in (r.0 ∙ ap (go u) (inv (env₂ φ)), r.1)

        pick : (θ : GroundSubst) → Satisfies θ P.neqs → (w : Value) → θ.e n ≡ w →
            HasSuccessor p P T θ (configuration s (k + 3) (contract κ₁ (with_env σ₁ P))) ⊎ HasSuccessor p P T θ (configuration u (k + 3) (contract κ₂ (with_env σ₂ P)))
        pick θ hθ (cons v₁ v₂) f =
            let φ = extend_fresh θ n k in
            let r = inv'.fresh θ φ (extend_fresh_agree θ n k) in
            let q : Holds κ₁ φ = inv ((extend_fresh_agree θ n k).0 n n<k) ∙ f ∙ inv (ap₂ cons (extend_fresh_head θ n k ∙ ap head_of f) (extend_fresh_tail θ n k ∙ ap tail_of f)) in
            inl (resuccessor p P T θ φ r.0 (configuration s (k + 3) (contract κ₁ (with_env σ₁ P))) (contracted_complete p P T σ₁ s (k + 3) κ₁ φ (r.1 hθ) q (mv₁ φ q).0))
        pick θ hθ (atom z) f =
            let φ = extend_fresh θ n k in
            let r = inv'.fresh θ φ (extend_fresh_agree θ n k) in
            let q : Holds κ₂ φ = inv ((extend_fresh_agree θ n k).0 n n<k) ∙ f ∙ inv (ap atom (extend_fresh_atom θ n k ∙ ap atom_in f)) in
            inr (resuccessor p P T θ φ r.0 (configuration u (k + 3) (contract κ₂ (with_env σ₂ P))) (contracted_complete p P T σ₂ u (k + 3) κ₂ φ (r.1 hθ) q (mv₂ φ q).0))

  pub transition_correct : (t : Term) → TransitionCorrect p P t (successors_of p P t k)
  unfolding successors_of step
  transition_correct (result c) = λ θ. ap end (value_ground θ P.con.env c)
  transition_correct (call f ds) = call_correct f ds
  transition_correct (conditional (eqa x y) s t) = eqa_correct x y s t
  transition_correct (conditional (consp c h t x) s u) = pair_correct c h t x s u (apply (subst_of_env P.con.env) c) refl (value_fresh k P inv'.fresh c)
