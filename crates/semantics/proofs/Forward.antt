-- Forward runs are traces: on a state without variables tracing has one successor, and it is the step of figure 4.
use Prim.Native.Nat.{ℕ}
use mathlib.Core.Path.{◌≡◌, refl, ap, ap₂, ◌∙◌, subst, sym as inv}
use mathlib.Core.Bool.{Bool, true, false, cond}
use mathlib.Core.List.{List, [], ◌∷◌}
use mathlib.Core.Option.{Option, none, some}
use lib.Dec.{eqb}
use Rattle.expressions.specs.Expression.{Value, atom, cons, AtomicExp, sym, avar, Exp, atm, evar, pair}
use Rattle.expressions.specs.Substitution.{GroundSubst, ground_exp, ground_atomic, Substitution, apply, apply_atomic}
use Rattle.expressions.specs.Contraction.{CRPair}
use Rattle.expressions.specs.Class.{IOPair}
use Rattle.expressions.specs.Split.{split_atomic}
use Rattle.language.specs.Program.{eqa, consp, Term, call, conditional, result, Param, pe, pa, Prog, find, atom_of}
use Rattle.semantics.specs.Environment.{map_values, update_e, update_a, bind_params}
use Rattle.semantics.specs.Figure4.{ValueEnv}
use Rattle.semantics.specs.Evaluate.{ground_of, go, step_pair, step}
use Rattle.semantics.specs.Configuration.{ExpEnv, subst_of_env, state}
use Rattle.semantics.specs.Trace.{branches, configuration, trace_pair, trace_atomic, successors_of}
use Rattle.semantics.specs.Embedding.{embed}
use Rattle.semantics.proofs.EmbeddedStates.{embed_env, OneSuccessor, ends, calls, holds, fails}
use Rattle.semantics.proofs.Grounding.{lookup_map, update_map}
use Rattle.semantics.proofs.Tracing.{contract_identity}

module _ (σ : ValueEnv) where
  abbrev s : Substitution
  s = subst_of_env (embed_env σ)

  abbrev θ : GroundSubst
  θ = ground_of σ

  apply_atomic_embed : (x : AtomicExp) → apply_atomic s x ≡ sym (ground_atomic θ x)
  apply_atomic_embed (sym z) = refl
  apply_atomic_embed (avar n) = lookup_map sym 0 n σ.avars

  pub apply_embed : (c : Exp) → apply s c ≡ embed (ground_exp θ c)
  apply_embed (atm x) = ap atm (apply_atomic_embed x)
  apply_embed (evar n) = lookup_map embed (atom 0) n σ.evars
  apply_embed (pair c d) = ap₂ pair (apply_embed c) (apply_embed d)

  arguments_embed : (ps : List Param) (ds : List Exp) → bind_params (apply s) (apply_atomic s) ps ds ≡ embed_env (bind_params (ground_exp θ) (ground_atomic θ) ps ds)
  arguments_embed [] ds = refl
  arguments_embed (pe x ∷ ps) [] = refl
  arguments_embed (pa x ∷ ps) [] = refl
  arguments_embed (pe x ∷ ps) (d ∷ ds) = λ i. let r = arguments_embed ps ds i in record { evars = (x, apply_embed d i) ∷ r.evars; avars = r.avars }
  arguments_embed (pa x ∷ ps) (d ∷ ds) = λ i. let r = arguments_embed ps ds i in record { evars = r.evars; avars = (x, apply_atomic_embed (atom_of d) i) ∷ r.avars }

update_e_embed : (x : ℕ) (v : Value) (σ : ValueEnv) → update_e x (embed v) (embed_env σ) ≡ embed_env (update_e x v σ)
update_e_embed x v σ = λ i. record { evars = inv (update_map embed x v σ.evars) i; avars = map_values sym σ.avars }

update_a_embed : (x z : ℕ) (σ : ValueEnv) → update_a x (sym z) (embed_env σ) ≡ embed_env (update_a x z σ)
update_a_embed x z σ = λ i. record { evars = map_values embed σ.evars; avars = inv (update_map sym x z σ.avars) i }

module _ (io : IOPair) (k : ℕ) where
  abbrev pair_of : ExpEnv → CRPair state
  pair_of ρ = record { con = record { io = io; env = ρ }; neqs = [] }

  -- an `eqa?` on two atoms: the same or not
  atomic_one : (t u : Term) (σ : ValueEnv) (y z : ℕ) (b : Bool) → eqb y z ≡ b →
      OneSuccessor io k (trace_atomic t u (pair_of (embed_env σ)) k (split_atomic (sym y) (sym z))) (cond b (go t σ) (go u σ))
  atomic_one t u σ y z true e = rw e (subst (λ (o : Option (CRPair state)). OneSuccessor io k (branches (configuration t k o) none) (go t σ)) (inv (contract_identity (pair_of (embed_env σ)))) (holds t σ))
  atomic_one t u σ y z false e = rw e (subst (λ (o : Option (CRPair state)). OneSuccessor io k (branches none (configuration u k o)) (go u σ)) (inv (contract_identity (pair_of (embed_env σ)))) (fails u σ))

  -- a `cons?` on a value
  pair_one : (h l x : ℕ) (t u : Term) (σ : ValueEnv) (v : Value) → OneSuccessor io k (trace_pair h l x t u (pair_of (embed_env σ)) k (embed v)) (step_pair h l x t u σ v)
  pair_one h l x t u σ (atom z) = rw (update_a_embed x z σ) (fails u (update_a x z σ))
  pair_one h l x t u σ (cons v w) =
      subst (λ (ρ : ExpEnv). OneSuccessor io k (branches (some (record { cr = pair_of ρ; term = t; fresh = k })) none) (go t (update_e l w (update_e h v σ))))
      (inv (ap (update_e l (embed w)) (update_e_embed h v σ) ∙ update_e_embed l w (update_e h v σ)))
      (holds t (update_e l w (update_e h v σ)))

  -- "it is the step of figure 4"
  pub forward : (p : Prog) (t : Term) (σ : ValueEnv) → OneSuccessor io k (successors_of p (pair_of (embed_env σ)) t k) (step p t σ)
  unfolding successors_of step
  forward p (result c) σ = rw (apply_embed σ c) (ends (ground_exp (ground_of σ) c))
  forward p (call f ds) σ = rw (arguments_embed σ (find p f).params ds) (calls (find p f).body (bind_params (ground_exp (ground_of σ)) (ground_atomic (ground_of σ)) (find p f).params ds))
  forward p (conditional (eqa x y) t u) σ =
      rw (apply_atomic_embed σ (atom_of x), apply_atomic_embed σ (atom_of y))
      (atomic_one t u σ (ground_atomic (ground_of σ) (atom_of x)) (ground_atomic (ground_of σ) (atom_of y)) (eqb (ground_atomic (ground_of σ) (atom_of x)) (ground_atomic (ground_of σ) (atom_of y))) refl)
  forward p (conditional (consp c h l x) t u) σ = rw (apply_embed σ c) (pair_one h l x t u σ (ground_exp (ground_of σ) c))
