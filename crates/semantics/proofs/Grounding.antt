-- Grounding a c-environment grounds what is looked up in it, updated and bound: a state of a configuration evaluates as the configuration is traced.
use Prim.Native.Nat.{ℕ}
use mathlib.Core.Path.{◌≡◌, refl, ap, ◌∙◌, sym as inv}
use mathlib.Core.Bool.{Bool, true, false, cond}
use mathlib.Core.List.{List, [], ◌∷◌}
use Rattle.expressions.specs.Expression.{AtomicExp, sym, Exp, atm}
use Rattle.expressions.specs.Substitution.{GroundSubst, ground_exp, ground_atomic, Substitution, apply, apply_atomic, compose_ground}
use Rattle.expressions.proofs.Filling.{ground_apply, ground_atomic_apply, ground_io_apply, ground_ext, Lawful}
use Rattle.language.specs.Program.{Param, pe, pa, atom_of}
use Rattle.semantics.specs.Environment.{lookup, update, update_e, update_a, map_values, bind_params, add_e, add_a}
use Rattle.semantics.specs.Evaluate.{ground_of}
use Rattle.semantics.specs.Configuration.{ExpEnv, apply_env, ground_env, subst_of_env, state}

map_values_compose : {A B C : Type 0} (f : A → B) (g : B → C) (bs : List (ℕ × A)) → map_values g (map_values f bs) ≡ map_values (λ x. g (f x)) bs
map_values_compose f g [] = refl
map_values_compose {C} f g (b ∷ bs) = ap {B = List (ℕ × C)} (λ l. (b.0, g (f b.1)) ∷ l) (map_values_compose f g bs)

cond_map : {A B : Type 0} (f : A → B) (t : Bool) (x y : A) → f (cond t x y) ≡ cond t (f x) (f y)
cond_map f true x y = refl
cond_map f false x y = refl

pub lookup_map : {A B : Type 0} (f : A → B) (d : A) (x : ℕ) (bs : List (ℕ × A)) → lookup (f d) x (map_values f bs) ≡ f (lookup d x bs)
lookup_map f d x [] = refl
lookup_map f d x (b ∷ bs) = rw (lookup_map f d x bs, cond_map f) refl

pub update_map : {A B : Type 0} (f : A → B) (x : ℕ) (c : A) (bs : List (ℕ × A)) → map_values f (update x c bs) ≡ update x (f c) (map_values f bs)
update_map f x c [] = refl
update_map f x c (b ∷ bs) = rw (cond_map (map_values f), update_map f x c bs) refl

pub ground_env_apply : (θ : GroundSubst) (s : Substitution) (σ : ExpEnv) → ground_env θ (apply_env s σ) ≡ ground_env (compose_ground s θ) σ
ground_env_apply θ s σ = λ i. record {
  evars = (map_values_compose (apply s) (ground_exp θ) σ.evars ∙ (λ k. map_values (λ c. ground_apply θ s c k) σ.evars)) i;
  avars = (map_values_compose (apply_atomic s) (ground_atomic θ) σ.avars ∙ (λ k. map_values (λ x. ground_atomic_apply θ s x k) σ.avars)) i;
}

pub state_lawful : Lawful state
state_lawful θ s c = λ i. record { io = ground_io_apply θ s c.io i; env = ground_env_apply θ s c.env i }

pub update_e_ground : (θ : GroundSubst) (x : ℕ) (c : Exp) (σ : ExpEnv) → ground_env θ (update_e x c σ) ≡ update_e x (ground_exp θ c) (ground_env θ σ)
update_e_ground θ x c σ = λ i. record { evars = update_map (ground_exp θ) x c σ.evars i; avars = map_values (ground_atomic θ) σ.avars }

pub update_a_ground : (θ : GroundSubst) (x : ℕ) (c : AtomicExp) (σ : ExpEnv) → ground_env θ (update_a x c σ) ≡ update_a x (ground_atomic θ c) (ground_env θ σ)
update_a_ground θ x c σ = λ i. record { evars = map_values (ground_exp θ) σ.evars; avars = update_map (ground_atomic θ) x c σ.avars i }

pub bind_params_ground : (θ : GroundSubst) (f : Exp → Exp) (g : AtomicExp → AtomicExp) (ps : List Param) (ds : List Exp) →
    ground_env θ (bind_params f g ps ds) ≡ bind_params (λ c. ground_exp θ (f c)) (λ x. ground_atomic θ (g x)) ps ds
bind_params_ground θ f g [] ds = refl
bind_params_ground θ f g (pe x ∷ ps) [] = refl
bind_params_ground θ f g (pa x ∷ ps) [] = refl
bind_params_ground θ f g (pe x ∷ ps) (d ∷ ds) = ap (add_e x (ground_exp θ (f d))) (bind_params_ground θ f g ps ds)
bind_params_ground θ f g (pa x ∷ ps) (d ∷ ds) = ap (add_a x (ground_atomic θ (g (atom_of d)))) (bind_params_ground θ f g ps ds)

ground_of_env : (θ : GroundSubst) (σ : ExpEnv) → ground_of (ground_env θ σ) ≡ compose_ground (subst_of_env σ) θ
ground_of_env θ σ = ground_ext _ _ (λ x. lookup_map (ground_exp θ) (atm (sym 0)) x σ.evars) (λ x. lookup_map (ground_atomic θ) (sym 0) x σ.avars)

-- the value in a grounded environment is the grounded value
pub value_ground : (θ : GroundSubst) (σ : ExpEnv) (c : Exp) → ground_exp (ground_of (ground_env θ σ)) c ≡ ground_exp θ (apply (subst_of_env σ) c)
value_ground θ σ c = ap (λ (φ : GroundSubst). ground_exp φ c) (ground_of_env θ σ) ∙ inv (ground_apply θ (subst_of_env σ) c)

pub atomic_ground : (θ : GroundSubst) (σ : ExpEnv) (x : AtomicExp) → ground_atomic (ground_of (ground_env θ σ)) x ≡ ground_atomic θ (apply_atomic (subst_of_env σ) x)
atomic_ground θ σ x = ap (λ (φ : GroundSubst). ground_atomic φ x) (ground_of_env θ σ) ∙ inv (ground_atomic_apply θ (subst_of_env σ) x)

pub arguments_ground : (θ : GroundSubst) (σ : ExpEnv) (ps : List Param) (ds : List Exp) →
    ground_env θ (bind_params (apply (subst_of_env σ)) (apply_atomic (subst_of_env σ)) ps ds) ≡
    bind_params (ground_exp (ground_of (ground_env θ σ))) (ground_atomic (ground_of (ground_env θ σ))) ps ds
arguments_ground θ σ ps ds = bind_params_ground θ (apply (subst_of_env σ)) (apply_atomic (subst_of_env σ)) ps ds
    ∙ (λ i. bind_params (λ c. inv (value_ground θ σ c) i) (λ x. inv (atomic_ground θ σ x) i) ps ds)
