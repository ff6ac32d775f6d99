-- Evaluation as a function is that of the rules of figure 4 of 001, both ways, for well-formed programs and fitting inputs.
use Prim.Native.Nat.{ℕ, zero, suc, ◌+◌, ◌≤◌}
use mathlib.Core.Path.{◌≡◌, refl, ap, ap₂, subst, ◌∙◌, sym as inv}
use mathlib.Core.Bool.{Bool, true, false, cond, false≢true}
use mathlib.Core.List.{List, [], ◌∷◌}
use mathlib.Core.Option.{Option, none, some, none-ne-some, some-injective}
use mathlib.Core.Logic.{◌↔◌}
use native.Mathlib.Omega.{arith}
use native.Mathlib.Nat.{not-suc-le-zero, le_of_suc-le-suc}
use lib.Dec.{eqb}
use borrow.Author.Tests.{eqb-true, eqb-false, eq-eqb, ne_eqb}
use Rattle.expressions.specs.Expression.{Value, atom, cons, AtomicExp, sym, avar, Exp, atm, evar, pair}
use Rattle.expressions.specs.Substitution.{ground_exp, ground_atomic}
use Rattle.expressions.proofs.Tests.{and_both}
use Rattle.language.specs.Program.{eqa, consp, Term, call, conditional, result, Param, pe, pa, Def, Prog, find, atom_of}
use Rattle.language.specs.Scope.{Scope, in_scope_atomic, in_scope, all_in_scope, is_atomic, atomic_in_scope}
use Rattle.language.specs.WellFormed.{fits, admitted}
use Rattle.language.proofs.Formed.{some_main}
use Rattle.language.proofs.Tests.{both}
use Rattle.semantics.specs.Environment.{bind_params, names}
use Rattle.semantics.specs.Figure4.{ValueEnv, AtomOf, ValueOf, ArgumentsOf, Step, equal, unequal, is_pair, is_atom, calls, Evaluates, terminal, transition, InitialEnv, Initial, Outputs, RunsLonger}
use Rattle.semantics.specs.Evaluate.{ground_of, Next, end, go, step_pair, step, add_step, eval_from, bind_inputs, start_term, start_env, evaluate}
use Rattle.semantics.proofs.Environments.{lookup_binds, bound_lookup, ParamsBound, FitsInputs, bind_inputs_bound}
use Rattle.semantics.proofs.Scopes.{Covers, WellScoped, defines_find, defines_is, scoped_body, scoped_call, scoped_eqa, scoped_consp, scoped_pair, scoped_atom, scoped_start}

-- What the rules give is what the function gives; this needs no well-formed program.
atom_is : {σ : ValueEnv} {c : Exp} {z : ℕ} → AtomOf σ c z → (ground_atomic (ground_of σ) (atom_of c) ≡ z) × (ground_exp (ground_of σ) c ≡ atom z)
atom_is (AtomOf.symbol y) = (refl, refl)
atom_is (AtomOf.variable x y b) = let e = lookup_binds 0 b in (e, ap atom e)

pub value_is : {σ : ValueEnv} {c : Exp} {v : Value} → ValueOf σ c v → ground_exp (ground_of σ) c ≡ v
value_is (ValueOf.atomic d z h) = (atom_is h).1
value_is (ValueOf.variable x w b) = lookup_binds (atom 0) b
value_is (ValueOf.pairs a b u w h k) = ap₂ cons (value_is h) (value_is k)

arguments_are : {σ τ : ValueEnv} {ps : List Param} {ds : List Exp} → ArgumentsOf σ ps ds τ → bind_params (ground_exp (ground_of σ)) (ground_atomic (ground_of σ)) ps ds ≡ τ
arguments_are ArgumentsOf.done = refl
arguments_are (ArgumentsOf.any x qs d es v ρ h k) = λ i. let r = arguments_are k i in record { evars = (x, value_is h i) ∷ r.evars; avars = r.avars }
arguments_are (ArgumentsOf.one x qs d es z ρ h k) = λ i. let r = arguments_are k i in record { evars = r.evars; avars = (x, (atom_is h).0 i) ∷ r.avars }

pub step_is : {p : Prog} {σ σ' : ValueEnv} {t t' : Term} → Step p σ t t' σ' → step p t σ ≡ go t' σ'
unfolding step
step_is {p} {σ} (calls f ds d τ g a) =
    ap (λ (e : Def). go e.body (bind_params (ground_exp (ground_of σ)) (ground_atomic (ground_of σ)) e.params ds)) (defines_is _ g) ∙ ap (go d.body) (arguments_are a)
step_is {p} {σ} (equal x y s r z h k) = ap (λ (b : Bool). cond b (go s σ) (go r σ)) (eq-eqb _ _ ((atom_is h).0 ∙ inv (atom_is k).0))
step_is {p} {σ} (unequal x y s r z w h k n) = ap (λ (b : Bool). cond b (go s σ) (go r σ)) (ne_eqb _ _ (λ e. n (inv (atom_is h).0 ∙ e ∙ (atom_is k).0)))
step_is {p} {σ} (is_pair c h q x s r u v k) = ap (step_pair h q x s r σ) (value_is k)
step_is {p} {σ} (is_atom c h q x s r z k) = ap (step_pair h q x s r σ) (value_is k)

evaluates_is : {p : Prog} {v : Value} {m : ℕ} {t : Term} {σ : ValueEnv} (n : ℕ) → m ≤ n → Evaluates p v m t σ → eval_from p n (step p t σ) ≡ some (m, v)
unfolding eval_from step
evaluates_is zero l (terminal c ρ h) = ap (λ (w : Value). some (0, w)) (value_is h)
evaluates_is (suc n) l (terminal c ρ h) = ap (λ (w : Value). some (0, w)) (value_is h)
evaluates_is zero l (transition k a b ρ ρ' s h) = absurd (not-suc-le-zero l)
evaluates_is {p} (suc n) l (transition k a b ρ ρ' s h) = ap (eval_from p (suc n)) (step_is s) ∙ ap add_step (evaluates_is n (le_of_suc-le-suc l) h)

-- What is in reach has a value by the rules, the function's.
module _ (sc : Scope) (σ : ValueEnv) (covers : Covers sc σ) where
  atomic_value : (x : AtomicExp) → in_scope_atomic sc x ≡ true → AtomOf σ (atm x) (ground_atomic (ground_of σ) x)
  atomic_value (sym z) e = AtomOf.symbol z
  atomic_value (avar n) e = AtomOf.variable n _ (bound_lookup 0 n σ.avars (covers.1 n e))

  atom_of_lem : (c : Exp) → atomic_in_scope sc c ≡ true → AtomOf σ c (ground_atomic (ground_of σ) (atom_of c))
  atom_of_lem (atm x) e = atomic_value x e
  atom_of_lem (evar n) e = absurd (false≢true e)
  atom_of_lem (pair c d) e = absurd (false≢true e)

  value_of : (c : Exp) → in_scope sc c ≡ true → ValueOf σ c (ground_exp (ground_of σ) c)
  value_of (atm x) e = ValueOf.atomic (atm x) _ (atomic_value x e)
  value_of (evar n) e = ValueOf.variable n _ (bound_lookup (atom 0) n σ.evars (covers.0 n e))
  value_of (pair c d) e = let w = and_both (in_scope sc c) (in_scope sc d) e in ValueOf.pairs c d _ _ (value_of c w.0) (value_of d w.1)

  arguments_of : (ps : List Param) (ds : List Exp) → fits ps ds ≡ true → all_in_scope sc ds ≡ true → ArgumentsOf σ ps ds (bind_params (ground_exp (ground_of σ)) (ground_atomic (ground_of σ)) ps ds)
  arguments_of [] [] f e = ArgumentsOf.done
  arguments_of [] (d ∷ ds) f e = absurd (false≢true f)
  arguments_of (pe x ∷ ps) [] f e = absurd (false≢true f)
  arguments_of (pa x ∷ ps) [] f e = absurd (false≢true f)
  arguments_of (pe x ∷ ps) (d ∷ ds) f e = let w = and_both (in_scope sc d) (all_in_scope sc ds) e in ArgumentsOf.any x ps d ds _ _ (value_of d w.0) (arguments_of ps ds f w.1)
  arguments_of (pa x ∷ ps) (d ∷ ds) f e =
      let w = and_both (in_scope sc d) (all_in_scope sc ds) e in
      let g = and_both (is_atomic d) (fits ps ds) f in
      ArgumentsOf.one x ps d ds _ _ (atom_of_lem d (both g.0 w.0)) (arguments_of ps ds g.1 w.1)

-- where a state goes by the rules
abbrev pub Goes : Prog → Term → ValueEnv → Next → Type 0
Goes p t σ (end v) = (c : Exp) × (t ≡ result c) × ValueOf σ c v
Goes p t σ (go t' σ') = Step p σ t t' σ'

pub step_goes : {p : Prog} (t : Term) {σ : ValueEnv} → WellScoped p t σ → Goes p t σ (step p t σ)
unfolding step
step_goes (result c) {σ} w = (c, refl, value_of w.scope σ w.covers c w.well_formed)
step_goes {p} (call f ds) {σ} w = let u = scoped_call w in calls f ds (find p f) _ (defines_find p f _ u.0) (arguments_of w.scope σ w.covers (find p f).params ds u.1 u.2)
step_goes {p} (conditional (eqa x y) s t) {σ} w = let u = scoped_eqa w in
    pick (atom_of_lem w.scope σ w.covers x u.0) (atom_of_lem w.scope σ w.covers y u.1) (eqb (ground_atomic (ground_of σ) (atom_of x)) (ground_atomic (ground_of σ) (atom_of y))) refl
  where
    pick : AtomOf σ x (ground_atomic (ground_of σ) (atom_of x)) → AtomOf σ y (ground_atomic (ground_of σ) (atom_of y)) → (b : Bool) →
        eqb (ground_atomic (ground_of σ) (atom_of x)) (ground_atomic (ground_of σ) (atom_of y)) ≡ b → Goes p (conditional (eqa x y) s t) σ (cond b (go s σ) (go t σ))
    pick vx vy true e = equal x y s t _ (subst (AtomOf σ x) (eqb-true _ _ e) vx) vy
    pick vx vy false e = unequal x y s t _ _ vx vy (eqb-false _ _ e)
step_goes {p} (conditional (consp c h t x) s u) {σ} w = pick (ground_exp (ground_of σ) c) (value_of w.scope σ w.covers c (scoped_consp w))
  where
    pick : (v : Value) → ValueOf σ c v → Goes p (conditional (consp c h t x) s u) σ (step_pair h t x s u σ v)
    pick (atom z) k = is_atom c h t x s u z k
    pick (cons v₁ v₂) k = is_pair c h t x s u v₁ v₂ k

-- a step keeps the state of a well-formed program one
arguments_bound : {σ τ : ValueEnv} {ps : List Param} {ds : List Exp} → ArgumentsOf σ ps ds τ → ParamsBound ps τ
arguments_bound ArgumentsOf.done = ParamsBound.done
arguments_bound (ArgumentsOf.any x ps d ds v τ h k) = ParamsBound.any x ps v τ (arguments_bound k)
arguments_bound (ArgumentsOf.one x ps d ds z τ h k) = ParamsBound.one x ps z τ (arguments_bound k)

pub scoped_step : {p : Prog} {σ σ' : ValueEnv} {t t' : Term} → admitted p ≡ true → Step p σ t t' σ' → WellScoped p t σ → WellScoped p t' σ'
scoped_step a (equal x y s t z h k) w = (scoped_eqa w).2
scoped_step a (unequal x y s t z v h k n) w = (scoped_eqa w).3
scoped_step a (is_pair c h t x s r u v k) w = scoped_pair u v w
scoped_step a (is_atom c h t x s r z k) w = scoped_atom z w
scoped_step a (calls f ds d τ g k) w = scoped_body a g (arguments_bound k)

-- What the function gives is what the rules give.
pub add_step_some : (o : Option (ℕ × Value)) (m : ℕ) (v : Value) → add_step o ≡ some (m, v) → (k : ℕ) × (m ≡ suc k) × (o ≡ some (k, v))
add_step_some none m v e = absurd (none-ne-some _ e)
add_step_some (some r) m v e = let q = some-injective _ _ e in (r.0, ap (λ (s : ℕ × Value). s.0) (inv q), ap (λ (w : Value). some (r.0, w)) (ap (λ (s : ℕ × Value). s.1) q))

ended : (p : Prog) (t : Term) (σ : ValueEnv) (w : Value) → Goes p t σ (end w) → (m : ℕ) (v : Value) → ◌≡◌ {A = Option (ℕ × Value)} (some (0, w)) (some (m, v)) → (m ≡ 0) × Evaluates p v m t σ
ended p t σ w g m v e =
    let q = some-injective _ _ e in
    (ap (λ (s : ℕ × Value). s.0) (inv q), subst (λ (r : ℕ × Value). Evaluates p r.1 r.0 t σ) q (subst (λ (t : Term). Evaluates p w 0 t σ) (inv g.1) (terminal g.0 σ g.2)))

is_evaluates : {p : Prog} → admitted p ≡ true → (n : ℕ) (t : Term) (σ : ValueEnv) → WellScoped p t σ → (m : ℕ) (v : Value) → eval_from p n (step p t σ) ≡ some (m, v) → (m ≤ n) × Evaluates p v m t σ
unfolding eval_from
is_evaluates {p} a zero t σ w m v e = pick (step p t σ) (step_goes t w) e
  where
    pick : (x : Next) → Goes p t σ x → eval_from p zero x ≡ some (m, v) → (m ≤ zero) × Evaluates p v m t σ
    pick (end u) g e = let r = ended p t σ u g m v e in ((omega (arith, r.0)), r.1)
    pick (go t' σ') g e = absurd (none-ne-some _ e)
is_evaluates {p} a (suc n) t σ w m v e = pick (step p t σ) (step_goes t w) e (λ t' σ' k q f. is_evaluates a n t' σ' q k v f)
  where
    pick : (x : Next) → Goes p t σ x → eval_from p (suc n) x ≡ some (m, v) →
        ((t' : Term) (σ' : ValueEnv) (k : ℕ) → WellScoped p t' σ' → eval_from p n (step p t' σ') ≡ some (k, v) → (k ≤ n) × Evaluates p v k t' σ') → (m ≤ suc n) × Evaluates p v m t σ
    pick (end u) g e ih = let r = ended p t σ u g m v e in ((omega (arith, r.0)), r.1)
    pick (go t' σ') g e ih =
        let u = add_step_some _ m v e in
        let r = ih t' σ' u.0 (scoped_step a g w) u.2 in
        ((omega (arith, u.1, r.0)), subst (λ (k : ℕ). Evaluates p v k t σ) (inv u.1) (transition u.0 t t' σ σ' g r.1))

-- the initial state
initial_env : (ps : List Param) (vs : List Value) → FitsInputs ps vs → InitialEnv ps vs (bind_inputs ps vs)
initial_env [] [] f = InitialEnv.done
initial_env [] (v ∷ vs) f = absurd f
initial_env (pe x ∷ ps) [] f = absurd f
initial_env (pa x ∷ ps) [] f = absurd f
initial_env (pe x ∷ ps) (v ∷ vs) f = InitialEnv.any x ps v vs _ (initial_env ps vs f)
initial_env (pa x ∷ ps) (atom z ∷ vs) f = InitialEnv.one x ps z vs _ (initial_env ps vs f)
initial_env (pa x ∷ ps) (cons u v ∷ vs) f = absurd f

env_is : {ps : List Param} {vs : List Value} {σ : ValueEnv} → InitialEnv ps vs σ → σ ≡ bind_inputs ps vs
env_is InitialEnv.done = refl
env_is (InitialEnv.any x ps v vs τ h) = λ i. let r = env_is h i in record { evars = (x, v) ∷ r.evars; avars = r.avars }
env_is (InitialEnv.one x ps z vs τ h) = λ i. let r = env_is h i in record { evars = r.evars; avars = (x, z) ∷ r.avars }

module _ {p : Prog} {is : List Value} where
  pub initial_is : {t : Term} {σ : ValueEnv} → Initial p is t σ → (t ≡ start_term p) × (σ ≡ start_env p is)
  initial_is x = let d = inv (defines_is _ x.defines) in
      (x.term ∙ ap (λ (d : Def). call 0 (names d.params)) d, env_is x.env ∙ ap (λ (d : Def). bind_inputs d.params is) d)

  pub initial_unique : {t t' : Term} {σ σ' : ValueEnv} → Initial p is t σ → Initial p is t' σ' → (t ≡ t') × (σ ≡ σ')
  initial_unique x y = let u = initial_is x in let v = initial_is y in (u.0 ∙ inv v.0, u.1 ∙ inv v.1)

  -- the rules have one outcome, the function's
  pub outputs_evaluate : {m : ℕ} {o : Value} (n : ℕ) → m ≤ n → Outputs p is m o → evaluate p n is ≡ some (m, o)
  unfolding evaluate
  outputs_evaluate {m} {o} n l x = let u = initial_is x.initial in
      subst (λ (t : Term). eval_from p n (step p t (start_env p is)) ≡ some (m, o)) u.0
      (subst (λ (σ : ValueEnv). eval_from p n (step p x.t σ) ≡ some (m, o)) u.1 (evaluates_is n l x.evaluates))

  pub outputs_unique : {m m' : ℕ} {o o' : Value} → Outputs p is m o → Outputs p is m' o' → (m ≡ m') × (o ≡ o')
  outputs_unique {m} {m'} {o} {o'} x y =
      let q = inv (outputs_evaluate (m + m') (omega arith) x) ∙ outputs_evaluate (m + m') (omega arith) y in
      let r = some-injective (m, o) (m', o') q in
      (ap (λ (s : ℕ × Value). s.0) r, ap (λ (s : ℕ × Value). s.1) r)

module _ (p : Prog) (is : List Value) (a : admitted p ≡ true) (f : FitsInputs (find p 0).params is) where
  pub initial_start : Initial p is (start_term p) (start_env p is)
  initial_start = record {
    main = find p 0;
    defines = defines_find p 0 _ (some_main p a);
    term = refl;
    env = initial_env (find p 0).params is f;
  }

  pub start_scoped : WellScoped p (start_term p) (start_env p is)
  start_scoped = scoped_start a (bind_inputs_bound (find p 0).params is f)

  -- "the evaluation rules give that output on that input in at most the job's steps"
  pub evaluate_rules : (n m : ℕ) (o : Value) → (evaluate p n is ≡ some (m, o)) ↔ ((m ≤ n) × Outputs p is m o)
  unfolding evaluate
  evaluate_rules n m o = (by_rules, λ h. outputs_evaluate n h.0 h.1)
    where
      by_rules : evaluate p n is ≡ some (m, o) → (m ≤ n) × Outputs p is m o
      by_rules e = let w = is_evaluates a n (start_term p) (start_env p is) start_scoped m o e in
          (w.0, record { t = start_term p; σ = start_env p is; initial = initial_start; evaluates = w.1 })

  -- "An input runs longer if its run reaches no end in N steps."
  pub evaluate_longer : (n : ℕ) → (evaluate p n is ≡ none) ↔ RunsLonger p n is
  evaluate_longer n = ((λ e m o l x. none-ne-some _ (inv e ∙ outputs_evaluate n l x)), λ h. pick h (evaluate p n is) refl)
    where
      pick : RunsLonger p n is → (r : Option (ℕ × Value)) → evaluate p n is ≡ r → r ≡ none
      pick h none e = refl
      pick h (some r) e = let w = (evaluate_rules n r.0 r.1).0 e in absurd (h r.0 r.1 w.0 w.1)
