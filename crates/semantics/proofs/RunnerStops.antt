-- When the runner stops with 21 (specs/Stops.antt): exactly where the run of figure 4 of 001 has a state over 4,096 nodes within N steps.
use Prim.Native.Nat.{ℕ, zero, suc, ◌≤◌, ◌<◌}
use mathlib.Core.Path.{◌≡◌, refl, ap, subst, ◌∙◌, sym as inv}
use mathlib.Core.Bool.{Bool, true, false}
use mathlib.Core.List.{List}
use mathlib.Core.Logic.{◌⊎◌, inl, inr}
use native.Mathlib.Omega.{arith}
use native.Mathlib.Nat.{not-suc-le-zero, le_of_suc-le-suc}
use borrow.Author.Tests.{ltb-true, lt-ltb}
use Rattle.expressions.specs.Expression.{Value, Exp}
use Rattle.expressions.specs.Substitution.{ground_exp}
use Rattle.language.specs.Program.{Term, call, conditional, result, Prog, find}
use Rattle.language.specs.WellFormed.{admitted}
use Rattle.semantics.specs.Figure4.{ValueEnv, ValueOf, Step, equal, unequal, is_pair, is_atom, calls}
use Rattle.semantics.specs.Evaluate.{ground_of, Next, end, go, step, start_term, start_env}
use Rattle.semantics.specs.Walk.{node_limit}
use Rattle.semantics.specs.Runner.{Ran, value, ran_over, not_within, at_result, nodes_next, next_over, arrive, run_from, runner}
use Rattle.semantics.specs.Stops.{ReachesIn, here, there, NodesAt, at_call, at_condition, at_end, RunsOver, RunnerStops}
use Rattle.semantics.proofs.Environments.{FitsInputs}
use Rattle.semantics.proofs.Scopes.{WellScoped}
use Rattle.semantics.proofs.Evaluation.{value_is, step_is, Goes, step_goes, scoped_step, initial_is, initial_start, start_scoped}
use Rattle.semantics.proofs.RunnerCorrectness.{Moves, step_moves}

-- an arrival that stops is over the limit, or goes on to one that stops
arrive_over : (on : Term → ValueEnv → Ran) (s : ℕ) (b : Bool) (x : Next) → arrive on s b x ≡ ran_over → (b ≡ true) ⊎ ((t : Term) × (σ : ValueEnv) × (x ≡ go t σ) × (on t σ ≡ ran_over))
arrive_over on s true x e = inl refl
arrive_over on s false (end v) e = let k : ◌≡◌ {A = ℕ} 0 1 = cc in absurd (omega arith)
arrive_over on s false (go t σ) e = inr (t, σ, refl, e)

module _ (p : Prog) (is : List Value) where
  -- where the runner arrives with a state: at its output, or at itself if it is no end
  abbrev arrived : Term → ValueEnv → Next
  arrived t σ = at_result p (go t σ)

  arrived_moves : (t u : Term) (σ τ : ValueEnv) → arrived t σ ≡ go u τ → Moves t × (step p u τ ≡ step p t σ)
  unfolding step
  arrived_moves (call f cs) u σ τ e = (tt, cc)
  arrived_moves (conditional k a b) u σ τ e = (tt, cc)
  arrived_moves (result c) u σ τ e = let k : ◌≡◌ {A = ℕ} 0 1 = cc in absurd (omega arith)

  -- the nodes there are those of the state
  arrived_nodes : (t : Term) (σ : ValueEnv) → WellScoped p t σ → NodesAt is σ t (nodes_next is (arrived t σ))
  unfolding step
  arrived_nodes (call f cs) σ w = at_call f cs
  arrived_nodes (conditional k a b) σ w = at_condition k a b
  arrived_nodes (result c) σ w = at_end c (ground_exp (ground_of σ) c) (let g = step_goes (result c) w in let e : g.0 ≡ c = cc in subst (λ (d : Exp). ValueOf σ d (ground_exp (ground_of σ) c)) e g.2)

  counted_nodes : {t : Term} {σ : ValueEnv} {k : ℕ} → NodesAt is σ t k → nodes_next is (arrived t σ) ≡ k
  unfolding step
  counted_nodes (at_call f cs) = refl
  counted_nodes (at_condition k a b) = refl
  counted_nodes (at_end c v h) = ap (λ (v : Value). nodes_next is (end v)) (value_is h)

  -- as `RunsOver`, from any state on
  record OverFrom (n : ℕ) (t : Term) (σ : ValueEnv) : Type 0 where
    u : Term
    τ : ValueEnv
    m : ℕ
    reaches : ReachesIn p u τ m t σ
    within : m ≤ n
    nodes : ℕ
    counted : NodesAt is τ u nodes
    over : node_limit < nodes

  over_here : (n : ℕ) (t : Term) (σ : ValueEnv) → WellScoped p t σ → next_over is (arrived t σ) ≡ true → OverFrom n t σ
  over_here n t σ w e = record {
    u = t;
    τ = σ;
    m = 0;
    reaches = here;
    within = omega arith;
    nodes = nodes_next is (arrived t σ);
    counted = arrived_nodes t σ w;
    over = ltb-true node_limit (nodes_next is (arrived t σ)) e;
  }

  over_there : (n : ℕ) (t u : Term) (σ τ : ValueEnv) → Step p σ t u τ → OverFrom n u τ → OverFrom (suc n) t σ
  over_there n t u σ τ s x = record {
    u = x.u;
    τ = x.τ;
    m = suc x.m;
    reaches = there x.m t u σ τ s x.reaches;
    within = omega (arith, x.within);
    nodes = x.nodes;
    counted = x.counted;
    over = x.over;
  }

  -- a run that stops with 21 has such a state
  ran_over_lem : admitted p ≡ true → (n s : ℕ) (t : Term) (σ : ValueEnv) → WellScoped p t σ → run_from p is n s (arrived t σ) ≡ ran_over → OverFrom n t σ
  unfolding run_from
  ran_over_lem a zero s t σ w e = pick (arrive_over (λ t σ. not_within) s (next_over is (arrived t σ)) (arrived t σ) e)
    where
      pick : (next_over is (arrived t σ) ≡ true) ⊎ ((u : Term) × (τ : ValueEnv) × (arrived t σ ≡ go u τ) × (not_within ≡ ran_over)) → OverFrom zero t σ
      pick (inl h) = over_here zero t σ w h
      pick (inr h) = let q = h.3 in let k : ◌≡◌ {A = ℕ} 0 1 = cc in absurd (omega arith)
  ran_over_lem a (suc n) s t σ w e = pick (λ u τ v. ran_over_lem a n (suc s) u τ v) (arrive_over (λ t σ. run_from p is n (suc s) (at_result p (step p t σ))) s (next_over is (arrived t σ)) (arrived t σ) e)
    where
      pick : ((u : Term) (τ : ValueEnv) → WellScoped p u τ → run_from p is n (suc s) (arrived u τ) ≡ ran_over → OverFrom n u τ) →
          (next_over is (arrived t σ) ≡ true) ⊎ ((u : Term) × (τ : ValueEnv) × (arrived t σ ≡ go u τ) × (run_from p is n (suc s) (at_result p (step p u τ)) ≡ ran_over)) → OverFrom (suc n) t σ
      pick ih (inl h) = over_here (suc n) t σ w h
      pick ih (inr h) =
          let m = arrived_moves t h.0 σ h.1 h.2 in
          let g = step_moves p t σ m.0 in
          let d : Step p σ t g.0 g.1 = subst (Goes p t σ) g.2 (step_goes t w) in
          over_there n t g.0 σ g.1 d (ih g.0 g.1 (scoped_step a d w) (ap (λ (x : Next). run_from p is n (suc s) (at_result p x)) (inv (m.1 ∙ g.2)) ∙ h.3))

  -- a run over such a state stops with 21
  arrive_here : (n s : ℕ) (x : Next) → next_over is x ≡ true → run_from p is n s x ≡ ran_over
  unfolding run_from
  arrive_here zero s x e = ap (λ (b : Bool). arrive (λ t σ. not_within) s b x) e
  arrive_here (suc n) s x e = ap (λ (b : Bool). arrive (λ t σ. run_from p is n (suc s) (at_result p (step p t σ))) s b x) e

  step_arrived : {t u : Term} {σ τ : ValueEnv} → Step p σ t u τ → arrived t σ ≡ go t σ
  step_arrived (equal x y s t z h k) = refl
  step_arrived (unequal x y s t z w h k n) = refl
  step_arrived (is_pair c h t x s r u v k) = refl
  step_arrived (is_atom c h t x s r z k) = refl
  step_arrived (calls f ds d τ g k) = refl

  over_ran : {u : Term} {τ : ValueEnv} {t : Term} {σ : ValueEnv} {m k : ℕ} (n s : ℕ) → ReachesIn p u τ m t σ → m ≤ n → NodesAt is τ u k → node_limit < k → run_from p is n s (arrived t σ) ≡ ran_over
  unfolding run_from
  over_ran {t = t} {σ = σ} n s here l c o = arrive_here n s (arrived t σ) (lt-ltb node_limit (nodes_next is (arrived t σ)) (omega (arith, o, counted_nodes c)))
  over_ran zero s (there m t v σ ρ d h) l c o = absurd (not-suc-le-zero l)
  over_ran (suc n) s (there m t v σ ρ d h) l c o = ap (run_from p is (suc n) s) (step_arrived d) ∙ pick (next_over is (go t σ)) (over_ran n (suc s) h (le_of_suc-le-suc l) c o)
    where
      pick : (b : Bool) → run_from p is n (suc s) (arrived v ρ) ≡ ran_over → arrive (λ t σ. run_from p is n (suc s) (at_result p (step p t σ))) s b (go t σ) ≡ ran_over
      pick true e = refl
      pick false e = ap (λ (x : Next). run_from p is n (suc s) (at_result p x)) (step_is d) ∙ e

-- "It stops only with 21 or `not within N`"
not_over : (r : Ran) → (r ≡ ran_over → ⊥) → ((m : ℕ) × (v : Value) × (r ≡ value m v)) ⊎ (r ≡ not_within)
not_over (value m v) f = inl (m, v, refl)
not_over ran_over f = absurd (f refl)
not_over not_within f = inr refl

pub runner_stops : (p : Prog) (n : ℕ) (is : List Value) → admitted p ≡ true → FitsInputs (find p 0).params is → RunnerStops p n is (runner p n is)
unfolding runner
runner_stops p n is a f = record { over = (stopped, stops); unstopped = λ h. not_over (runner p n is) (λ e. h (stopped e)) }
  where
    stopped : runner p n is ≡ ran_over → RunsOver p n is
    stopped e = let x = ran_over_lem p is a n 0 (start_term p) (start_env p is) (start_scoped p is a f) e in record {
      t₀ = start_term p;
      σ₀ = start_env p is;
      initial = initial_start p is a f;
      t = x.u;
      σ = x.τ;
      m = x.m;
      reaches = x.reaches;
      within = x.within;
      nodes = x.nodes;
      counted = x.counted;
      over = x.over;
    }

    stops : RunsOver p n is → runner p n is ≡ ran_over
    stops x =
        let u = initial_is x.initial in
        over_ran p is n 0 (subst (λ (t : Term). ReachesIn p x.t x.σ x.m t (start_env p is)) u.0
        (subst (λ (σ : ValueEnv). ReachesIn p x.t x.σ x.m x.t₀ σ) u.1 x.reaches)) x.within x.counted x.over
