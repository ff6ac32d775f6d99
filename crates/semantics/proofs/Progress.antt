-- A well-formed program never gets stuck on fitting inputs (001, section 3.2; demand 2).
use mathlib.Core.Path.{◌≡◌, subst, sym as inv}
use mathlib.Core.Bool.{true}
use mathlib.Core.List.{List}
use mathlib.Core.Logic.{◌⊎◌, inl, inr}
use Rattle.expressions.specs.Expression.{Value, Exp}
use Rattle.language.specs.Program.{Term, result, Prog, find}
use Rattle.language.specs.WellFormed.{admitted}
use Rattle.semantics.specs.Figure4.{ValueEnv, ValueOf, Step, Reaches, Initial}
use Rattle.semantics.specs.Evaluate.{Next, end, go, step, start_term, start_env}
use Rattle.semantics.specs.Demand2.{Proceeds, NeverStuck}
use Rattle.semantics.proofs.Environments.{FitsInputs}
use Rattle.semantics.proofs.Scopes.{WellScoped, scoped_once}
use Rattle.semantics.proofs.Evaluation.{Goes, step_goes, scoped_step, initial_is, initial_start, start_scoped}

scoped_proceeds : (p : Prog) (t : Term) (σ : ValueEnv) → WellScoped p t σ → Proceeds p t σ
scoped_proceeds p t σ w = record { distinct_e = w.distinct_e; distinct_a = w.distinct_a; binds_once = scoped_once t w; proceeds = pick (step p t σ) (step_goes t w) }
  where
    pick : (x : Next) → Goes p t σ x → ((c : Exp) × (v : Value) × (t ≡ result c) × ValueOf σ c v) ⊎ ((t' : Term) × (σ' : ValueEnv) × Step p σ t t' σ')
    pick (end v) g = inl (g.0, v, g.1, g.2)
    pick (go t' σ') g = inr (t', σ', g)

scoped_reaches : {p : Prog} {t t' : Term} {σ σ' : ValueEnv} → admitted p ≡ true → Reaches p t σ t' σ' → WellScoped p t σ → WellScoped p t' σ'
scoped_reaches a (Reaches.here t σ) w = w
scoped_reaches a (Reaches.there t u t' σ τ σ' s r) w = scoped_reaches a r (scoped_step a s w)

-- "an accepted program never gets stuck"
pub never_stuck : (p : Prog) (is : List Value) → admitted p ≡ true → FitsInputs (find p 0).params is → NeverStuck p is
never_stuck p is a f = record {
  starts = (start_term p, start_env p is, initial_start p is a f);
  progress = λ t t' σ σ' x r. scoped_proceeds p t' σ' (scoped_reaches a r (scoped t σ x));
}
  where
    scoped : (t : Term) (σ : ValueEnv) → Initial p is t σ → WellScoped p t σ
    scoped t σ x = let u = initial_is x in
        subst (λ (t : Term). WellScoped p t σ) (inv u.0) (subst (λ (σ : ValueEnv). WellScoped p (start_term p) σ) (inv u.1) (start_scoped p is a f))
