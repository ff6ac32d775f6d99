-- Demand 2, as statements with the rules of figures 4 and 10: an accepted program never gets stuck and binds no bound name (02, request 1), the
-- runner gives the value and the steps of the evaluation rules, the listing has exactly the lines of the tracing rules, in order.
use Rattle.std.specs.Prelude.{ℕ, ◌≤◌, ◌≡◌, Bool, true, false, List, [], ◌∷◌, ◌++◌, map, ◌⊎◌}
use Rattle.std.proofs.Math.Option.{Option, none, some}
use Rattle.expressions.specs.Expression.{Value, Exp}
use Rattle.expressions.specs.Substitution.{Substitution}
use Rattle.expressions.specs.Class.{apply_io, IOClass}
use Rattle.expressions.specs.Intersection.{common, intersect, no_limit}
use Rattle.language.specs.Program.{eqa, consp, Term, call, conditional, result, Prog}
use Rattle.semantics.specs.Lists.{All, Any, AllPairs}
use Rattle.semantics.specs.Environment.{Env, Unbound, DistinctNames}
use Rattle.semantics.specs.Figure4.{ValueEnv, ValueOf, Step, Reaches, Initial, Outputs, RunsLonger}
use Rattle.semantics.specs.Configuration.{Configuration, start}
use Rattle.semantics.specs.Figure10.{Transition, Derivation, Terminal}
use Rattle.semantics.specs.Tree.{Line, meeting_at, listing}
use Rattle.semantics.specs.Walk.{Walked, lines_of}
use Rattle.semantics.specs.Runner.{Ran, value, ran_over, not_within}

-- "A name .. that a `cons?` binds may no longer be one already in reach on that branch. .. 01's rule that a later binding replaces the
-- earlier one goes." (02, request 1): where the term is a `cons?`, none of the names that it binds is bound
abbrev pub BindsOnce : {E A : Type 0} → Term → Env E A → Type 0
BindsOnce (call f ds) σ = Unit {0}
BindsOnce (conditional (eqa x y) s t) σ = Unit {0}
BindsOnce (conditional (consp c h t x) s u) σ = Unbound h σ.evars × Unbound t σ.evars × Unbound x σ.avars
BindsOnce (result c) σ = Unit {0}

-- a state that is terminal and has a value, or has a step; its names are distinct (001, section 3.2), and what it binds is new
pub record Proceeds (p : Prog) (t : Term) (σ : ValueEnv) : Type 0 where
  pub distinct_e : DistinctNames σ.evars
  pub distinct_a : DistinctNames σ.avars
  pub binds_once : BindsOnce t σ
  pub proceeds : ((c : Exp) × (v : Value) × (t ≡ result c) × ValueOf σ c v) ⊎ ((t' : Term) × (σ' : ValueEnv) × Step p σ t t' σ')

-- "an accepted program never gets stuck": there is a start, and each state reached from it proceeds
pub record NeverStuck (p : Prog) (is : List Value) : Type 0 where
  pub starts : (t : Term) × (σ : ValueEnv) × Initial p is t σ
  pub progress : (t t' : Term) (σ σ' : ValueEnv) → Initial p is t σ → Reaches p t σ t' σ' → Proceeds p t' σ'

-- the same for configurations: terminal with an output, or there is a transition; what it binds is new
pub record TraceProceeds (p : Prog) (c : Configuration) : Type 0 where
  pub distinct_e : DistinctNames c.cr.con.env.evars
  pub distinct_a : DistinctNames c.cr.con.env.avars
  pub binds_once : BindsOnce c.term c.cr.con.env
  pub proceeds : ((u : Exp) × Terminal c u) ⊎ ((o : Option Bool) × (d : Configuration) × Transition p c o d)

abbrev pub TraceNeverStuck : Prog → IOClass → Type 0
TraceNeverStuck p j = (c d : Configuration) (m : ℕ) (bs : List Bool) → start p j ≡ some c → Derivation p d c m bs → TraceProceeds p d

-- what `NeverStuck` says of names alone: each state reached from the start binds new names
abbrev pub NeverRebinds : Prog → List Value → Type 0
NeverRebinds p is = (t t' : Term) (σ σ' : ValueEnv) → Initial p is t σ → Reaches p t σ t' σ' → BindsOnce t' σ'

-- "the runner gives the value and step count of the published evaluation rules"
pub record RunnerCorrect (p : Prog) (n : ℕ) (is : List Value) (r : Ran) : Type 0 where
  pub valued : (m : ℕ) (v : Value) → r ≡ value m v → (m ≤ n) × Outputs p is m v
  pub complete : (m : ℕ) (v : Value) → m ≤ n → Outputs p is m v → (r ≡ value m v) ⊎ (r ≡ ran_over)
  pub longer : r ≡ not_within → RunsLonger p n is

-- "true-branch-first order": at the first difference of two trails true before false
pub data Before : List Bool → List Bool → Type 0 where
  first : (bs cs : List Bool) → Before (true ∷ bs) (false ∷ cs)
  later : (b : Bool) (bs cs : List Bool) → Before bs cs → Before (b ∷ bs) (b ∷ cs)

pub record TrailedLine : Type 0 where
  pub trail : List Bool
  pub line : Line

-- a derivation of at most n transitions along a trail, to an end that meets the wanted output, and the line of it
pub record EndsIn (p : Prog) (n : ℕ) (c : Configuration) (x : TrailedLine) : Type 0 where
  pub m : ℕ
  pub d : Configuration
  pub u : Exp
  pub derivation : Derivation p d c m x.trail
  pub within : m ≤ n
  pub terminal : Terminal d u
  pub steps : x.line.steps ≡ m
  pub class : intersect no_limit (meeting_at (record { conf = d; steps = m; trail = x.trail }) u) ≡ common x.line.class

-- "exactly the lines of the published tracing rules within the job's steps, in true-branch-first order"
pub record ByTheRules (p : Prog) (n : ℕ) (c : Configuration) (lines : List Line) : Type 0 where
  pub trailed : List TrailedLine
  pub lines_are : lines ≡ map (λ x. x.line) trailed
  pub sound : All (EndsIn p n c) trailed
  pub complete : (x : TrailedLine) → EndsIn p n c x → Any (λ y. y ≡ x) trailed
  pub sorted : AllPairs (λ x y. Before x.trail y.trail) trailed

-- "a stopped listing is a beginning of that one", and one that is not stopped is that one
pub record TracedLines (p : Prog) (n : ℕ) (j : IOClass) (w : Walked) : Type 0 where
  pub by_the_rules : (c : Configuration) → start p j ≡ some c → ByTheRules p n c (listing p n j).lines
  pub no_start : start p j ≡ none → (listing p n j).lines ≡ []
  pub beginning : (rest : List Line) × ((listing p n j).lines ≡ lines_of w ++ rest)

-- a line's inputs and output "are the job's under the line's bindings" (001, theorem 35)
pub record InstanceOf (j l : IOClass) : Type 0 where
  pub s : Substitution
  pub is : l.con ≡ apply_io s j.con
