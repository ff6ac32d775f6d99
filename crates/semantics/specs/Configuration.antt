-- Configurations (001, figures 8 and 9, definitions 38 and 40), carried with the class as in tabulation (section 6.2).
use Rattle.std.specs.Prelude.{ℕ, ◌+◌, List, [], ◌∷◌, length}
use Rattle.std.proofs.Math.Option.{Option, none, some}
use Rattle.expressions.specs.Expression.{AtomicExp, Exp, atm, sym, nodes}
use Rattle.expressions.specs.Substitution.{GroundSubst, ground_exp, ground_atomic, Substitution, apply, apply_atomic}
use Rattle.expressions.specs.Restriction.{Restriction, simplify, nodes_restriction}
use Rattle.expressions.specs.Contraction.{Construction, CRPair}
use Rattle.expressions.specs.Class.{IOPair, GroundPair, apply_io, ground_io, IOClass, nodes_io}
use Rattle.expressions.specs.Split.{first_fresh}
use Rattle.language.specs.Program.{Term, Prog, find}
use Rattle.semantics.specs.Environment.{Env, lookup, map_values, bind_params}
use Rattle.semantics.specs.Figure4.{ValueEnv}
use Rattle.semantics.specs.Evaluate.{start_term}

-- a c-environment
abbrev pub ExpEnv : Type 0
ExpEnv = Env Exp AtomicExp

abbrev pub apply_env : Substitution → ExpEnv → ExpEnv
apply_env s σ = record { evars = map_values (apply s) σ.evars; avars = map_values (apply_atomic s) σ.avars }

abbrev pub ground_env : GroundSubst → ExpEnv → ValueEnv
ground_env θ σ = record { evars = map_values (ground_exp θ) σ.evars; avars = map_values (ground_atomic θ) σ.avars }

-- a c-environment is a substitution for a program's variables: e/σ̂
abbrev pub subst_of_env : ExpEnv → Substitution
subst_of_env σ = record { e = λ x. lookup (atm (sym 0)) x σ.evars; a = λ x. lookup (sym 0) x σ.avars }

-- What a contraction acts on: the job's inputs and wanted output under the path's substitution, and the environment.
pub record State : Type 0 where
  pub io : IOPair
  pub env : ExpEnv

pub record GroundState : Type 0 where
  pub io : GroundPair
  pub env : ValueEnv

abbrev pub state : Construction
state = record {
  Con = State;
  Ground = GroundState;
  apply = λ s c. record { io = apply_io s c.io; env = apply_env s c.env };
  ground_exp = λ θ c. record { io = ground_io θ c.io; env = ground_env θ c.env };
}

-- a configuration with the path's counter
pub record Configuration : Type 0 where
  pub cr : CRPair state
  pub term : Term
  pub fresh : ℕ

abbrev pub with_env : ExpEnv → CRPair state → CRPair state
with_env σ P = record { con = record { io = P.con.io; env = σ }; neqs = P.neqs }

-- the initial configuration of a class with its simplified restriction
abbrev pub start_with : Prog → IOClass → Option Restriction → Option Configuration
start_with p j none = none
start_with p j (some qs) = some (record {
  cr = record { con = record { io = j.con; env = bind_params (λ c. c) (λ x. x) (find p 0).params j.con.ins }; neqs = qs };
  term = start_term p;
  fresh = first_fresh j;
})

-- "A contradictory job has no start"
abbrev pub start : Prog → IOClass → Option Configuration
start p j = start_with p j (simplify j.neqs)

-- "Nodes of a configuration: every atom, variable and pair in inputs, wanted output and environment values, written as
-- trees, plus 2 for each non-equality."
abbrev pub nodes_values : List (ℕ × Exp) → ℕ
nodes_values [] = 0
nodes_values (b ∷ bs) = nodes b.1 + nodes_values bs

abbrev pub nodes_state : CRPair state → ℕ
nodes_state P = nodes_io P.con.io + (nodes_values P.con.env.evars + length P.con.env.avars) + nodes_restriction P.neqs
