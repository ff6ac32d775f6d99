-- What tracing makes of a state without variables: one successor, the step of figure 4. Forward.antt proves it of every program and state.
use Prim.Native.Nat.{ℕ}
use mathlib.Core.List.{[]}
use mathlib.Core.Option.{none, some}
use Rattle.expressions.specs.Expression.{Value, sym}
use Rattle.expressions.specs.Class.{IOPair}
use Rattle.language.specs.Program.{Term}
use Rattle.semantics.specs.Environment.{map_values}
use Rattle.semantics.specs.Figure4.{ValueEnv}
use Rattle.semantics.specs.Evaluate.{Next, end, go}
use Rattle.semantics.specs.Configuration.{ExpEnv, Configuration}
use Rattle.semantics.specs.Trace.{Successors, terminal, called, branches}
use Rattle.semantics.specs.Embedding.{embed}

abbrev pub embed_env : ValueEnv → ExpEnv
embed_env σ = record { evars = map_values embed σ.evars; avars = map_values sym σ.avars }

-- a state of figure 4 as a configuration: the class beside it, and no non-equality
abbrev pub at_state : IOPair → ℕ → Term → ValueEnv → Configuration
at_state io k t σ = record { cr = record { con = record { io = io; env = embed_env σ }; neqs = [] }; term = t; fresh = k }

-- the one successor is what the step of figure 4 gives
pub data OneSuccessor (io : IOPair) (k : ℕ) : Successors → Next → Type 0 where
  ends : (v : Value) → OneSuccessor io k (terminal (embed v)) (end v)
  calls : (t : Term) (σ : ValueEnv) → OneSuccessor io k (called (at_state io k t σ)) (go t σ)
  holds : (t : Term) (σ : ValueEnv) → OneSuccessor io k (branches (some (at_state io k t σ)) none) (go t σ)
  fails : (t : Term) (σ : ValueEnv) → OneSuccessor io k (branches none (some (at_state io k t σ))) (go t σ)
