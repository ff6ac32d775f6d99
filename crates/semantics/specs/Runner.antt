-- The forward runner (01, "Running forwards"): evaluation, stopped by 21 or "not within N".
use Rattle.std.specs.Prelude.{ℕ, zero, suc, ◌+◌, Bool, true, false, List, [], ◌∷◌, ltb, length}
use Rattle.expressions.specs.Expression.{Value, atom, cons}
use Rattle.language.specs.Program.{Term, call, conditional, result, Prog}
use Rattle.semantics.specs.Figure4.{ValueEnv}
use Rattle.semantics.specs.Evaluate.{Next, end, go, step, start_term, start_env}
use Rattle.semantics.specs.Walk.{node_limit}

-- the steps and the value, or "It stops only with 21 or `not within N`"
pub data Ran : Type 0 where
  value : ℕ → Value → Ran
  ran_over not_within : Ran

abbrev pub nodes_value : Value → ℕ
nodes_value (atom z) = 1
nodes_value (cons u v) = suc (nodes_value u + nodes_value v)

abbrev pub nodes_inputs : List Value → ℕ
nodes_inputs [] = 0
nodes_inputs (v ∷ vs) = nodes_value v + nodes_inputs vs

abbrev pub nodes_bound : List (ℕ × Value) → ℕ
nodes_bound [] = 0
nodes_bound (b ∷ bs) = nodes_value b.1 + nodes_bound bs

-- "A state whose term is an e is an end; its value is the output."
abbrev pub at_result : Prog → Next → Next
at_result p (end v) = end v
at_result p (go (result c) σ) = step p (result c) σ
at_result p (go (call f cs) σ) = go (call f cs) σ
at_result p (go (conditional k s t) σ) = go (conditional k s t) σ

-- "Its nodes are those of the inputs and the environment values, at an end of the inputs and the output."
abbrev pub nodes_next : List Value → Next → ℕ
nodes_next is (end v) = nodes_inputs is + nodes_value v
nodes_next is (go t σ) = nodes_inputs is + (nodes_bound σ.evars + length σ.avars)

abbrev pub next_over : List Value → Next → Bool
next_over is x = ltb node_limit (nodes_next is x)

-- A state s steps from the start: "21 .. at the start, after a transition"; else an end, or it goes on.
abbrev pub arrive : (Term → ValueEnv → Ran) → ℕ → Bool → Next → Ran
arrive on s true x = ran_over
arrive on s false (end v) = value s v
arrive on s false (go t σ) = on t σ

-- "An input runs longer if its run reaches no end in N steps": n are left
unfoldable pub run_from : Prog → List Value → ℕ → ℕ → Next → Ran
unfolding step
run_from p is zero s x = arrive (λ t σ. not_within) s (next_over is x) x
run_from p is (suc n) s x = arrive (λ t σ. run_from p is n (suc s) (at_result p (step p t σ))) s (next_over is x) x

unfoldable pub runner : Prog → ℕ → List Value → Ran
unfolding run_from
runner p n is = run_from p is n 0 (go (start_term p) (start_env p is))
