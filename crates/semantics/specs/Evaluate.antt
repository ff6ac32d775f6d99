-- Evaluation as a function, for accepted programs that of figure 4 (proofs/Evaluation.antt). Total: an unbound variable is
-- the atom 0, an unknown function gives it; no accepted program meets either.
use Rattle.std.specs.Prelude.{ℕ, zero, suc, cond, List, [], ◌∷◌, eqb}
use Rattle.std.proofs.Math.Option.{Option, none, some}
use Rattle.expressions.specs.Expression.{Value, atom, cons}
use Rattle.expressions.specs.Substitution.{GroundSubst, ground_exp, ground_atomic}
use Rattle.language.specs.Program.{eqa, consp, Term, call, conditional, result, Param, pe, pa, Prog, find, atom_of}
use Rattle.semantics.specs.Environment.{lookup, update_e, update_a, empty_env, add_e, add_a, bind_params, names}
use Rattle.semantics.specs.Figure4.{ValueEnv}

-- an environment grounds a program's expressions: e/σ
abbrev pub ground_of : ValueEnv → GroundSubst
ground_of σ = record { e = λ x. lookup (atom 0) x σ.evars; a = λ x. lookup 0 x σ.avars }

-- an end with its output, or the next state
pub data Next : Type 0 where
  end : Value → Next
  go : Term → ValueEnv → Next

abbrev pub step_pair : ℕ → ℕ → ℕ → Term → Term → ValueEnv → Value → Next
step_pair h t x s u σ (atom z) = go u (update_a x z σ)
step_pair h t x s u σ (cons v w) = go s (update_e t w (update_e h v σ))

unfoldable pub step : Prog → Term → ValueEnv → Next
step p (result c) σ = end (ground_exp (ground_of σ) c)
step p (call f ds) σ = go (find p f).body (bind_params (ground_exp (ground_of σ)) (ground_atomic (ground_of σ)) (find p f).params ds)
step p (conditional (eqa x y) s t) σ = cond (eqb (ground_atomic (ground_of σ) (atom_of x)) (ground_atomic (ground_of σ) (atom_of y))) (go s σ) (go t σ)
step p (conditional (consp c h t x) s u) σ = step_pair h t x s u σ (ground_exp (ground_of σ) c)

abbrev pub add_step : Option (ℕ × Value) → Option (ℕ × Value)
add_step none = none
add_step (some r) = some (suc r.0, r.1)

-- the steps and the output, or `none`: no end in n steps
unfoldable pub eval_from : Prog → ℕ → Next → Option (ℕ × Value)
eval_from p zero (end v) = some (0, v)
eval_from p zero (go t σ) = none
eval_from p (suc n) (end v) = some (0, v)
eval_from p (suc n) (go t σ) = add_step (eval_from p n (step p t σ))

abbrev pub atom_in : Value → ℕ
atom_in (atom z) = z
atom_in (cons u v) = 0

abbrev pub bind_inputs : List Param → List Value → ValueEnv
bind_inputs [] vs = empty_env
bind_inputs (p ∷ ps) [] = empty_env
bind_inputs (pe x ∷ ps) (v ∷ vs) = let σ = bind_inputs ps vs in add_e x v σ
bind_inputs (pa x ∷ ps) (v ∷ vs) = let σ = bind_inputs ps vs in add_a x (atom_in v) σ

-- "The start state is the call of main on the inputs."
abbrev pub start_term : Prog → Term
start_term p = call 0 (names (find p 0).params)

abbrev pub start_env : Prog → List Value → ValueEnv
start_env p is = bind_inputs (find p 0).params is

unfoldable pub evaluate : Prog → ℕ → List Value → Option (ℕ × Value)
unfolding eval_from step
evaluate p n is = eval_from p n (step p (start_term p) (start_env p is))
