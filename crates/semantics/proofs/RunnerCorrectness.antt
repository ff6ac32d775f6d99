-- The runner gives the value and the steps of the evaluation rules, where 21 does not stop it (01, "Running forwards"; demand 2).
use Prim.Native.Nat.{ℕ, zero, suc, ◌+◌}
use mathlib.Core.Path.{◌≡◌, refl, ap, ap₂, subst, ◌∙◌, sym as inv}
use mathlib.Core.Bool.{Bool, true, false, cond}
use mathlib.Core.List.{List}
use mathlib.Core.Option.{Option, none, some, none-ne-some, some-injective}
use mathlib.Core.Logic.{◌⊎◌, inl, inr}
use native.Mathlib.Omega.{arith}
use lib.Dec.{eqb}
use Rattle.expressions.specs.Expression.{Value, atom, cons}
use Rattle.expressions.specs.Substitution.{ground_exp, ground_atomic}
use Rattle.language.specs.Program.{eqa, consp, Term, call, conditional, result, Prog, find, atom_of}
use Rattle.language.specs.WellFormed.{admitted}
use Rattle.semantics.specs.Figure4.{ValueEnv}
use Rattle.semantics.specs.Evaluate.{ground_of, step_pair, Next, end, go, step, add_step, eval_from, evaluate}
use Rattle.semantics.specs.Runner.{Ran, value, ran_over, not_within, next_over, arrive, at_result, run_from, runner}
use Rattle.semantics.specs.Demand2.{RunnerCorrect}
use Rattle.semantics.proofs.Environments.{FitsInputs}
use Rattle.semantics.proofs.Evaluation.{outputs_evaluate, evaluate_rules, evaluate_longer}

-- an answer of the runner beside what evaluation comes to from a state s steps on
abbrev Agrees : ℕ → Ran → Option (ℕ × Value) → Type 0
Agrees s (value m v) o = (k : ℕ) × (m ≡ s + k) × (o ≡ some (k, v))
Agrees s ran_over o = Unit {0}
Agrees s not_within o = o ≡ none

-- a term that is no end
abbrev pub Moves : Term → Type 0
Moves (call f cs) = Unit {0}
Moves (conditional k s t) = Unit {0}
Moves (result c) = ⊥

pub step_moves : (p : Prog) (t : Term) (σ : ValueEnv) → Moves t → (u : Term) × (τ : ValueEnv) × (step p t σ ≡ go u τ)
unfolding step
step_moves p (call f cs) σ m = (_, _, refl)
step_moves p (conditional (eqa c d) s t) σ m = pick (eqb (ground_atomic (ground_of σ) (atom_of c)) (ground_atomic (ground_of σ) (atom_of d)))
  where
    pick : (b : Bool) → (u : Term) × (τ : ValueEnv) × (cond b (go s σ) (go t σ) ≡ go u τ)
    pick true = (s, σ, refl)
    pick false = (t, σ, refl)
step_moves p (conditional (consp c h t x) s u) σ m = pick (ground_exp (ground_of σ) c)
  where
    pick : (v : Value) → (w : Term) × (τ : ValueEnv) × (step_pair h t x s u σ v ≡ go w τ)
    pick (atom z) = (_, _, refl)
    pick (cons v₁ v₂) = (_, _, refl)
step_moves p (result c) σ m = absurd m

end_agrees : (p : Prog) (is : List Value) (n s : ℕ) (v : Value) → Agrees s (run_from p is n (suc s) (end v)) (add_step (eval_from p n (end v)))
unfolding run_from eval_from
end_agrees p is zero s v = pick (next_over is (end v))
  where
    pick : (b : Bool) → Agrees s (arrive (λ t σ. not_within) (suc s) b (end v)) (some (1, v))
    pick true = tt
    pick false = (1, (omega arith), refl)
end_agrees p is (suc n) s v = pick (next_over is (end v))
  where
    pick : (b : Bool) → Agrees s (arrive (λ t σ. run_from p is n (suc (suc s)) (at_result p (step p t σ))) (suc s) b (end v)) (some (1, v))
    pick true = tt
    pick false = (1, (omega arith), refl)

later_agrees : (s : ℕ) (r : Ran) (o : Option (ℕ × Value)) → Agrees (suc s) r o → Agrees s r (add_step o)
later_agrees s (value m v) o a = (suc a.0, (omega (arith, a.1)), ap add_step a.2)
later_agrees s ran_over o a = tt
later_agrees s not_within o a = ap add_step a

-- one transition on, to a state that is an end or moves
next_agrees : (p : Prog) (is : List Value) (n s : ℕ) →
    ((u : Term) (τ : ValueEnv) → Moves u → Agrees (suc s) (run_from p is n (suc s) (go u τ)) (eval_from p n (step p u τ))) →
    (u : Term) (τ : ValueEnv) → Agrees s (run_from p is n (suc s) (at_result p (go u τ))) (eval_from p (suc n) (go u τ))
unfolding run_from eval_from step
next_agrees p is n s ih (call f cs) τ = later_agrees s (run_from p is n (suc s) (go (call f cs) τ)) (eval_from p n (step p (call f cs) τ)) (ih (call f cs) τ tt)
next_agrees p is n s ih (conditional k a b) τ = later_agrees s (run_from p is n (suc s) (go (conditional k a b) τ)) (eval_from p n (step p (conditional k a b) τ)) (ih (conditional k a b) τ tt)
next_agrees p is n s ih (result c) τ = end_agrees p is n s (ground_exp (ground_of τ) c)

agrees : (p : Prog) (is : List Value) (n s : ℕ) (t : Term) (σ : ValueEnv) → Moves t → Agrees s (run_from p is n s (go t σ)) (eval_from p n (step p t σ))
unfolding run_from eval_from
agrees p is zero s t σ m = pick (next_over is (go t σ))
  where
    pick : (b : Bool) → Agrees s (arrive (λ t σ. not_within) s b (go t σ)) (eval_from p zero (step p t σ))
    pick true = tt
    pick false = let w = step_moves p t σ m in ap (eval_from p zero) w.2
agrees p is (suc n) s t σ m = pick (next_over is (go t σ)) (next_agrees p is n s (λ u τ k. agrees p is n (suc s) u τ k))
  where
    Next-agrees : Next → Type 0
    Next-agrees x = Agrees s (run_from p is n (suc s) (at_result p x)) (eval_from p (suc n) x)

    pick : (b : Bool) → ((u : Term) (τ : ValueEnv) → Next-agrees (go u τ)) →
        Agrees s (arrive (λ t σ. run_from p is n (suc s) (at_result p (step p t σ))) s b (go t σ)) (eval_from p (suc n) (step p t σ))
    pick true ih = tt
    pick false ih = let w = step_moves p t σ m in subst Next-agrees (inv w.2) (ih w.0 w.1)

runner_agrees : (p : Prog) (n : ℕ) (is : List Value) → Agrees 0 (runner p n is) (evaluate p n is)
unfolding runner evaluate
runner_agrees p n is = agrees p is n 0 _ _ tt

agreed : (r : Ran) (o : Option (ℕ × Value)) (m : ℕ) (v : Value) → Agrees 0 r o → o ≡ some (m, v) → (r ≡ value m v) ⊎ (r ≡ ran_over)
agreed (value k w) o m v a e =
    let q = some-injective _ _ (inv a.2 ∙ e) in
    let l : k ≡ a.0 = omega (arith, a.1) in
    inl (ap₂ value (l ∙ ap (λ (r : ℕ × Value). r.0) q) (ap (λ (r : ℕ × Value). r.1) q))
agreed ran_over o m v a e = inr refl
agreed not_within o m v a e = absurd (none-ne-some _ (inv a ∙ e))

-- "the runner gives the value and step count of the published evaluation rules"
pub runner_correct : (p : Prog) (n : ℕ) (is : List Value) → admitted p ≡ true → FitsInputs (find p 0).params is → RunnerCorrect p n is (runner p n is)
runner_correct p n is a f = record {
  valued = λ m v e. (evaluate_rules p is a f n m v).0 (valued m v (subst (λ (r : Ran). Agrees 0 r (evaluate p n is)) e (runner_agrees p n is)));
  complete = λ m v l x. agreed (runner p n is) (evaluate p n is) m v (runner_agrees p n is) (outputs_evaluate n l x);
  longer = λ e. (evaluate_longer p is a f n).0 (subst (λ (r : Ran). Agrees 0 r (evaluate p n is)) e (runner_agrees p n is));
}
  where
    valued : (m : ℕ) (v : Value) → Agrees 0 (value m v) (evaluate p n is) → evaluate p n is ≡ some (m, v)
    valued m v b = let l : b.0 ≡ m = omega (arith, b.1) in b.2 ∙ ap (λ (k : ℕ). some (k, v)) l
