-- The nodes that decisions lead to, by the transitions between: what a walk has gone through, and can go through again.
use Prim.Native.Nat.{ℕ, suc, ◌+◌, ◌≤◌}
use mathlib.Core.Path.{◌≡◌, refl, ap, ◌∙◌}
use mathlib.Core.Bool.{Bool, true, false}
use mathlib.Core.List.{List, [], ◌∷◌, ◌++◌}
use mathlib.Core.Option.{Option, some}
use native.Mathlib.Omega.{arith}
use lib.ListN.{length}
use Rattle.language.specs.Program.{Prog}
use Rattle.semantics.specs.Configuration.{Configuration}
use Rattle.semantics.specs.Trace.{called, branches, successors}
use Rattle.semantics.specs.Tree.{Node, after_call, after_decision}
use Rattle.semantics.proofs.Backtrack.{replay, replay_next}
use Rattle.semantics.proofs.Replay.{replay_none, replay_call, replay_decision}

-- the branch that a decision takes
abbrev pub branch_of : Bool → Option Configuration → Option Configuration → Option Configuration
branch_of true a b = a
branch_of false a b = b

-- From x, with n transitions left, the decisions bs and the calls between lead to y, with m left; what is said by G holds of each
-- configuration behind x.
pub data Reaches (p : Prog) (G : Configuration → Type 0) : ℕ → Node → List Bool → ℕ → Node → Type 0 where
  here : {n : ℕ} {x : Node} → Reaches p G n x [] n x
  by_call : {n : ℕ} {x : Node} {bs : List Bool} {m : ℕ} {y : Node} {c : Configuration} → successors p x.conf ≡ called c → G c → Reaches p G n (after_call x c) bs m y → Reaches p G (suc n) x bs m y
  by_decision : {n : ℕ} {x : Node} {q : Bool} {bs : List Bool} {m : ℕ} {y : Node} {a b : Option Configuration} {c : Configuration} → successors p x.conf ≡ branches a b → branch_of q a b ≡ some c → G c →
      Reaches p G n (after_decision x q c) bs m y → Reaches p G (suc n) x (q ∷ bs) m y

module _ (p : Prog) (G : Configuration → Type 0) where
  -- one transition more
  pub reaches_call : {n : ℕ} {x : Node} {bs : List Bool} {m : ℕ} {y : Node} {c : Configuration} → Reaches p G n x bs (suc m) y → successors p y.conf ≡ called c → G c → Reaches p G n x bs m (after_call y c)
  reaches_call here e g = by_call e g here
  reaches_call (by_call f h r) e g = by_call f h (reaches_call r e g)
  reaches_call (by_decision f d h r) e g = by_decision f d h (reaches_call r e g)

  pub reaches_decision : (q : Bool) {n : ℕ} {x : Node} {bs : List Bool} {m : ℕ} {y : Node} {a b : Option Configuration} {c : Configuration} →
      Reaches p G n x bs (suc m) y → successors p y.conf ≡ branches a b → branch_of q a b ≡ some c → G c → Reaches p G n x (bs ++ (q ∷ [])) m (after_decision y q c)
  reaches_decision q here e d g = by_decision e d g here
  reaches_decision q (by_call f h r) e d g = by_call f h (reaches_decision q r e d g)
  reaches_decision q (by_decision f k h r) e d g = by_decision f k h (reaches_decision q r e d g)

  pub reaches_steps : {n : ℕ} {x : Node} {bs : List Bool} {m : ℕ} {y : Node} → Reaches p G n x bs m y → (m + y.steps ≡ n + x.steps) × (length bs + x.steps ≤ y.steps)
  reaches_steps here = (refl, omega arith)
  reaches_steps (by_call f h r) = let k = reaches_steps r in (omega (arith, k.0), omega (arith, k.1))
  reaches_steps (by_decision f d h r) = let k = reaches_steps r in (omega (arith, k.0), omega (arith, k.1))

  pub reaches_good : {n : ℕ} {x : Node} {bs : List Bool} {m : ℕ} {y : Node} → Reaches p G n x bs m y → G x.conf → G y.conf
  reaches_good here g = g
  reaches_good (by_call f h r) g = reaches_good r h
  reaches_good (by_decision f d h r) g = reaches_good r h

  decided : (n : ℕ) (x : Node) (q : Bool) (bs : List Bool) {a b : Option Configuration} {c : Configuration} → successors p x.conf ≡ branches a b → branch_of q a b ≡ some c →
      replay p (suc n) x (q ∷ bs) ≡ replay p n (after_decision x q c) bs
  decided n x true bs {a} {b} {c} e d = replay_decision p n x a b true bs e ∙ ap (λ (o : Option Configuration). replay_next (λ y. replay p n y (true ∷ bs)) (λ y. replay p n y bs) x true (branches o b)) d
  decided n x false bs {a} {b} {c} e d = replay_decision p n x a b false bs e ∙ ap (λ (o : Option Configuration). replay_next (λ y. replay p n y (false ∷ bs)) (λ y. replay p n y bs) x false (branches a o)) d

  past_call : (n : ℕ) (x : Node) (c : Configuration) (bs : List Bool) (q : Bool) → successors p x.conf ≡ called c → replay p (suc n) x (bs ++ (q ∷ [])) ≡ replay p n (after_call x c) (bs ++ (q ∷ []))
  past_call n x c [] q f = replay_call p n x c q [] f
  past_call n x c (b ∷ bs) q f = replay_call p n x c b (bs ++ (q ∷ [])) f

  -- "however often a path is worked out again": the branch behind y is where its decisions lead from x
  pub reaches_replay : (q : Bool) {n : ℕ} {x : Node} {bs : List Bool} {m : ℕ} {y : Node} {a b : Option Configuration} {c : Configuration} →
      Reaches p G n x bs (suc m) y → successors p y.conf ≡ branches a b → branch_of q a b ≡ some c → replay p n x (bs ++ (q ∷ [])) ≡ some (record { left = m; node = after_decision y q c })
  reaches_replay q {m = m} {y = y} {c = c} here e d = decided m y q [] e d ∙ replay_none p m (after_decision y q c)
  reaches_replay q (by_call {n} {x} {bs} {c = k} f h r) e d = past_call n x k bs q f ∙ reaches_replay q r e d
  reaches_replay q (by_decision {n} {x} {q = b} {bs} f k h r) e d = decided n x b (bs ++ (q ∷ [])) f k ∙ reaches_replay q r e d
