-- Evaluation: the rules of figure 4 of 001, and definition 1. No rule has a default.
use Rattle.std.specs.Prelude.{ℕ, zero, suc, ◌≤◌, ◌≡◌, List, [], ◌∷◌}
use Rattle.expressions.specs.Expression.{Value, atom, cons, sym, avar, Exp, atm, evar, pair}
use Rattle.language.specs.Program.{eqa, consp, Term, call, conditional, result, Param, pe, pa, Def, Prog}
use Rattle.semantics.specs.Environment.{Env, Binds, update_e, update_a, empty_env, add_e, add_a, names}

abbrev pub ValueEnv : Type 0
ValueEnv = Env Value ℕ

-- ea/σ = (atom z)
pub data AtomOf (σ : ValueEnv) : Exp → ℕ → Type 0 where
  symbol : (z : ℕ) → AtomOf σ (atm (sym z)) z
  variable : (x z : ℕ) → Binds x z σ.avars → AtomOf σ (atm (avar x)) z

-- e/σ = d
pub data ValueOf (σ : ValueEnv) : Exp → Value → Type 0 where
  atomic : (c : Exp) (z : ℕ) → AtomOf σ c z → ValueOf σ c (atom z)
  variable : (x : ℕ) (v : Value) → Binds x v σ.evars → ValueOf σ (evar x) v
  pairs : (c d : Exp) (u v : Value) → ValueOf σ c u → ValueOf σ d v → ValueOf σ (pair c d) (cons u v)

-- σ' = [x1 ↦ e1/σ, .., xn ↦ en/σ]
pub data ArgumentsOf (σ : ValueEnv) : List Param → List Exp → ValueEnv → Type 0 where
  done : ArgumentsOf σ [] [] empty_env
  any : (x : ℕ) (ps : List Param) (d : Exp) (ds : List Exp) (v : Value) (τ : ValueEnv) → ValueOf σ d v → ArgumentsOf σ ps ds τ → ArgumentsOf σ (pe x ∷ ps) (d ∷ ds) (add_e x v τ)
  one : (x : ℕ) (ps : List Param) (d : Exp) (ds : List Exp) (z : ℕ) (τ : ValueEnv) → AtomOf σ d z → ArgumentsOf σ ps ds τ → ArgumentsOf σ (pa x ∷ ps) (d ∷ ds) (add_a x z τ)

-- Γ(f) = (define f x1 .. xn t)
pub data Defines (d : Def) : Prog → ℕ → Type 0 where
  first : (p : Prog) → Defines d (d ∷ p) zero
  later : (q : Def) (p : Prog) (f : ℕ) → Defines d p f → Defines d (q ∷ p) (suc f)

-- (t, σ) → (t', σ')
pub data Step (p : Prog) (σ : ValueEnv) : Term → Term → ValueEnv → Type 0 where
  equal : (x y : Exp) (s t : Term) (z : ℕ) → AtomOf σ x z → AtomOf σ y z → Step p σ (conditional (eqa x y) s t) s σ
  unequal : (x y : Exp) (s t : Term) (z w : ℕ) → AtomOf σ x z → AtomOf σ y w → (z ≡ w → ⊥) → Step p σ (conditional (eqa x y) s t) t σ
  is_pair : (c : Exp) (h t x : ℕ) (s r : Term) (u v : Value) → ValueOf σ c (cons u v) → Step p σ (conditional (consp c h t x) s r) s (update_e t v (update_e h u σ))
  is_atom : (c : Exp) (h t x : ℕ) (s r : Term) (z : ℕ) → ValueOf σ c (atom z) → Step p σ (conditional (consp c h t x) s r) r (update_a x z σ)
  calls : (f : ℕ) (ds : List Exp) (d : Def) (τ : ValueEnv) → Defines d p f → ArgumentsOf σ d.params ds τ → Step p σ (call f ds) d.body τ

-- (t, σ) reaches a terminal state with value v in m transitions
pub data Evaluates (p : Prog) (v : Value) : ℕ → Term → ValueEnv → Type 0 where
  terminal : (c : Exp) (σ : ValueEnv) → ValueOf σ c v → Evaluates p v zero (result c) σ
  transition : (m : ℕ) (t t' : Term) (σ σ' : ValueEnv) → Step p σ t t' σ' → Evaluates p v m t' σ' → Evaluates p v (suc m) t σ

-- (t, σ) →* (t', σ')
pub data Reaches (p : Prog) : Term → ValueEnv → Term → ValueEnv → Type 0 where
  here : (t : Term) (σ : ValueEnv) → Reaches p t σ t σ
  there : (t u t' : Term) (σ τ σ' : ValueEnv) → Step p σ t u τ → Reaches p u τ t' σ' → Reaches p t σ t' σ'

-- σ0 = [x1 ↦ d1, .., xn ↦ dn]: an `a.` parameter takes an atom
pub data InitialEnv : List Param → List Value → ValueEnv → Type 0 where
  done : InitialEnv [] [] empty_env
  any : (x : ℕ) (ps : List Param) (v : Value) (vs : List Value) (τ : ValueEnv) → InitialEnv ps vs τ → InitialEnv (pe x ∷ ps) (v ∷ vs) (add_e x v τ)
  one : (x : ℕ) (ps : List Param) (z : ℕ) (vs : List Value) (τ : ValueEnv) → InitialEnv ps vs τ → InitialEnv (pa x ∷ ps) (atom z ∷ vs) (add_a x z τ)

-- the initial state (definition 1), "the call of main on the inputs": t0 = (call f x1 .. xn)
pub record Initial (p : Prog) (is : List Value) (t : Term) (σ : ValueEnv) : Type 0 where
  pub main : Def
  pub defines : Defines main p 0
  pub term : t ≡ call 0 (names main.params)
  pub env : InitialEnv main.params is σ

-- the evaluation rules give the output o on the inputs is, in m steps
pub record Outputs (p : Prog) (is : List Value) (m : ℕ) (o : Value) : Type 0 where
  pub t : Term
  pub σ : ValueEnv
  pub initial : Initial p is t σ
  pub evaluates : Evaluates p o m t σ

-- "An input runs longer if its run reaches no end in N steps."
abbrev pub RunsLonger : Prog → ℕ → List Value → Type 0
RunsLonger p n is = (m : ℕ) (o : Value) → m ≤ n → Outputs p is m o → ⊥
