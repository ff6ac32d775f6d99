-- Tracing: the rules of figure 10 of 001 with the transition of tabulation (section 6.2). No rule has a default.
use Rattle.std.specs.Prelude.{ℕ, zero, suc, ◌+◌, ◌≡◌, Bool, true, false, List, [], ◌∷◌}
use Rattle.std.proofs.Math.Option.{Option, none, some}
use Rattle.expressions.specs.Expression.{AtomicExp, sym, avar, Exp, atm, evar, pair}
use Rattle.expressions.specs.Contraction.{CRPair, Contraction, identity, bind_e, bind_a, non_equal, contract}
use Rattle.language.specs.Program.{eqa, consp, Term, call, conditional, result, Param, pe, pa, Def, Prog}
use Rattle.semantics.specs.Environment.{Binds, update_e, update_a, empty_env, add_e, add_a}
use Rattle.semantics.specs.Figure4.{Defines}
use Rattle.semantics.specs.Configuration.{ExpEnv, state, Configuration, with_env}

-- ea/σ̂ = d̂a
pub data CAtomOf (σ : ExpEnv) : Exp → AtomicExp → Type 0 where
  symbol : (z : ℕ) → CAtomOf σ (atm (sym z)) (sym z)
  variable : (x : ℕ) (a : AtomicExp) → Binds x a σ.avars → CAtomOf σ (atm (avar x)) a

-- e/σ̂ = d̂
pub data CValueOf (σ : ExpEnv) : Exp → Exp → Type 0 where
  atomic : (c : Exp) (a : AtomicExp) → CAtomOf σ c a → CValueOf σ c (atm a)
  variable : (x : ℕ) (v : Exp) → Binds x v σ.evars → CValueOf σ (evar x) v
  pairs : (c d u v : Exp) → CValueOf σ c u → CValueOf σ d v → CValueOf σ (pair c d) (pair u v)

-- σ̂' = [x1 ↦ e1/σ̂, .., xn ↦ en/σ̂]
pub data CArgumentsOf (σ : ExpEnv) : List Param → List Exp → ExpEnv → Type 0 where
  done : CArgumentsOf σ [] [] empty_env
  any : (x : ℕ) (ps : List Param) (d : Exp) (ds : List Exp) (v : Exp) (τ : ExpEnv) → CValueOf σ d v → CArgumentsOf σ ps ds τ → CArgumentsOf σ (pe x ∷ ps) (d ∷ ds) (add_e x v τ)
  one : (x : ℕ) (ps : List Param) (d : Exp) (ds : List Exp) (a : AtomicExp) (τ : ExpEnv) → CAtomOf σ d a → CArgumentsOf σ ps ds τ → CArgumentsOf σ (pa x ∷ ps) (d ∷ ds) (add_a x a τ)

-- mk_bind: "binds the left side to the right if left is a variable, else right to left"; of two symbols there is none
pub data MkBind : AtomicExp → AtomicExp → Contraction → Type 0 where
  left : (n : ℕ) (b : AtomicExp) → MkBind (avar n) b (bind_a n b)
  right : (z n : ℕ) → MkBind (sym z) (avar n) (bind_a n (sym z))

-- (t, σ̂) ⇒ ⟨(t', σ̂'), κ⟩, with the counter before and after; of a condition also which branch
pub data Leads (p : Prog) (σ : ExpEnv) (k : ℕ) : Term → Option Bool → Term → ExpEnv → Contraction → ℕ → Type 0 where
  equal : (x y : Exp) (s t : Term) (a : AtomicExp) → CAtomOf σ x a → CAtomOf σ y a → Leads p σ k (conditional (eqa x y) s t) (some true) s σ identity k
  assume : (x y : Exp) (s t : Term) (a b : AtomicExp) (κ : Contraction) → CAtomOf σ x a → CAtomOf σ y b → (a ≡ b → ⊥) → MkBind a b κ →
      Leads p σ k (conditional (eqa x y) s t) (some true) s σ κ k
  exclude : (x y : Exp) (s t : Term) (a b : AtomicExp) → CAtomOf σ x a → CAtomOf σ y b → (a ≡ b → ⊥) → Leads p σ k (conditional (eqa x y) s t) (some false) t σ (non_equal a b) k
  is_pair : (c : Exp) (h t x : ℕ) (s r : Term) (u v : Exp) → CValueOf σ c (pair u v) →
      Leads p σ k (conditional (consp c h t x) s r) (some true) s (update_e t v (update_e h u σ)) identity k
  is_atomic : (c : Exp) (h t x : ℕ) (s r : Term) (a : AtomicExp) → CValueOf σ c (atm a) → Leads p σ k (conditional (consp c h t x) s r) (some false) r (update_a x a σ) identity k
  split_pair : (c : Exp) (h t x : ℕ) (s r : Term) (n : ℕ) → CValueOf σ c (evar n) →
      Leads p σ k (conditional (consp c h t x) s r) (some true) s (update_e t (evar (k + 1)) (update_e h (evar k) σ)) (bind_e n (pair (evar k) (evar (k + 1)))) (k + 3)
  split_atom : (c : Exp) (h t x : ℕ) (s r : Term) (n : ℕ) → CValueOf σ c (evar n) →
      Leads p σ k (conditional (consp c h t x) s r) (some false) r (update_a x (avar (k + 2)) σ) (bind_e n (atm (avar (k + 2)))) (k + 3)
  calls : (f : ℕ) (ds : List Exp) (d : Def) (τ : ExpEnv) → Defines d p f → CArgumentsOf σ d.params ds τ → Leads p σ k (call f ds) none d.body τ identity k

-- (cls, c) ↦tab (cls', c'): "A branch that contradicts is no transition."
pub data Transition (p : Prog) (c : Configuration) (o : Option Bool) : Configuration → Type 0 where
  transition : (t : Term) (σ : ExpEnv) (κ : Contraction) (k : ℕ) (P : CRPair state) → Leads p c.cr.con.env c.fresh c.term o t σ κ k →
      contract κ (with_env σ c.cr) ≡ some P → Transition p c o (record { cr = P; term = t; fresh = k })

-- the decisions of a transition: none at a call
abbrev pub decisions : Option Bool → List Bool → List Bool
decisions none bs = bs
decisions (some b) bs = b ∷ bs

-- m transitions from c to d, and the decisions on the way: the trail
pub data Derivation (p : Prog) (d : Configuration) : Configuration → ℕ → List Bool → Type 0 where
  here : Derivation p d d zero []
  there : (c e : Configuration) (o : Option Bool) (m : ℕ) (bs : List Bool) → Transition p c o e → Derivation p d e m bs → Derivation p d c (suc m) (decisions o bs)

-- a terminal configuration ⟨(e, σ̂), r̂⟩ and its output e/σ̂ (definition 41)
pub record Terminal (c : Configuration) (u : Exp) : Type 0 where
  pub exp : Exp
  pub term : c.term ≡ result exp
  pub value : CValueOf c.cr.con.env exp u
