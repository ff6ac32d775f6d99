-- Environments (001, section 3.2): "a value for each variable in reach".
use Rattle.std.specs.Prelude.{ℕ, ◌≡◌, cond, List, [], ◌∷◌, eqb}
use Rattle.expressions.specs.Expression.{AtomicExp, Exp, atm, evar, avar}
use Rattle.language.specs.Program.{Param, pe, pa, atom_of}

-- the `e.` names and the `a.` names apart, each with what it is bound to
pub record Env (E A : Type 0) : Type 0 where
  pub evars : List (ℕ × E)
  pub avars : List (ℕ × A)

-- σ(x) = v
pub data Binds {A : Type 0} (x : ℕ) (v : A) : List (ℕ × A) → Type 0 where
  here : (bs : List (ℕ × A)) → Binds x v ((x, v) ∷ bs)
  there : (y : ℕ) (w : A) (bs : List (ℕ × A)) → (y ≡ x → ⊥) → Binds x v bs → Binds x v ((y, w) ∷ bs)

-- no name twice
abbrev pub Unbound : {A : Type 0} → ℕ → List (ℕ × A) → Type 0
Unbound x [] = Unit {0}
Unbound x (b ∷ bs) = (b.0 ≡ x → ⊥) × Unbound x bs

abbrev pub DistinctNames : {A : Type 0} → List (ℕ × A) → Type 0
DistinctNames [] = Unit {0}
DistinctNames (b ∷ bs) = Unbound b.0 bs × DistinctNames bs

-- the value of a name; d where it has none, which no state of a well-formed program asks for
abbrev pub lookup : {A : Type 0} → A → ℕ → List (ℕ × A) → A
lookup d x [] = d
lookup d x (b ∷ bs) = cond (eqb b.0 x) b.1 (lookup d x bs)

-- σ[x ↦ v] (figure 4). No accepted program binds a bound name (02, request 1), so that this adds at the end: `update-new`.
abbrev pub update : {A : Type 0} → ℕ → A → List (ℕ × A) → List (ℕ × A)
update x v [] = (x, v) ∷ []
update x v (b ∷ bs) = cond (eqb b.0 x) ((x, v) ∷ bs) (b ∷ update x v bs)

abbrev pub update_e : {E A : Type 0} → ℕ → E → Env E A → Env E A
update_e x v σ = record { evars = update x v σ.evars; avars = σ.avars }

abbrev pub update_a : {E A : Type 0} → ℕ → A → Env E A → Env E A
update_a x v σ = record { evars = σ.evars; avars = update x v σ.avars }

abbrev pub map_values : {A B : Type 0} → (A → B) → List (ℕ × A) → List (ℕ × B)
map_values f [] = []
map_values f (b ∷ bs) = (b.0, f b.1) ∷ map_values f bs

abbrev pub empty_env : {E A : Type 0} → Env E A
empty_env = record { evars = []; avars = [] }

abbrev pub add_e : {E A : Type 0} → ℕ → E → Env E A → Env E A
add_e x v σ = record { evars = (x, v) ∷ σ.evars; avars = σ.avars }

abbrev pub add_a : {E A : Type 0} → ℕ → A → Env E A → Env E A
add_a x v σ = record { evars = σ.evars; avars = (x, v) ∷ σ.avars }

-- "a fresh one that binds F's parameters to them, in order, and nothing else"; f and g value the arguments
abbrev pub bind_params : {E A : Type 0} → (Exp → E) → (AtomicExp → A) → List Param → List Exp → Env E A
bind_params f g [] ds = empty_env
bind_params f g (p ∷ ps) [] = empty_env
bind_params f g (pe x ∷ ps) (d ∷ ds) = let σ = bind_params f g ps ds in add_e x (f d) σ
bind_params f g (pa x ∷ ps) (d ∷ ds) = let σ = bind_params f g ps ds in add_a x (g (atom_of d)) σ

-- a parameter as an expression
abbrev pub name_of : Param → Exp
name_of (pe x) = evar x
name_of (pa x) = atm (avar x)

abbrev pub names : List Param → List Exp
names [] = []
names (p ∷ ps) = name_of p ∷ names ps
