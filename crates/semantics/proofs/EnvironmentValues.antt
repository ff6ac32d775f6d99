-- A property of all values of an environment: what update, lookup, a substitution and the binding of parameters keep.
use Prim.Native.Nat.{ℕ}
use mathlib.Core.Bool.{Bool, true, false, cond}
use mathlib.Core.List.{List, [], ◌∷◌}
use lib.Dec.{eqb}
use Rattle.expressions.specs.Expression.{AtomicExp, Exp}
use Rattle.language.specs.Program.{Param, pe, pa, atom_of}
use Rattle.semantics.specs.Lists.{All}
use Rattle.semantics.specs.Environment.{lookup, update, map_values, bind_params}
use Rattle.semantics.specs.Configuration.{ExpEnv}

-- a property of each value, of each atomic value of an environment
abbrev pub OfEnv : (Exp → Type 0) → (AtomicExp → Type 0) → ExpEnv → Type 0
OfEnv Q R σ = All (λ b. Q b.1) σ.evars × All (λ b. R b.1) σ.avars

pub update_all : {A : Type 0} (Q : A → Type 0) (x : ℕ) (v : A) (bs : List (ℕ × A)) → Q v → All (λ b. Q b.1) bs → All (λ b. Q b.1) (update x v bs)
update_all Q x v [] q h = (q, tt)
update_all {A} Q x v (b ∷ bs) q h = pick (eqb b.0 x) (update_all Q x v bs q h.1)
  where
    pick : (t : Bool) → All (λ b. Q b.1) (update x v bs) → All (λ b. Q b.1) (cond t ((x, v) ∷ bs) (b ∷ update x v bs))
    pick true ih = (q, h.1)
    pick false ih = (h.0, ih)

pub lookup_all : {A : Type 0} (Q : A → Type 0) (d : A) (x : ℕ) (bs : List (ℕ × A)) → Q d → All (λ b. Q b.1) bs → Q (lookup d x bs)
lookup_all Q d x [] q h = q
lookup_all Q d x (b ∷ bs) q h = pick (eqb b.0 x) (lookup_all Q d x bs q h.1)
  where
    pick : (t : Bool) → Q (lookup d x bs) → Q (cond t b.1 (lookup d x bs))
    pick true ih = h.0
    pick false ih = ih

pub map_all : {A B : Type 0} (Q : B → Type 0) (f : A → B) (bs : List (ℕ × A)) → All (λ b. Q (f b.1)) bs → All (λ b. Q b.1) (map_values f bs)
map_all Q f [] h = tt
map_all Q f (b ∷ bs) h = (h.0, map_all Q f bs h.1)

pub params_all : (Q : Exp → Type 0) (R : AtomicExp → Type 0) (f : Exp → Exp) (g : AtomicExp → AtomicExp) (ps : List Param) (ds : List Exp) →
    All (λ d. Q (f d) × R (g (atom_of d))) ds → OfEnv Q R (bind_params f g ps ds)
params_all Q R f g [] ds h = (tt, tt)
params_all Q R f g (p ∷ ps) [] h = (tt, tt)
params_all Q R f g (pe x ∷ ps) (d ∷ ds) h = let r = params_all Q R f g ps ds h.1 in ((h.0.0, r.0), r.1)
params_all Q R f g (pa x ∷ ps) (d ∷ ds) h = let r = params_all Q R f g ps ds h.1 in (r.0, (h.0.1, r.1))
