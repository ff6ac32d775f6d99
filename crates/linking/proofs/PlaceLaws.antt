-- An environment by places is the environment by names.
use Prim.Native.Nat.{ℕ, suc, ◌<◌}
use mathlib.Core.Path.{◌≡◌, refl, ap}
use mathlib.Core.Bool.{Bool, true, false, cond, false≢true}
use mathlib.Core.List.{List, [], ◌∷◌, ◌++◌}
use native.Mathlib.Omega.{arith}
use lib.Dec.{eqb}
use lib.ListN.{length, get_or}
use Rattle.expressions.specs.Expression.{AtomicExp, Exp, atm, evar, pair}
use Rattle.language.specs.Program.{Param, pe, pa, atom_of}
use Rattle.expressions.specs.Substitution.{Substitution, apply, apply_atomic, apply_all}
use Rattle.language.specs.WellFormed.{fits, has_param}
use Rattle.semantics.specs.Environment.{lookup, update_e, update_a, add_e, add_a, bind_params}
use Rattle.expressions.proofs.Tests.{or_none}
use Rattle.linking.specs.Twins.Linked.{place_in, with_name}
use Rattle.linking.specs.Twins.Places.{env_of}

-- the value at a place
pub lookup_e : (d : Exp) (x : ℕ) (sc : List Param) (vs : List Exp) → length vs ≡ length sc → lookup d x (env_of sc vs).evars ≡ get_or vs (place_in (pe x) sc) d
lookup_e d x [] [] e = refl
lookup_e d x [] (v ∷ vs) e = let z : ⊥ = omega arith in absurd z
lookup_e d x (p ∷ sc) [] e = let z : ⊥ = omega arith in absurd z
lookup_e d x (pe y ∷ sc) (v ∷ vs) e = go (eqb y x) (lookup_e d x sc vs (omega arith))
  where
    go : (b : Bool) → lookup d x (env_of sc vs).evars ≡ get_or vs (place_in (pe x) sc) d → cond b v (lookup d x (env_of sc vs).evars) ≡ get_or (v ∷ vs) (cond b 0 (suc (place_in (pe x) sc))) d
    go true h = refl
    go false h = h
lookup_e d x (pa y ∷ sc) (v ∷ vs) e = lookup_e d x sc vs (omega arith)

pub lookup_a : (d : AtomicExp) (x : ℕ) (sc : List Param) (vs : List Exp) → length vs ≡ length sc → place_in (pa x) sc < length sc → lookup d x (env_of sc vs).avars ≡ atom_of (get_or vs (place_in (pa x) sc) (atm d))
lookup_a d x [] vs e l = let z : ⊥ = omega arith in absurd z
lookup_a d x (p ∷ sc) [] e l = let z : ⊥ = omega arith in absurd z
lookup_a d x (pe y ∷ sc) (v ∷ vs) e l = lookup_a d x sc vs (omega arith) (omega arith)
lookup_a d x (pa y ∷ sc) (v ∷ vs) e l = go (eqb y x) l (λ k. lookup_a d x sc vs (omega arith) k)
  where
    go : (b : Bool) → cond b 0 (suc (place_in (pa x) sc)) < suc (length sc) → (place_in (pa x) sc < length sc → lookup d x (env_of sc vs).avars ≡ atom_of (get_or vs (place_in (pa x) sc) (atm d))) →
        cond b (atom_of v) (lookup d x (env_of sc vs).avars) ≡ atom_of (get_or (v ∷ vs) (cond b 0 (suc (place_in (pa x) sc))) (atm d))
    go true k h = refl
    go false k h = h (omega arith)

-- σ[x ↦ v] of a name that is none of those in reach: its value comes behind theirs
pub bound_e : (x : ℕ) (v : Exp) (sc : List Param) (vs : List Exp) → length vs ≡ length sc → has_param (pe x) sc ≡ false → update_e x v (env_of sc vs) ≡ env_of (with_name (pe x) sc) (vs ++ (v ∷ []))
bound_e x v [] [] e f = refl
bound_e x v [] (w ∷ ws) e f = absurd (omega arith)
bound_e x v (p ∷ sc) [] e f = absurd (omega arith)
bound_e x v (pe y ∷ sc) (w ∷ ws) e f = let n = or_none (eqb y x) (has_param (pe x) sc) f in rw n.0 (ap (add_e y w) (bound_e x v sc ws (omega arith) n.1))
bound_e x v (pa y ∷ sc) (w ∷ ws) e f = ap (add_a y (atom_of w)) (bound_e x v sc ws (omega arith) f)

pub bound_a : (x : ℕ) (v : Exp) (sc : List Param) (vs : List Exp) → length vs ≡ length sc → has_param (pa x) sc ≡ false → update_a x (atom_of v) (env_of sc vs) ≡ env_of (with_name (pa x) sc) (vs ++ (v ∷ []))
bound_a x v [] [] e f = refl
bound_a x v [] (w ∷ ws) e f = absurd (omega arith)
bound_a x v (p ∷ sc) [] e f = absurd (omega arith)
bound_a x v (pe y ∷ sc) (w ∷ ws) e f = ap (add_e y w) (bound_a x v sc ws (omega arith) f)
bound_a x v (pa y ∷ sc) (w ∷ ws) e f = let n = or_none (eqb y x) (has_param (pa x) sc) f in rw n.0 (ap (add_a y (atom_of w)) (bound_a x v sc ws (omega arith) n.1))

-- "a fresh one that binds F's parameters to them, in order, and nothing else"
pub bound_arguments : (s : Substitution) (ps : List Param) (ds : List Exp) → fits ps ds ≡ true → bind_params (apply s) (apply_atomic s) ps ds ≡ env_of ps (apply_all s ds)
bound_arguments s [] [] f = refl
bound_arguments s [] (d ∷ ds) f = absurd (false≢true f)
bound_arguments s (p ∷ ps) [] f = absurd (false≢true f)
bound_arguments s (pe x ∷ ps) (d ∷ ds) f = ap (add_e x (apply s d)) (bound_arguments s ps ds f)
bound_arguments s (pa x ∷ ps) (atm y ∷ ds) f = ap (add_a x (apply_atomic s y)) (bound_arguments s ps ds f)
bound_arguments s (pa x ∷ ps) (evar y ∷ ds) f = absurd (false≢true f)
bound_arguments s (pa x ∷ ps) (pair c d ∷ ds) f = absurd (false≢true f)
