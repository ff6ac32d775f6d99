-- Laws of environments (001, section 3.2): update and lookup are those of the rules, names stay distinct, the parameters of a
-- call and of the start are bound in order.
use Prim.Native.Nat.{ℕ}
use mathlib.Core.Path.{◌≡◌, refl, ap, subst, sym as inv}
use mathlib.Core.Bool.{Bool, true, false, cond, not, false≢true}
use mathlib.Core.List.{List, [], ◌∷◌, ◌++◌}
use lib.Dec.{eqb}
use borrow.Author.Tests.{eqb-true, eqb-false, ne_eqb, not-true}
use Rattle.expressions.specs.Expression.{Value, atom, cons, AtomicExp, Exp, atm, evar, pair}
use Rattle.expressions.specs.Substitution.{GroundSubst, ground_all}
use Rattle.expressions.specs.Class.{GroundPair, IOClass, InClass}
use Rattle.expressions.proofs.Tests.{or_none, and_both, eqb_same}
use Rattle.language.specs.Program.{Param, pe, pa, atom_of}
use Rattle.language.specs.Scope.{is_atomic}
use Rattle.language.specs.WellFormed.{fits, has_param, distinct_params}
use Rattle.semantics.specs.Environment.{Env, Binds, here, there, Unbound, DistinctNames, lookup, update, map_values, empty_env, add_e, add_a, bind_params}
use Rattle.semantics.specs.Evaluate.{bind_inputs}

-- `update` is σ[x ↦ v]
pub update_here : {A : Type 0} (x : ℕ) (v : A) (bs : List (ℕ × A)) → Binds x v (update x v bs)
update_here x v [] = here []
update_here x v (b ∷ bs) = pick (eqb b.0 x) refl (update_here x v bs)
  where
    pick : (t : Bool) → eqb b.0 x ≡ t → Binds x v (update x v bs) → Binds x v (cond t ((x, v) ∷ bs) (b ∷ update x v bs))
    pick true e h = here bs
    pick false e h = there b.0 b.1 (update x v bs) (eqb-false b.0 x e) h

pub update_there : {A : Type 0} {y : ℕ} {w : A} {bs : List (ℕ × A)} (x : ℕ) (v : A) → (x ≡ y → ⊥) → Binds y w bs → Binds y w (update x v bs)
update_there {y} {w} x v n (here cs) = pick (eqb y x) refl
  where
    pick : (t : Bool) → eqb y x ≡ t → Binds y w (cond t ((x, v) ∷ cs) ((y, w) ∷ update x v cs))
    pick true e = absurd (n (inv (eqb-true y x e)))
    pick false e = here (update x v cs)
update_there {y} {w} x v n (there k u cs m h) = pick (eqb k x) refl (update_there x v n h)
  where
    pick : (t : Bool) → eqb k x ≡ t → Binds y w (update x v cs) → Binds y w (cond t ((x, v) ∷ cs) ((k, u) ∷ update x v cs))
    pick true e ih = there x v cs n h
    pick false e ih = there k u (update x v cs) m ih

pub lookup_binds : {A : Type 0} {x : ℕ} {v : A} {bs : List (ℕ × A)} (d : A) → Binds x v bs → lookup d x bs ≡ v
lookup_binds {x} d (here cs) = rw (eqb_same x) refl
lookup_binds {x} d (there y w cs n h) = rw (ne_eqb y x n) (lookup_binds d h)

pub map_binds : {A B : Type 0} {x : ℕ} {v : A} {bs : List (ℕ × A)} (f : A → B) → Binds x v bs → Binds x (f v) (map_values f bs)
map_binds f (here cs) = here (map_values f cs)
map_binds f (there y w cs n h) = there y (f w) (map_values f cs) n (map_binds f h)

-- a name that has a value
abbrev pub Bound : {A : Type 0} → ℕ → List (ℕ × A) → Type 0
Bound {A} x bs = (v : A) × Binds x v bs

pub bound_lookup : {A : Type 0} (d : A) (x : ℕ) (bs : List (ℕ × A)) → Bound x bs → Binds x (lookup d x bs) bs
bound_lookup {A} d x bs b = subst (λ (v : A). Binds x v bs) (inv (lookup_binds d b.1)) b.1

-- bound is what is added or updated, and what was bound before
pub add_bound : {A : Type 0} (x y : ℕ) (v : A) (bs : List (ℕ × A)) → (eqb y x ≡ false → Bound x bs) → Bound x ((y, v) ∷ bs)
add_bound {A} x y v bs b = pick (eqb y x) refl
  where
    pick : (t : Bool) → eqb y x ≡ t → Bound x ((y, v) ∷ bs)
    pick true e = (v, subst (λ (z : ℕ). Binds {A = A} x v ((z, v) ∷ bs)) (inv (eqb-true y x e)) (here bs))
    pick false e = let w = b e in (w.0, there y v bs (eqb-false y x e) w.1)

pub update_bound : {A : Type 0} (x y : ℕ) (v : A) (bs : List (ℕ × A)) → (eqb y x ≡ false → Bound x bs) → Bound x (update y v bs)
update_bound {A} x y v bs b = pick (eqb y x) refl
  where
    pick : (t : Bool) → eqb y x ≡ t → Bound x (update y v bs)
    pick true e = (v, subst (λ (z : ℕ). Binds z v (update y v bs)) (eqb-true y x e) (update_here y v bs))
    pick false e = let w = b e in (w.0, update_there y v (eqb-false y x e) w.1)

-- σ[x ↦ v] where x is not bound: it is added at the end
pub update_new : {A : Type 0} (x : ℕ) (v : A) (bs : List (ℕ × A)) → Unbound x bs → update x v bs ≡ bs ++ ((x, v) ∷ [])
update_new x v [] u = refl
update_new x v (b ∷ bs) u = rw (ne_eqb b.0 x u.0) (ap (λ (cs : List (ℕ × _)). b ∷ cs) (update_new x v bs u.1))

-- names stay distinct
pub update_unbound : {A : Type 0} (x y : ℕ) (v : A) (bs : List (ℕ × A)) → (x ≡ y → ⊥) → Unbound y bs → Unbound y (update x v bs)
update_unbound x y v [] n u = (n, tt)
update_unbound x y v (b ∷ bs) n u = pick (eqb b.0 x) (update_unbound x y v bs n u.1)
  where
    pick : (t : Bool) → Unbound y (update x v bs) → Unbound y (cond t ((x, v) ∷ bs) (b ∷ update x v bs))
    pick true h = (n, u.1)
    pick false h = (u.0, h)

pub update_distinct : {A : Type 0} (x : ℕ) (v : A) (bs : List (ℕ × A)) → DistinctNames bs → DistinctNames (update x v bs)
update_distinct x v [] d = (tt, tt)
update_distinct x v (b ∷ bs) d = pick (eqb b.0 x) refl (update_distinct x v bs d.1)
  where
    pick : (t : Bool) → eqb b.0 x ≡ t → DistinctNames (update x v bs) → DistinctNames (cond t ((x, v) ∷ bs) (b ∷ update x v bs))
    pick true e h = (subst (λ (z : ℕ). Unbound z bs) (eqb-true b.0 x e) d.0, d.1)
    pick false e h = (update_unbound x b.0 v bs (λ q. eqb-false b.0 x e (inv q)) d.0, h)

pub map_unbound : {A B : Type 0} (f : A → B) (x : ℕ) (bs : List (ℕ × A)) → Unbound x bs → Unbound x (map_values f bs)
map_unbound f x [] u = tt
map_unbound f x (b ∷ bs) u = (u.0, map_unbound f x bs u.1)

pub map_distinct : {A B : Type 0} (f : A → B) (bs : List (ℕ × A)) → DistinctNames bs → DistinctNames (map_values f bs)
map_distinct f [] d = tt
map_distinct f (b ∷ bs) d = (map_unbound f b.0 bs d.0, map_distinct f bs d.1)

-- an environment that binds the parameters, in order, and nothing else
pub data ParamsBound {E A : Type 0} : List Param → Env E A → Type 0 where
  done : ParamsBound [] empty_env
  any : (x : ℕ) (ps : List Param) (v : E) (σ : Env E A) → ParamsBound ps σ → ParamsBound (pe x ∷ ps) (add_e x v σ)
  one : (x : ℕ) (ps : List Param) (v : A) (σ : Env E A) → ParamsBound ps σ → ParamsBound (pa x ∷ ps) (add_a x v σ)

pub bind_params_bound : {E A : Type 0} (f : Exp → E) (g : AtomicExp → A) (ps : List Param) (ds : List Exp) → fits ps ds ≡ true → ParamsBound ps (bind_params f g ps ds)
bind_params_bound f g [] [] e = done
bind_params_bound f g [] (d ∷ ds) e = absurd (false≢true e)
bind_params_bound f g (pe x ∷ ps) [] e = absurd (false≢true e)
bind_params_bound f g (pa x ∷ ps) [] e = absurd (false≢true e)
bind_params_bound f g (pe x ∷ ps) (d ∷ ds) e = any x ps (f d) _ (bind_params_bound f g ps ds e)
bind_params_bound f g (pa x ∷ ps) (d ∷ ds) e = one x ps (g (atom_of d)) _ (bind_params_bound f g ps ds (and_both (is_atomic d) (fits ps ds) e).1)

-- inputs that fit the parameters: as many, and atoms for `a.` parameters
abbrev pub FitsInputs : List Param → List Value → Type 0
FitsInputs [] [] = Unit {0}
FitsInputs [] (v ∷ vs) = ⊥
FitsInputs (p ∷ ps) [] = ⊥
FitsInputs (pe x ∷ ps) (v ∷ vs) = FitsInputs ps vs
FitsInputs (pa x ∷ ps) (atom z ∷ vs) = FitsInputs ps vs
FitsInputs (pa x ∷ ps) (cons u v ∷ vs) = ⊥

pub ground_fits : (θ : GroundSubst) (ps : List Param) (cs : List Exp) → fits ps cs ≡ true → FitsInputs ps (ground_all θ cs)
ground_fits θ [] [] e = tt
ground_fits θ [] (c ∷ cs) e = absurd (false≢true e)
ground_fits θ (pe x ∷ ps) [] e = absurd (false≢true e)
ground_fits θ (pa x ∷ ps) [] e = absurd (false≢true e)
ground_fits θ (pe x ∷ ps) (c ∷ cs) e = ground_fits θ ps cs e
ground_fits θ (pa x ∷ ps) (atm a ∷ cs) e = ground_fits θ ps cs e
ground_fits θ (pa x ∷ ps) (evar n ∷ cs) e = absurd (false≢true e)
ground_fits θ (pa x ∷ ps) (pair c d ∷ cs) e = absurd (false≢true e)

pub class_fits : (ps : List Param) (P : IOClass) (is : List Value) (o : Value) → fits ps P.con.ins ≡ true → InClass P is o → FitsInputs ps is
class_fits ps P is o e m = subst (FitsInputs ps) (ap (λ (g : GroundPair). g.ins) m.is) (ground_fits m.θ ps P.con.ins e)

pub bind_inputs_bound : (ps : List Param) (vs : List Value) → FitsInputs ps vs → ParamsBound ps (bind_inputs ps vs)
bind_inputs_bound [] [] f = done
bind_inputs_bound [] (v ∷ vs) f = absurd f
bind_inputs_bound (pe x ∷ ps) [] f = absurd f
bind_inputs_bound (pa x ∷ ps) [] f = absurd f
bind_inputs_bound (pe x ∷ ps) (v ∷ vs) f = any x ps v _ (bind_inputs_bound ps vs f)
bind_inputs_bound (pa x ∷ ps) (atom z ∷ vs) f = one x ps z _ (bind_inputs_bound ps vs f)
bind_inputs_bound (pa x ∷ ps) (cons u v ∷ vs) f = absurd f

-- distinct parameters give distinct names
unbound_e : {E A : Type 0} {ps : List Param} {σ : Env E A} (y : ℕ) → has_param (pe y) ps ≡ false → ParamsBound ps σ → Unbound y σ.evars
unbound_e y e done = tt
unbound_e y e (any x ps v σ b) = let w = or_none (eqb x y) (has_param (pe y) ps) e in (eqb-false x y w.0, unbound_e y w.1 b)
unbound_e y e (one x ps v σ b) = unbound_e y e b

unbound_a : {E A : Type 0} {ps : List Param} {σ : Env E A} (y : ℕ) → has_param (pa y) ps ≡ false → ParamsBound ps σ → Unbound y σ.avars
unbound_a y e done = tt
unbound_a y e (any x ps v σ b) = unbound_a y e b
unbound_a y e (one x ps v σ b) = let w = or_none (eqb x y) (has_param (pa y) ps) e in (eqb-false x y w.0, unbound_a y w.1 b)

pub params_distinct : {E A : Type 0} {ps : List Param} {σ : Env E A} → distinct_params ps ≡ true → ParamsBound ps σ → DistinctNames σ.evars × DistinctNames σ.avars
params_distinct e done = (tt, tt)
params_distinct e (any x ps v σ b) =
    let w = and_both (not (has_param (pe x) ps)) (distinct_params ps) e in
    let r = params_distinct w.1 b in
    ((unbound_e x (not-true _ w.0) b, r.0), r.1)
params_distinct e (one x ps v σ b) =
    let w = and_both (not (has_param (pa x) ps)) (distinct_params ps) e in
    let r = params_distinct w.1 b in
    (r.0, (unbound_a x (not-true _ w.0) b, r.1))
