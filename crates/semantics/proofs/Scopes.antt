-- States of well-formed programs, with any environment (values or expressions): each name in reach is bound, no other name is, none
-- twice; a `cons?` binds new names (02, request 1). The transitions of figures 4 and 10 keep this.
use Prim.Native.Nat.{ℕ, zero, suc, ◌<◌}
use mathlib.Core.Path.{◌≡◌, refl, ◌∙◌}
use mathlib.Core.Bool.{Bool, true, false, ◌&&◌, ◌||◌, not, false≢true}
use mathlib.Core.List.{List, [], ◌∷◌, ◌++◌, append_assoc}
use native.Mathlib.Nat.{not-suc-le-zero, le_of_suc-le-suc}
use lib.Dec.{eqb, ltb}
use lib.ListN.{length, get_or}
use borrow.Author.Tests.{eqb-false, lt-ltb, ltb-true, not-true}
use Rattle.expressions.specs.Expression.{sym, avar, Exp, atm, evar, pair}
use Rattle.expressions.proofs.Tests.{or_none, and_both, eqb_same}
use Rattle.language.specs.Program.{eqa, consp, Term, call, conditional, result, Param, pe, pa, Def, Prog, find}
use Rattle.language.specs.Scope.{Scope, is_in, with_e, with_a, scope_of, pair_scope, in_scope, all_in_scope, atomic_in_scope}
use Rattle.language.specs.WellFormed.{fits, distinct_params, well_formed_term, well_formed_defs, binds_new, binds_new_all, admitted}
use Rattle.language.proofs.Tests.{or_left, or_right, both, and_three, and_four}
use Rattle.language.proofs.Formed.{some_main, defs_formed, all_new}
use Rattle.semantics.specs.Environment.{Env, Unbound, DistinctNames, update_e, update_a, update, map_values, names}
use Rattle.semantics.specs.Figure4.{Defines, first, later}
use Rattle.semantics.specs.Evaluate.{start_term}
use Rattle.semantics.specs.Demand2.{BindsOnce}
use Rattle.semantics.proofs.Environments.{Bound, add_bound, update_bound, map_binds, update_new, update_unbound, update_distinct, map_unbound, map_distinct, ParamsBound, done, any, one, params_distinct}

-- each of the names is bound
abbrev AllBound : {A : Type 0} → List ℕ → List (ℕ × A) → Type 0
AllBound ns bs = (x : ℕ) → is_in x ns ≡ true → Bound x bs

-- each name of the scope is bound
abbrev pub Covers : {E A : Type 0} → Scope → Env E A → Type 0
Covers sc σ = AllBound sc.evars σ.evars × AllBound sc.avars σ.avars

later_in : (a b : Bool) → (a || b) ≡ true → a ≡ false → b ≡ true
later_in a b e f = rw f at e

add_all : {A : Type 0} (y : ℕ) (v : A) (ns : List ℕ) (bs : List (ℕ × A)) → AllBound ns bs → AllBound (y ∷ ns) ((y, v) ∷ bs)
add_all y v ns bs h x e = add_bound x y v bs (λ f. h x (later_in (eqb y x) (is_in x ns) e f))

update_all : {A : Type 0} (y : ℕ) (v : A) (ns : List ℕ) (bs : List (ℕ × A)) → AllBound ns bs → AllBound (y ∷ ns) (update y v bs)
update_all y v ns bs h x e = update_bound x y v bs (λ f. h x (later_in (eqb y x) (is_in x ns) e f))

map_all : {A B : Type 0} (f : A → B) (ns : List ℕ) (bs : List (ℕ × A)) → AllBound ns bs → AllBound ns (map_values f bs)
map_all f ns bs h x e = let b = h x e in (f b.0, map_binds f b.1)

pub params_cover : {E A : Type 0} {ps : List Param} {σ : Env E A} → ParamsBound ps σ → Covers (scope_of ps) σ
params_cover done = ((λ x e. absurd (false≢true e)), (λ x e. absurd (false≢true e)))
params_cover (any x ps v σ b) = let r = params_cover b in (add_all x v (scope_of ps).evars σ.evars r.0, r.1)
params_cover (one x ps v σ b) = let r = params_cover b in (r.0, add_all x v (scope_of ps).avars σ.avars r.1)

-- no name outside is bound
abbrev NoOther : {A : Type 0} → List ℕ → List (ℕ × A) → Type 0
NoOther ns bs = (x : ℕ) → is_in x ns ≡ false → Unbound x bs

abbrev pub Only : {E A : Type 0} → Scope → Env E A → Type 0
Only sc σ = NoOther sc.evars σ.evars × NoOther sc.avars σ.avars

add_other : {A : Type 0} (y : ℕ) (v : A) (ns : List ℕ) (bs : List (ℕ × A)) → NoOther ns bs → NoOther (y ∷ ns) ((y, v) ∷ bs)
add_other y v ns bs h x e = let w = or_none (eqb y x) (is_in x ns) e in (eqb-false y x w.0, h x w.1)

update_other : {A : Type 0} (y : ℕ) (v : A) (ns : List ℕ) (bs : List (ℕ × A)) → NoOther ns bs → NoOther (y ∷ ns) (update y v bs)
update_other y v ns bs h x e = let w = or_none (eqb y x) (is_in x ns) e in update_unbound y x v bs (eqb-false y x w.0) (h x w.1)

map_other : {A B : Type 0} (f : A → B) (ns : List ℕ) (bs : List (ℕ × A)) → NoOther ns bs → NoOther ns (map_values f bs)
map_other f ns bs h x e = map_unbound f x bs (h x e)

params_only : {E A : Type 0} {ps : List Param} {σ : Env E A} → ParamsBound ps σ → Only (scope_of ps) σ
params_only done = ((λ x e. tt), (λ x e. tt))
params_only (any x ps v σ b) = let r = params_only b in (add_other x v (scope_of ps).evars σ.evars r.0, r.1)
params_only (one x ps v σ b) = let r = params_only b in (r.0, add_other x v (scope_of ps).avars σ.avars r.1)

-- a state of a well-formed program
pub record WellScoped {E A : Type 0} (p : Prog) (t : Term) (σ : Env E A) : Type 0 where
  pub scope : Scope
  pub well_formed : well_formed_term p scope t ≡ true
  pub new : binds_new scope t ≡ true
  pub covers : Covers scope σ
  pub only : Only scope σ
  pub distinct_e : DistinctNames σ.evars
  pub distinct_a : DistinctNames σ.avars

-- Γ(f) for a well-formed program: found where the number of the function is below that of the definitions
pub defines_find : (p : Prog) (f : ℕ) (d : Def) → f < length p → Defines (get_or p f d) p f
defines_find [] f d l = absurd (not-suc-le-zero l)
defines_find (q ∷ p) zero d l = first p
defines_find (q ∷ p) (suc f) d l = later q p f (defines_find p f d (le_of_suc-le-suc l))

pub defines_is : {d : Def} {p : Prog} {f : ℕ} (e : Def) → Defines d p f → get_or p f e ≡ d
defines_is e (first q) = refl
defines_is e (later q r g h) = defines_is e h

defined_passes : {d : Def} {qs : Prog} {f : ℕ} (p : Prog) → well_formed_defs p qs ≡ true → Defines d qs f →
    (distinct_params d.params ≡ true) × (well_formed_term p (scope_of d.params) d.body ≡ true)
defined_passes {d} p e (first qs) = let w = and_three (distinct_params d.params) (well_formed_term p (scope_of d.params) d.body) (well_formed_defs p qs) e in (w.0, w.1)
defined_passes p e (later q qs f h) = defined_passes p (and_three (distinct_params q.params) (well_formed_term p (scope_of q.params) q.body) (well_formed_defs p qs) e).2 h

defined_new : {d : Def} {qs : Prog} {f : ℕ} → binds_new_all qs ≡ true → Defines d qs f → binds_new (scope_of d.params) d.body ≡ true
defined_new {d} e (first qs) = (and_both (binds_new (scope_of d.params) d.body) (binds_new_all qs) e).0
defined_new e (later q qs f h) = defined_new (and_both (binds_new (scope_of q.params) q.body) (binds_new_all qs) e).1 h

-- the state behind a call
pub scoped_body : {E A : Type 0} {p : Prog} {d : Def} {f : ℕ} {σ : Env E A} → admitted p ≡ true → Defines d p f → ParamsBound d.params σ → WellScoped p d.body σ
scoped_body {p} {d} e h b =
    let w = defined_passes p (defs_formed p e) h in
    let n = params_distinct w.0 b in
    record { scope = scope_of d.params; well_formed = w.1; new = defined_new (all_new p e) h; covers = params_cover b; only = params_only b; distinct_e = n.0; distinct_a = n.1 }

-- what a call, an `eqa?` and a `cons?` ask
pub scoped_call : {E A : Type 0} {p : Prog} {f : ℕ} {ds : List Exp} {σ : Env E A} (w : WellScoped p (call f ds) σ) →
    (f < length p) × (fits (find p f).params ds ≡ true) × (all_in_scope w.scope ds ≡ true)
scoped_call {p} {f} {ds} w = let u = and_three (ltb f (length p)) (fits (find p f).params ds) (all_in_scope w.scope ds) w.well_formed in (ltb-true f (length p) u.0, u.1, u.2)

-- what a `cons?` binds is out of reach, and its branches bind what is out of reach there
consp_new : (sc : Scope) (c : Exp) (h t x : ℕ) (s u : Term) → binds_new sc (conditional (consp c h t x) s u) ≡ true →
    ((is_in h sc.evars ≡ false) × (is_in t sc.evars ≡ false) × (is_in x sc.avars ≡ false)) × (binds_new (pair_scope h t sc) s ≡ true) × (binds_new (with_a x sc) u ≡ true)
consp_new sc c h t x s u e =
    let a = not (is_in h sc.evars) in
    let b = not (is_in t sc.evars) in
    let d = not (is_in x sc.avars) in
    let y = binds_new (pair_scope h t sc) s in
    let w = and_both (a && b && d && y) (binds_new (with_a x sc) u) e in
    let v = and_four a b d y w.0 in
    ((not-true _ v.0, not-true _ v.1, not-true _ v.2), v.3, w.1)

module _ {E A : Type 0} {p : Prog} {σ : Env E A} where
  pub scoped_eqa : {x y : Exp} {s t : Term} (w : WellScoped p (conditional (eqa x y) s t) σ) →
      (atomic_in_scope w.scope x ≡ true) × (atomic_in_scope w.scope y ≡ true) × WellScoped p s σ × WellScoped p t σ
  scoped_eqa {x} {y} {s} {t} w =
      let sc = w.scope in
      let u = and_four (atomic_in_scope sc x) (atomic_in_scope sc y) (well_formed_term p sc s) (well_formed_term p sc t) w.well_formed in
      let n = and_both (binds_new sc s) (binds_new sc t) w.new in (
        u.0,
        u.1,
        record { scope = sc; well_formed = u.2; new = n.0; covers = w.covers; only = w.only; distinct_e = w.distinct_e; distinct_a = w.distinct_a },
        record { scope = sc; well_formed = u.3; new = n.1; covers = w.covers; only = w.only; distinct_e = w.distinct_e; distinct_a = w.distinct_a },
      )

  pub scoped_consp : {c : Exp} {h t x : ℕ} {s u : Term} (w : WellScoped p (conditional (consp c h t x) s u) σ) → in_scope w.scope c ≡ true
  scoped_consp {c} {h} {t} {x} {s} {u} w =
      let sc = w.scope in (and_four (in_scope sc c) (not (eqb h t)) (well_formed_term p (pair_scope h t sc) s) (well_formed_term p (with_a x sc) u) w.well_formed).0

  -- the true branch, with the two parts of a pair
  pub scoped_pair : {c : Exp} {h t x : ℕ} {s u : Term} (v₁ v₂ : E) → WellScoped p (conditional (consp c h t x) s u) σ → WellScoped p s (update_e t v₂ (update_e h v₁ σ))
  scoped_pair {c} {h} {t} {x} {s} {u} v₁ v₂ w =
      let sc = w.scope in
      record {
        scope = pair_scope h t sc;
        well_formed = (and_four (in_scope sc c) (not (eqb h t)) (well_formed_term p (pair_scope h t sc) s) (well_formed_term p (with_a x sc) u) w.well_formed).2;
        new = (consp_new sc c h t x s u w.new).1;
        covers = (update_all t v₂ (h ∷ sc.evars) (update h v₁ σ.evars) (update_all h v₁ sc.evars σ.evars w.covers.0), w.covers.1);
        only = (update_other t v₂ (h ∷ sc.evars) (update h v₁ σ.evars) (update_other h v₁ sc.evars σ.evars w.only.0), w.only.1);
        distinct_e = update_distinct t v₂ (update h v₁ σ.evars) (update_distinct h v₁ σ.evars w.distinct_e);
        distinct_a = w.distinct_a;
      }

  -- the false branch, with the atom
  pub scoped_atom : {c : Exp} {h t x : ℕ} {s u : Term} (z : A) → WellScoped p (conditional (consp c h t x) s u) σ → WellScoped p u (update_a x z σ)
  scoped_atom {c} {h} {t} {x} {s} {u} z w =
      let sc = w.scope in
      record {
        scope = with_a x sc;
        well_formed = (and_four (in_scope sc c) (not (eqb h t)) (well_formed_term p (pair_scope h t sc) s) (well_formed_term p (with_a x sc) u) w.well_formed).3;
        new = (consp_new sc c h t x s u w.new).2;
        covers = (w.covers.0, update_all x z sc.avars σ.avars w.covers.1);
        only = (w.only.0, update_other x z sc.avars σ.avars w.only.1);
        distinct_e = w.distinct_e;
        distinct_a = update_distinct x z σ.avars w.distinct_a;
      }

  -- other values for the same names, as a contraction gives
  pub scoped_map : {t : Term} {E' A' : Type 0} (f : E → E') (g : A → A') → WellScoped p t σ → WellScoped p t (record { evars = map_values f σ.evars; avars = map_values g σ.avars })
  scoped_map f g w = record {
    scope = w.scope;
    well_formed = w.well_formed;
    new = w.new;
    covers = (map_all f w.scope.evars σ.evars w.covers.0, map_all g w.scope.avars σ.avars w.covers.1);
    only = (map_other f w.scope.evars σ.evars w.only.0, map_other g w.scope.avars σ.avars w.only.1);
    distinct_e = map_distinct f σ.evars w.distinct_e;
    distinct_a = map_distinct g σ.avars w.distinct_a;
  }

  -- what a `cons?` of the state binds is not bound (02, request 1)
  pub scoped_new : {c : Exp} {h t x : ℕ} {s u : Term} → WellScoped p (conditional (consp c h t x) s u) σ → Unbound h σ.evars × Unbound t σ.evars × Unbound x σ.avars
  scoped_new {c} {h} {t} {x} {s} {u} w = let n = (consp_new w.scope c h t x s u w.new).0 in (w.only.0 h n.0, w.only.0 t n.1, w.only.1 x n.2)

  pub scoped_once : (t : Term) → WellScoped p t σ → BindsOnce t σ
  scoped_once (call f ds) w = tt
  scoped_once (conditional (eqa x y) s t) w = tt
  scoped_once (conditional (consp c h t x) s u) w = scoped_new w
  scoped_once (result c) w = tt

  -- so that a branch has them at the end of the environment
  pub pair_added : {c : Exp} {h t x : ℕ} {s u : Term} (v₁ v₂ : E) → WellScoped p (conditional (consp c h t x) s u) σ →
      update t v₂ (update h v₁ σ.evars) ≡ σ.evars ++ ((h, v₁) ∷ (t, v₂) ∷ [])
  pair_added {c} {h} {t} {x} {s} {u} v₁ v₂ w =
      let n = scoped_new w in
      let sc = w.scope in
      let d = eqb-false h t (not-true _ (and_four (in_scope sc c) (not (eqb h t)) (well_formed_term p (pair_scope h t sc) s) (well_formed_term p (with_a x sc) u) w.well_formed).1) in
      update_new t v₂ (update h v₁ σ.evars) (update_unbound h t v₁ σ.evars d n.1) ∙ rw (update_new h v₁ σ.evars n.0) (append_assoc σ.evars ((h, v₁) ∷ []) ((t, v₂) ∷ []))

  pub atom_added : {c : Exp} {h t x : ℕ} {s u : Term} (z : A) → WellScoped p (conditional (consp c h t x) s u) σ → update x z σ.avars ≡ σ.avars ++ ((x, z) ∷ [])
  atom_added {x} z w = update_new x z σ.avars (scoped_new w).2

-- the start: main's parameters fit themselves and are in reach
names_fit : (ps : List Param) → fits ps (names ps) ≡ true
names_fit [] = refl
names_fit (pe x ∷ ps) = names_fit ps
names_fit (pa x ∷ ps) = names_fit ps

all_more : (ds : List Exp) (sc tc : Scope) → ((c : Exp) → in_scope sc c ≡ true → in_scope tc c ≡ true) → all_in_scope sc ds ≡ true → all_in_scope tc ds ≡ true
all_more [] sc tc h e = refl
all_more (d ∷ ds) sc tc h e = let w = and_both (in_scope sc d) (all_in_scope sc ds) e in both (h d w.0) (all_more ds sc tc h w.1)

more_e : (x : ℕ) (sc : Scope) (c : Exp) → in_scope sc c ≡ true → in_scope (with_e x sc) c ≡ true
more_e x sc (atm (sym z)) e = refl
more_e x sc (atm (avar n)) e = e
more_e x sc (evar n) e = or_right (eqb x n) (is_in n sc.evars) e
more_e x sc (pair c d) e = let w = and_both (in_scope sc c) (in_scope sc d) e in both (more_e x sc c w.0) (more_e x sc d w.1)

more_a : (x : ℕ) (sc : Scope) (c : Exp) → in_scope sc c ≡ true → in_scope (with_a x sc) c ≡ true
more_a x sc (atm (sym z)) e = refl
more_a x sc (atm (avar n)) e = or_right (eqb x n) (is_in n sc.avars) e
more_a x sc (evar n) e = e
more_a x sc (pair c d) e = let w = and_both (in_scope sc c) (in_scope sc d) e in both (more_a x sc c w.0) (more_a x sc d w.1)

names_in : (ps : List Param) → all_in_scope (scope_of ps) (names ps) ≡ true
names_in [] = refl
names_in (pe x ∷ ps) = let sc = scope_of ps in both (or_left (eqb x x) (is_in x sc.evars) (eqb_same x)) (all_more (names ps) sc (with_e x sc) (more_e x sc) (names_in ps))
names_in (pa x ∷ ps) = let sc = scope_of ps in both (or_left (eqb x x) (is_in x sc.avars) (eqb_same x)) (all_more (names ps) sc (with_a x sc) (more_a x sc) (names_in ps))

pub scoped_start : {E A : Type 0} {p : Prog} {σ : Env E A} → admitted p ≡ true → ParamsBound (find p 0).params σ → WellScoped p (start_term p) σ
scoped_start {p} e b =
    let w = defined_passes p (defs_formed p e) (defines_find p 0 _ (some_main p e)) in
    let n = params_distinct w.0 b in
    record {
      scope = scope_of (find p 0).params;
      well_formed = both (both (lt-ltb 0 (length p) (some_main p e)) (names_fit (find p 0).params)) (names_in (find p 0).params);
      new = refl;
      covers = params_cover b;
      only = params_only b;
      distinct_e = n.0;
      distinct_a = n.1;
    }
