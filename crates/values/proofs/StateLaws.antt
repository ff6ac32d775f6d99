-- A configuration of semantics/specs/Configuration.antt in heap, frame and non-equalities, and what a transition to another one leaves.
use Prim.Native.Nat.{ℕ, suc, ◌+◌, ◌≤◌, ◌<◌}
use mathlib.Core.Path.{◌≡◌, refl, subst}
use mathlib.Core.Bool.{Bool, true, false, cond}
use mathlib.Core.List.{List, [], ◌∷◌, ◌++◌}
use mathlib.Core.Option.{Option, none, some}
use mathlib.Core.Logic.{◌⊎◌, inl, inr}
use native.Mathlib.Omega.{arith}
use lib.Dec.{eqb}
use lib.ListN.{length}
use borrow.Author.Tests.{eqb-false}
use Rattle.std.specs.Prelude.{Ok, Err}
use Rattle.restrictions.specs.declared.failure.Failure.TheVariants.{Over}
use Rattle.expressions.specs.Expression.{AtomicExp, sym, avar, Exp, atm, evar, pair, nodes_all}
use Rattle.expressions.specs.Restriction.{nodes_restriction}
use Rattle.expressions.specs.Contraction.{CRPair}
use Rattle.expressions.proofs.Tests.{and_both}
use Rattle.restrictions.proofs.RestrictionLaws.{Front}
use Rattle.language.specs.Program.{Param, pe, pa, Prog}
use Rattle.language.specs.Scope.{Scope, in_scope, all_in_scope}
use Rattle.semantics.specs.Environment.{Env, Binds}
use Rattle.semantics.specs.Environment as environment
use Rattle.semantics.specs.Configuration.{state, nodes_values, nodes_state, Configuration}
use Rattle.semantics.proofs.Scopes.{Covers}
use Rattle.heap.specs.Twins.Moving.{Left}
use Rattle.heap.specs.declared.configuration.Configuration.{Configuration as InCells}
use Rattle.runs.proofs.RunLaws.{Below}
use Rattle.heap.proofs.HeapLaws.{nodes_positive}
use Rattle.heap.proofs.FrameLaws.{Held}
use Rattle.heap.proofs.PartLaws.{nodes_joined}
use Rattle.linking.specs.Twins.Linked.{place_in, TermLinked}
use Rattle.linking.specs.Twins.Places.{env_of}
use Rattle.values.proofs.ValueLaws.{Typed, none_typed, e_typed, a_typed, Known, AllKnown}

-- "A branch that contradicts is no transition."
abbrev pub is_none : {A : Type 0} → Option A → Bool
is_none none = true
is_none (some a) = false

-- The trees of a cr-pair, an entry each: the inputs, the wanted output, the values of the names in reach.
abbrev pub trees : CRPair state → List Exp → List Exp
trees P vs = P.con.io.ins ++ (P.con.io.out ∷ vs)

-- The storages hold P, whose names in reach are these.
pub record HoldsPair (h f q : List ℕ) (c : InCells) (names : List Param) (P : CRPair state) : Type 0 where
  pub values : List Exp
  pub typed : Typed names values
  pub env : P.con.env ≡ env_of names values
  pub held : Held h c.used f 0 (trees P values)
  pub inputs : c.inputs ≡ length P.con.io.ins
  pub outputs : c.outputs ≡ 1
  pub entries : c.entries ≡ length (trees P values)
  pub neqs : Front P.neqs q
  pub count : c.neqs ≡ length P.neqs
  pub fits : c.used ≤ 65535
  pub heap_size : length h ≡ 65535
  pub frame_size : length f ≡ 12360
  pub q_size : length q ≡ 4096

-- each value counts once
pub env_nodes : {names : List Param} {vs : List Exp} → Typed names vs → nodes_values (env_of names vs).evars + length (env_of names vs).avars ≡ nodes_all vs
env_nodes none_typed = refl
env_nodes (e_typed t) = let z = env_nodes t in omega arith
env_nodes (a_typed t) = let z = env_nodes t in omega arith

-- "Nodes of a configuration"
pub pair_nodes : {names : List Param} {vs : List Exp} (P : CRPair state) → Typed names vs → P.con.env ≡ env_of names vs → nodes_state P ≡ nodes_all (trees P vs) + nodes_restriction P.neqs
pair_nodes {names} {vs} P t e =
    let a : nodes_values P.con.env.evars + length P.con.env.avars ≡ nodes_all vs = rw e (env_nodes t) in
    let b = nodes_joined P.con.io.ins (P.con.io.out ∷ vs) in
    omega arith

-- each tree has a node
pub nodes_length : (ts : List Exp) → length ts ≤ nodes_all ts
nodes_length [] = omega arith
nodes_length (t ∷ ts) = let a = nodes_length ts in let b = nodes_positive t in omega arith

binds_cons : {A : Type 0} {x y : ℕ} {v w : A} {bs : List (ℕ × A)} → Binds x v ((y, w) ∷ bs) → (y ≡ x) ⊎ Binds x v bs
binds_cons (environment.Binds.here bs) = inl refl
binds_cons (environment.Binds.there z w bs n k) = inr k

-- a name that is bound is in reach
bound_place_e : {names : List Param} {vs : List Exp} (x : ℕ) (v : Exp) → Typed names vs → Binds x v (env_of names vs).evars → place_in (pe x) names < length names
bound_place_e x v none_typed b = elim b [ ]
bound_place_e x v (e_typed {x = y} {sc = sc} t) b = go (eqb y x) refl (binds_cons b) (λ k. bound_place_e x v t k)
  where
    go : (r : Bool) → eqb y x ≡ r → {bs : List (ℕ × Exp)} → (y ≡ x) ⊎ Binds x v bs → (Binds x v bs → place_in (pe x) sc < length sc) → cond r 0 (suc (place_in (pe x) sc)) < suc (length sc)
    go true e k again = omega arith
    go false e (inl k) again = absurd (eqb-false y x e k)
    go false e (inr k) again = let i = again k in omega arith
bound_place_e x v (a_typed {sc = sc} t) b = let i = bound_place_e x v t b in omega arith

bound_place_a : {names : List Param} {vs : List Exp} (x : ℕ) (v : AtomicExp) → Typed names vs → Binds x v (env_of names vs).avars → place_in (pa x) names < length names
bound_place_a x v none_typed b = elim b [ ]
bound_place_a x v (a_typed {x = y} {sc = sc} t) b = go (eqb y x) refl (binds_cons b) (λ k. bound_place_a x v t k)
  where
    go : (r : Bool) → eqb y x ≡ r → {bs : List (ℕ × AtomicExp)} → (y ≡ x) ⊎ Binds x v bs → (Binds x v bs → place_in (pa x) sc < length sc) → cond r 0 (suc (place_in (pa x) sc)) < suc (length sc)
    go true e k again = omega arith
    go false e (inl k) again = absurd (eqb-false y x e k)
    go false e (inr k) again = let i = again k in omega arith
bound_place_a x v (e_typed {sc = sc} t) b = let i = bound_place_a x v t b in omega arith

module _ {names : List Param} {vs : List Exp} (typed : Typed names vs) (sc : Scope) (covers : Covers sc (env_of names vs)) where
  -- the names of an expression in scope have entries
  pub known_in_scope : (c : Exp) → in_scope sc c ≡ true → Known names c
  known_in_scope (atm (sym z)) e = tt
  known_in_scope (atm (avar x)) e = let b = covers.1 x e in bound_place_a x b.0 typed b.1
  known_in_scope (evar x) e = let b = covers.0 x e in bound_place_e x b.0 typed b.1
  known_in_scope (pair c d) e = let a = and_both (in_scope sc c) (in_scope sc d) e in (known_in_scope c a.0, known_in_scope d a.1)

  pub all_known : (cs : List Exp) → all_in_scope sc cs ≡ true → AllKnown names cs
  all_known [] e = tt
  all_known (c ∷ cs) e = let a = and_both (in_scope sc c) (all_in_scope sc cs) e in (known_in_scope c a.0, all_known cs a.1)

module _ (p : Prog) (bodies : ℕ → ℕ) (code : List ℕ) where
  -- The storages hold the configuration K: its term stands linked at its place.
  pub record Stands (h f q : List ℕ) (c : InCells) (K : Configuration) : Type 0 where
    pub names : List Param
    pub holds : HoldsPair h f q c names K.cr
    pub past : ℕ
    pub term : TermLinked p bodies code names c.place K.term past
    pub fresh : c.counter ≡ K.fresh

  -- They hold K after a transition; what was used of the heap before is as it was.
  pub record Arrives (h : List ℕ) (used : ℕ) (K : Configuration) (w : Left) : Type 0 where
    pub at : InCells
    pub moved : w.answer ≡ Ok at
    pub stands : Stands w.heap w.frame w.q at K
    pub same : Below used w.heap h
    pub grown : used ≤ at.used
    pub most : at.used ≤ used + (nodes_state K.cr + 4)

  -- What a transition to o leaves: storages that hold it, or it is over 21 and they have no room for it. One that contradicts is never taken.
  pub record Leads (h : List ℕ) (used : ℕ) (o : Option Configuration) (w : Left) : Type 0 where
    pub to : (K : Configuration) → o ≡ some K → ((w.answer ≡ Err Over) × (4097 < nodes_state K.cr)) ⊎ Arrives h used K w

  pub none_leads : {h : List ℕ} {used : ℕ} (w : Left) → Leads h used none w
  none_leads w = record { to = λ K e. let z : ◌≡◌ {A = ℕ} 0 1 = cc in absurd (omega arith) }

  -- to one configuration
  pub leads_to : {h : List ℕ} {used : ℕ} (K : Configuration) (w : Left) → ((w.answer ≡ Err Over) × (4097 < nodes_state K.cr)) ⊎ Arrives h used K w → Leads h used (some K) w
  leads_to {h} {used} K w r = record { to = λ L e. let z : K ≡ L = cc in subst (λ (M : Configuration). ((w.answer ≡ Err Over) × (4097 < nodes_state M.cr)) ⊎ Arrives h used M w) z r }
