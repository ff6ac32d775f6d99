-- Tracing as a function is that of the rules of figure 10 of 001, both ways, for configurations of well-formed programs.
use Prim.Native.Nat.{ℕ, ◌+◌}
use mathlib.Core.Path.{◌≡◌, refl, ap, ap₂, subst, ◌∙◌, sym as inv}
use mathlib.Core.Bool.{Bool, true, false, cond, ◌&&◌, false≢true}
use mathlib.Core.List.{List, [], ◌∷◌, ◌++◌}
use mathlib.Core.Option.{Option, none, some, none-ne-some, some-injective}
use Rattle.expressions.specs.Expression.{AtomicExp, sym, avar, Exp, atm, evar, pair}
use Rattle.expressions.specs.Substitution.{id_subst, apply, apply_atomic}
use Rattle.expressions.specs.Restriction.{NonEquality, Restriction, same_atomic, add, simplify}
use Rattle.expressions.specs.Contraction.{CRPair, Contraction, identity, non_equal, subst_of, contract_restriction, apply_pair, contract, mk_bind, equality_contraction}
use Rattle.expressions.specs.Class.{IOClass}
use Rattle.expressions.specs.Split.{take_numbers, split_atomic, split_exp}
use Rattle.expressions.proofs.Tests.{and_both}
use Rattle.expressions.proofs.Filling.{apply_atomic_id, apply_id, apply_io_id}
use Rattle.expressions.proofs.Simplification.{same_atomic_eq, same_atomic_same, append_satisfies, simplify_sound, simplify_consistent, consistent_satisfiable}
use Rattle.language.specs.Program.{eqa, consp, Term, call, conditional, result, Param, pe, pa, Def, Prog, find, atom_of}
use Rattle.language.specs.Scope.{Scope, in_scope, all_in_scope, is_atomic, atomic_in_scope}
use Rattle.language.specs.WellFormed.{fits, admitted}
use Rattle.semantics.specs.Environment.{map_values, bind_params}
use Rattle.semantics.specs.Configuration.{ExpEnv, subst_of_env, state, Configuration, with_env, start_with, start}
use Rattle.semantics.specs.Figure10.{CAtomOf, CValueOf, CArgumentsOf, MkBind, left, right, Leads, equal, assume, exclude, is_pair, is_atomic as is_atomic_rule, split_pair, split_atom, calls, Transition, transition, Terminal}
use Rattle.semantics.specs.Trace.{Successors, terminal, called, branches, configuration, trace_pair, trace_atomic, successors_of, successors}
use Rattle.semantics.proofs.Environments.{lookup_binds, bound_lookup, bind_params_bound}
use Rattle.semantics.proofs.Scopes.{Covers, WellScoped, defines_find, defines_is, scoped_body, scoped_call, scoped_eqa, scoped_consp, scoped_pair, scoped_atom, scoped_map, scoped_start}

-- the configuration behind a transition: none at a call, else the branch
abbrev pub child : Option Bool → Successors → Option Configuration
child o (terminal u) = none
child none (called c) = some c
child (some b) (called c) = none
child none (branches a b) = none
child (some true) (branches a b) = a
child (some false) (branches a b) = b

-- What the rules give is what the function gives; this needs no well-formed program.
atom_is : {σ : ExpEnv} {c : Exp} {a : AtomicExp} → CAtomOf σ c a → (apply_atomic (subst_of_env σ) (atom_of c) ≡ a) × (apply (subst_of_env σ) c ≡ atm a)
atom_is (CAtomOf.symbol z) = (refl, refl)
atom_is (CAtomOf.variable x a b) = let e = lookup_binds (sym 0) b in (e, ap atm e)

value_is : {σ : ExpEnv} {c v : Exp} → CValueOf σ c v → apply (subst_of_env σ) c ≡ v
value_is (CValueOf.atomic d a h) = (atom_is h).1
value_is (CValueOf.variable x w b) = lookup_binds (atm (sym 0)) b
value_is (CValueOf.pairs a b u w h k) = ap₂ pair (value_is h) (value_is k)

arguments_are : {σ τ : ExpEnv} {ps : List Param} {ds : List Exp} → CArgumentsOf σ ps ds τ → bind_params (apply (subst_of_env σ)) (apply_atomic (subst_of_env σ)) ps ds ≡ τ
arguments_are CArgumentsOf.done = refl
arguments_are (CArgumentsOf.any x qs d es v ρ h k) = λ i. let r = arguments_are k i in record { evars = (x, value_is h i) ∷ r.evars; avars = r.avars }
arguments_are (CArgumentsOf.one x qs d es a ρ h k) = λ i. let r = arguments_are k i in record { evars = r.evars; avars = (x, (atom_is h).0 i) ∷ r.avars }

-- the function leaves the identity contraction out
map_identity : {A : Type 0} (f : A → A) → ((x : A) → f x ≡ x) → (bs : List (ℕ × A)) → map_values f bs ≡ bs
map_identity f h [] = refl
map_identity {A} f h (b ∷ bs) = ap₂ {C = List (ℕ × A)} (λ x l. (b.0, x) ∷ l) (h b.1) (map_identity f h bs)

pub contract_identity : (P : CRPair state) → contract identity P ≡ some P
contract_identity P = λ i. some (record {
  con = record {
    io = apply_io_id P.con.io i;
    env = record { evars = map_identity (apply id_subst) apply_id P.con.env.evars i; avars = map_identity (apply_atomic id_subst) apply_atomic_id P.con.env.avars i };
  };
  neqs = P.neqs;
})

different : (a b : AtomicExp) → (a ≡ b → ⊥) → same_atomic a b ≡ false
different a b n = pick (same_atomic a b) refl
  where
    pick : (t : Bool) → same_atomic a b ≡ t → same_atomic a b ≡ false
    pick true e = absurd (n (same_atomic_eq a b e))
    pick false e = e

mk_bind_is : {a b : AtomicExp} {κ : Contraction} → MkBind a b κ → mk_bind a b ≡ κ
mk_bind_is (left n c) = refl
mk_bind_is (right z n) = refl

leads_is : {p : Prog} {k k' : ℕ} {t t' : Term} {o : Option Bool} {σ' : ExpEnv} {κ : Contraction} (P : CRPair state) → Leads p P.con.env k t o t' σ' κ k' →
    child o (successors_of p P t k) ≡ configuration t' k' (contract κ (with_env σ' P))
unfolding successors_of
leads_is {k} P (equal x y s r a h g) =
    ap₂ (λ (a b : AtomicExp). configuration s k (contract (equality_contraction a b) P)) (atom_is h).0 (atom_is g).0
    ∙ ap (λ (t : Bool). configuration s k (contract (cond t identity (mk_bind a a)) P)) (same_atomic_same a)
leads_is {k} P (assume x y s r a c l h g n m) =
    ap₂ (λ (a b : AtomicExp). configuration s k (contract (equality_contraction a b) P)) (atom_is h).0 (atom_is g).0
    ∙ ap (λ (t : Bool). configuration s k (contract (cond t identity (mk_bind a c)) P)) (different a c n) ∙ ap (λ (κ : Contraction). configuration s k (contract κ P)) (mk_bind_is m)
leads_is {k} P (exclude x y s r a c h g n) = ap₂ (λ (a b : AtomicExp). configuration r k (contract (non_equal a b) P)) (atom_is h).0 (atom_is g).0
leads_is {k} P (is_pair c h q x s r u v g) = ap (λ (v : Exp). child (some true) (trace_pair h q x s r P k v)) (value_is g) ∙ ap (configuration s k) (inv (contract_identity _))
leads_is {k} P (is_atomic_rule c h q x s r a g) = ap (λ (v : Exp). child (some false) (trace_pair h q x s r P k v)) (value_is g) ∙ ap (configuration r k) (inv (contract_identity _))
leads_is {k} P (split_pair c h q x s r n g) = ap (λ (v : Exp). child (some true) (trace_pair h q x s r P k v)) (value_is g)
leads_is {k} P (split_atom c h q x s r n g) = ap (λ (v : Exp). child (some false) (trace_pair h q x s r P k v)) (value_is g)
leads_is {k} P (calls f ds d τ g a) =
    ap (λ (e : Def). configuration e.body k (some (with_env (bind_params (apply (subst_of_env P.con.env)) (apply_atomic (subst_of_env P.con.env)) e.params ds) P))) (defines_is _ g)
    ∙ ap (λ (σ : ExpEnv). configuration d.body k (some (with_env σ P))) (arguments_are a) ∙ ap (configuration d.body k) (inv (contract_identity (with_env τ P)))

pub transition_child : {p : Prog} {c c' : Configuration} {o : Option Bool} → Transition p c o c' → child o (successors p c) ≡ some c'
transition_child {c} (transition t σ κ k P l e) = leads_is c.cr l ∙ ap (configuration t k) e

pub terminal_successors : (p : Prog) {c : Configuration} {u : Exp} → Terminal c u → successors p c ≡ terminal u
unfolding successors_of
terminal_successors p {c} h = ap (λ (t : Term). successors_of p c.cr t c.fresh) h.term ∙ ap terminal (value_is h.value)

-- a configuration of a well-formed program: each name in reach is bound, no name twice
abbrev pub Scoped : Prog → Configuration → Type 0
Scoped p c = WellScoped p c.term c.cr.con.env

-- What is in reach has a value by the rules, the function's.
module _ (sc : Scope) (σ : ExpEnv) (cov : Covers sc σ) where
  atomic_value : (x : AtomicExp) → in_scope sc (atm x) ≡ true → CAtomOf σ (atm x) (apply_atomic (subst_of_env σ) x)
  atomic_value (sym z) e = CAtomOf.symbol z
  atomic_value (avar n) e = CAtomOf.variable n _ (bound_lookup (sym 0) n σ.avars (cov.1 n e))

  atom_of_lem : (c : Exp) → atomic_in_scope sc c ≡ true → CAtomOf σ c (apply_atomic (subst_of_env σ) (atom_of c))
  atom_of_lem (atm x) e = atomic_value x e
  atom_of_lem (evar n) e = absurd (false≢true e)
  atom_of_lem (pair c d) e = absurd (false≢true e)

  value_of : (c : Exp) → in_scope sc c ≡ true → CValueOf σ c (apply (subst_of_env σ) c)
  value_of (atm x) e = CValueOf.atomic (atm x) _ (atomic_value x e)
  value_of (evar n) e = CValueOf.variable n _ (bound_lookup (atm (sym 0)) n σ.evars (cov.0 n e))
  value_of (pair c d) e = let w = and_both (in_scope sc c) (in_scope sc d) e in CValueOf.pairs c d _ _ (value_of c w.0) (value_of d w.1)

  arguments_of : (ps : List Param) (ds : List Exp) → fits ps ds ≡ true → all_in_scope sc ds ≡ true →
      CArgumentsOf σ ps ds (bind_params (apply (subst_of_env σ)) (apply_atomic (subst_of_env σ)) ps ds)
  arguments_of [] [] f e = CArgumentsOf.done
  arguments_of [] (d ∷ ds) f e = absurd (false≢true f)
  arguments_of (pe x ∷ ps) [] f e = absurd (false≢true f)
  arguments_of (pa x ∷ ps) [] f e = absurd (false≢true f)
  arguments_of (pe x ∷ ps) (d ∷ ds) f e = let w = and_both (in_scope sc d) (all_in_scope sc ds) e in CArgumentsOf.any x ps d ds _ _ (value_of d w.0) (arguments_of ps ds f w.1)
  arguments_of (pa x ∷ ps) (d ∷ ds) f e =
      let w = and_both (in_scope sc d) (all_in_scope sc ds) e in
      let g = and_both (is_atomic d) (fits ps ds) f in
      CArgumentsOf.one x ps d ds _ _ (atom_of_lem d (ap₂ ◌&&◌ g.0 w.0)) (arguments_of ps ds g.1 w.1)

-- "an item against itself is a contradiction": so no rule is needed for the false branch of an `eqa?` of equal sides
self_contradicts : (a : AtomicExp) (qs : Restriction) → add qs (record { left = a; right = a } ∷ []) ≡ none
self_contradicts a qs = pick (add qs (q ∷ [])) refl
  where
    q : NonEquality
    q = record { left = a; right = a }

    pick : (o : Option Restriction) → add qs (q ∷ []) ≡ o → add qs (q ∷ []) ≡ none
    pick none e = e
    pick (some out) e =
        let w = consistent_satisfiable out (simplify_consistent (qs ++ (q ∷ [])) out e) in
        absurd ((append_satisfies w.0 qs (q ∷ []) (simplify_sound w.0 (qs ++ (q ∷ [])) out e w.1)).1.0 refl)

-- what holds of an end's output, and of each configuration that a transition leads to
abbrev pub IfSome : (Configuration → Type 0) → Option Configuration → Type 0
IfSome Q none = Unit {0}
IfSome Q (some d) = Q d

abbrev pub Each : (Exp → Type 0) → (Option Bool → Configuration → Type 0) → Successors → Type 0
Each T Q (terminal u) = T u
Each T Q (called d) = Q none d
Each T Q (branches a b) = IfSome (Q (some true)) a × IfSome (Q (some false)) b

pub each_child : (T : Exp → Type 0) (Q : Option Bool → Configuration → Type 0) (S : Successors) (o : Option Bool) (d : Configuration) → Each T Q S → child o S ≡ some d → Q o d
each_child T Q (terminal u) o d h e = absurd (none-ne-some _ e)
each_child T Q (called c) none d h e = subst (Q none) (some-injective _ _ e) h
each_child T Q (called c) (some b) d h e = absurd (none-ne-some _ e)
each_child T Q (branches a b) none d h e = absurd (none-ne-some _ e)
each_child T Q (branches a b) (some true) d h e = subst (IfSome (Q (some true))) e h.0
each_child T Q (branches a b) (some false) d h e = subst (IfSome (Q (some false))) e h.1

-- what the rules say of what the function gives
abbrev MayLead : Prog → Configuration → Option Bool → Option Configuration → Type 0
MayLead p c o = IfSome (Transition p c o)

abbrev Leading : Prog → Configuration → Successors → Type 0
Leading p c = Each (Terminal c) (Transition p c)

module _ (p : Prog) (c : Configuration) where
  may_lead : {t : Term} {σ : ExpEnv} {κ : Contraction} {k : ℕ} (o : Option Bool) → Leads p c.cr.con.env c.fresh c.term o t σ κ k →
      MayLead p c o (configuration t k (contract κ (with_env σ c.cr)))
  may_lead {t} {σ} {κ} {k} o l = pick (contract κ (with_env σ c.cr)) refl
    where
      pick : (r : Option (CRPair state)) → contract κ (with_env σ c.cr) ≡ r → MayLead p c o (configuration t k r)
      pick none e = tt
      pick (some P) e = transition t σ κ k P l e

module _ (p : Prog) (P : CRPair state) (k : ℕ) where
  abbrev at : Term → Configuration
  at t = record { cr = P; term = t; fresh = k }

  lead_bind : (x y : Exp) (s t : Term) (a b : AtomicExp) → CAtomOf P.con.env x a → CAtomOf P.con.env y b → (a ≡ b → ⊥) →
      MayLead p (at (conditional (eqa x y) s t)) (some true) (configuration s k (contract (mk_bind a b) P))
  lead_bind x y s t (sym z) (sym w) h g n = tt
  lead_bind x y s t (sym z) (avar m) h g n = may_lead p (at (conditional (eqa x y) s t)) (some true) (assume x y s t (sym z) (avar m) _ h g n (right z m))
  lead_bind x y s t (avar m) b h g n = may_lead p (at (conditional (eqa x y) s t)) (some true) (assume x y s t (avar m) b _ h g n (left m b))

  lead_eqa : (x y : Exp) (s t : Term) (a b : AtomicExp) → CAtomOf P.con.env x a → CAtomOf P.con.env y b → Leading p (at (conditional (eqa x y) s t)) (trace_atomic s t P k (split_atomic a b))
  lead_eqa x y s t a b h g = pick (same_atomic a b) refl
    where
      c : Configuration
      c = at (conditional (eqa x y) s t)

      pick : (e : Bool) → same_atomic a b ≡ e → MayLead p c (some true) (configuration s k (contract (cond e identity (mk_bind a b)) P)) × MayLead p c (some false) (configuration t k (contract (non_equal a b) P))
      pick true e =
          let q : b ≡ a = inv (same_atomic_eq a b e) in (
            may_lead p c (some true) (equal x y s t a h (subst (CAtomOf P.con.env y) q g)),
            subst (λ (o : Option Restriction). MayLead p c (some false) (configuration t k (apply_pair id_subst P o)))
                (inv (ap (λ (b : AtomicExp). add P.neqs (record { left = a; right = b } ∷ [])) q ∙ self_contradicts a P.neqs)) tt,
          )
      pick false e =
          let n : a ≡ b → ⊥ = λ q. false≢true (inv e ∙ ap (same_atomic a) (inv q) ∙ same_atomic_same a) in
          (lead_bind x y s t a b h g n, may_lead p c (some false) (exclude x y s t a b h g n))

  lead_identity : {t' : Term} {σ : ExpEnv} (t : Term) (o : Option Bool) → Leads p P.con.env k t o t' σ identity k → Transition p (at t) o (record { cr = with_env σ P; term = t'; fresh = k })
  lead_identity {t'} {σ} t o l = transition t' σ identity k (with_env σ P) l (contract_identity (with_env σ P))

  lead_consp : (c : Exp) (h t x : ℕ) (s u : Term) (v : Exp) → CValueOf P.con.env c v → Leading p (at (conditional (consp c h t x) s u)) (trace_pair h t x s u P k v)
  lead_consp c h t x s u (atm a) g = (tt, lead_identity _ (some false) (is_atomic_rule c h t x s u a g))
  lead_consp c h t x s u (evar n) g =
      let d = at (conditional (consp c h t x) s u) in (may_lead p d (some true) (split_pair c h t x s u n g), may_lead p d (some false) (split_atom c h t x s u n g))
  lead_consp c h t x s u (pair v w) g = (lead_identity _ (some true) (is_pair c h t x s u v w g), tt)

  leading : (t : Term) → WellScoped p t P.con.env → Leading p (at t) (successors_of p P t k)
  unfolding successors_of
  leading (result c) w = record { exp = c; term = refl; value = value_of w.scope P.con.env w.covers c w.well_formed }
  leading (call f ds) w =
      let u = scoped_call w in
      lead_identity _ none (calls f ds (find p f) _ (defines_find p f _ u.0) (arguments_of w.scope P.con.env w.covers (find p f).params ds u.1 u.2))
  leading (conditional (eqa x y) s t) w =
      let u = scoped_eqa w in lead_eqa x y s t _ _ (atom_of_lem w.scope P.con.env w.covers x u.0) (atom_of_lem w.scope P.con.env w.covers y u.1)
  leading (conditional (consp c h t x) s u) w = lead_consp c h t x s u _ (value_of w.scope P.con.env w.covers c (scoped_consp w))

pub child_transition : (p : Prog) (c d : Configuration) (o : Option Bool) → Scoped p c → child o (successors p c) ≡ some d → Transition p c o d
child_transition p c d o w e = each_child (Terminal c) (Transition p c) (successors p c) o d (leading p c.cr c.fresh c.term w) e

pub successors_terminal : (p : Prog) (c : Configuration) (u : Exp) → Scoped p c → successors p c ≡ terminal u → Terminal c u
successors_terminal p c u w e = subst (Leading p c) e (leading p c.cr c.fresh c.term w)

-- Transitions keep a configuration one of a well-formed program.
abbrev Keeping : Prog → Successors → Type 0
Keeping p = Each (λ u. Unit {0}) (λ o d. Scoped p d)

module _ (p : Prog) (P : CRPair state) (k : ℕ) where
  kept : {t : Term} {σ : ExpEnv} (κ : Contraction) → WellScoped p t σ → IfSome (Scoped p) (configuration t k (contract κ (with_env σ P)))
  kept {t} {σ} κ w = pick (contract_restriction κ P.neqs)
    where
      pick : (r : Option Restriction) → IfSome (Scoped p) (configuration t k (apply_pair (subst_of κ) (with_env σ P) r))
      pick none = tt
      pick (some qs) = scoped_map (apply (subst_of κ)) (apply_atomic (subst_of κ)) w

module _ (p : Prog) (wf : admitted p ≡ true) (P : CRPair state) where
  keep_consp : (c : Exp) (h t x : ℕ) (s u : Term) (k : ℕ) → WellScoped p (conditional (consp c h t x) s u) P.con.env → (v : Exp) → Keeping p (trace_pair h t x s u P k v)
  keep_consp c h t x s u k w (atm a) = (tt, scoped_atom a w)
  keep_consp c h t x s u k w (evar n) =
      let sp = split_exp n (take_numbers k) in
      (kept p P (k + 3) sp.yes (scoped_pair (evar k) (evar (k + 1)) w), kept p P (k + 3) sp.no (scoped_atom (avar (k + 2)) w))
  keep_consp c h t x s u k w (pair v y) = (scoped_pair v y w, tt)

  keeping : (t : Term) (k : ℕ) → WellScoped p t P.con.env → Keeping p (successors_of p P t k)
  unfolding successors_of
  keeping (result c) k w = tt
  keeping (call f ds) k w = let u = scoped_call w in scoped_body wf (defines_find p f _ u.0) (bind_params_bound _ (apply_atomic (subst_of_env P.con.env)) (find p f).params ds u.1)
  keeping (conditional (eqa x y) s t) k w =
      let u = scoped_eqa w in
      let sp = split_atomic (apply_atomic (subst_of_env P.con.env) (atom_of x)) (apply_atomic (subst_of_env P.con.env) (atom_of y)) in
      (kept p P k sp.yes u.2, kept p P k sp.no u.3)
  keeping (conditional (consp c h t x) s u) k w = keep_consp c h t x s u k w (apply (subst_of_env P.con.env) c)

pub child_scoped : (p : Prog) (c d : Configuration) (o : Option Bool) → admitted p ≡ true → Scoped p c → child o (successors p c) ≡ some d → Scoped p d
child_scoped p c d o wf w e = each_child (λ u. Unit {0}) (λ o d. Scoped p d) (successors p c) o d (keeping p wf c.cr c.term c.fresh w) e

pub start_scoped : (p : Prog) (j : IOClass) (c : Configuration) → admitted p ≡ true → fits (find p 0).params j.con.ins ≡ true → start p j ≡ some c → Scoped p c
start_scoped p j c wf f e = subst (IfSome (Scoped p)) e (pick (simplify j.neqs))
  where
    pick : (r : Option Restriction) → IfSome (Scoped p) (start_with p j r)
    pick none = tt
    pick (some qs) = scoped_start wf (bind_params_bound (λ c. c) (λ x. x) (find p 0).params j.con.ins f)
