-- What each configuration of a walk has where the texts were accepted, by which the walk in cells does what it does.
use Prim.Native.Nat.{ℕ, ◌+◌, ◌<◌, ◌≤◌}
use mathlib.Core.Path.{◌≡◌, refl, ap, subst, ◌∙◌, sym as inv}
use mathlib.Core.Bool.{Bool, true, false, not, false≢true}
use mathlib.Core.List.{List}
use mathlib.Core.Option.{Option, none, some}
use native.Mathlib.Omega.{arith}
use lib.Dec.{eqb}
use lib.ListN.{length}
use Rattle.expressions.specs.Expression.{avar, Exp, atm, evar, pair}
use Rattle.expressions.specs.Substitution.{apply, apply_atomic}
use Rattle.expressions.specs.Restriction.{Restriction, simplify}
use Rattle.expressions.specs.Contraction.{CRPair, Contraction, non_equal, subst_of, contract_restriction, apply_pair, contract, equality_contraction}
use Rattle.expressions.specs.Class.{IOClass}
use Rattle.expressions.specs.Split.{take_numbers, split_exp, first_fresh}
use Rattle.expressions.proofs.Tests.{eqb_same}
use Rattle.expressions.proofs.Predicates.{OfOption}
use Rattle.expressions.proofs.Combination.{simplify_idempotent, contract_simplified}
use Rattle.language.specs.Program.{eqa, consp, Term, call, conditional, result, Prog, find, atom_of}
use Rattle.language.specs.Source.{SProg, SJob, prog, class}
use Rattle.language.specs.Scope.{with_a, pair_scope, in_scope}
use Rattle.language.specs.WellFormed.{fits, well_formed_term, admitted}
use Rattle.language.specs.JobCheck.{Tool}
use Rattle.language.specs.Reading.{accepted, reading}
use Rattle.language.proofs.Tests.{and_four}
use Rattle.language.proofs.Acceptance.{accepted_passed}
use Rattle.language.proofs.Numbers.{accepted_numbers}
use Rattle.semantics.specs.Environment.{update_e, update_a}
use Rattle.semantics.specs.Configuration.{ExpEnv, subst_of_env, state, Configuration, with_env, start_with, start, nodes_state}
use Rattle.semantics.specs.Trace.{Successors, terminal, called, branches, configuration, trace_pair, successors_of, successors}
use Rattle.semantics.specs.Tree.{Node, root}
use Rattle.semantics.proofs.Scopes.{WellScoped, scoped_call}
use Rattle.semantics.proofs.Tracing.{child, Scoped, child_scoped, start_scoped}
use Rattle.semantics.proofs.Invariants.{OfSuccessors, Keeps}
use Rattle.semantics.proofs.FreshNumbers.{Numbered, successors_numbered, started_numbered, fresh_nodes}
use Rattle.semantics.proofs.Reaching.{Reaches, here, by_call, by_decision, reaches_good}

-- "21 over 4,096 nodes": one that 21 does not stop
abbrev pub Small : Configuration → Type 0
Small K = nodes_state K.cr ≤ 4096

-- A simplified restriction, a counter whose next three numbers have a code, and what well-formed terms have (001, section 3.1):
-- defined functions with arguments that fit, two names in a `cons?`.
pub record Sound (p : Prog) (K : Configuration) : Type 0 where
  pub simple : simplify K.cr.neqs ≡ some K.cr.neqs
  pub fresh : K.fresh ≤ 16381
  pub calls : (f : ℕ) (ds : List Exp) → K.term ≡ call f ds → (f < length p) × (fits (find p f).params ds ≡ true)
  pub apart : (e : Exp) (g k x : ℕ) (t u : Term) → K.term ≡ conditional (consp e g k x) t u → g ≡ k → ⊥

-- a property that transitions keep holds of what decisions lead to
pub reaches_holds : (Q : Configuration → Type 0) (p : Prog) → Keeps p Q → {G : Configuration → Type 0} {n : ℕ} {x : Node} {bs : List Bool} {m : ℕ} {y : Node} →
    Reaches p G n x bs m y → Q x.conf → Q y.conf
reaches_holds Q p keeps here q = q
reaches_holds Q p keeps (by_call {x = x} e g r) q = reaches_holds Q p keeps r (subst (OfSuccessors Q) e (keeps x.conf q))
reaches_holds Q p keeps (by_decision {x = x} {q = true} e d g r) q = reaches_holds Q p keeps r (subst (OfOption Q) d (subst (OfSuccessors Q) e (keeps x.conf q)).0)
reaches_holds Q p keeps (by_decision {x = x} {q = false} e d g r) q = reaches_holds Q p keeps r (subst (OfOption Q) d (subst (OfSuccessors Q) e (keeps x.conf q)).1)

-- the restriction of a configuration is a simplified one
abbrev pub Simplified : Configuration → Type 0
Simplified K = simplify K.cr.neqs ≡ some K.cr.neqs

module _ (P : CRPair state) (k : ℕ) (H : simplify P.neqs ≡ some P.neqs) where
  contracted : (u : Term) (j : ℕ) (κ : Contraction) (σ : ExpEnv) → OfOption Simplified (configuration u j (contract κ (with_env σ P)))
  contracted u j κ σ = pick (contract_restriction κ P.neqs) refl
    where
      pick : (o : Option Restriction) → contract_restriction κ P.neqs ≡ o → OfOption Simplified (configuration u j (apply_pair (subst_of κ) (with_env σ P) o))
      pick none e = tt
      pick (some qs) e = contract_simplified κ P.neqs qs H e

  pair_simplified : (h t x : ℕ) (s u : Term) (v : Exp) → OfSuccessors Simplified (trace_pair h t x s u P k v)
  pair_simplified h t x s u (atm y) = (tt, H)
  pair_simplified h t x s u (pair c d) = (H, tt)
  pair_simplified h t x s u (evar n) =
      let sp = split_exp n (take_numbers k) in
      (contracted s (k + 3) sp.yes (update_e t (evar (k + 1)) (update_e h (evar k) P.con.env)), contracted u (k + 3) sp.no (update_a x (avar (k + 2)) P.con.env))

  transition_simplified : (p : Prog) (t : Term) → OfSuccessors Simplified (successors_of p P t k)
  unfolding successors_of
  transition_simplified p (result d) = tt
  transition_simplified p (call f ds) = H
  transition_simplified p (conditional (eqa x y) s t) =
      let σ = subst_of_env P.con.env in
      let a = apply_atomic σ (atom_of x) in
      let b = apply_atomic σ (atom_of y) in
      (contracted s k (equality_contraction a b) P.con.env, contracted t k (non_equal a b) P.con.env)
  transition_simplified p (conditional (consp d h t x) s u) = pair_simplified h t x s u (apply (subst_of_env P.con.env) d)

pub successors_simplified : (p : Prog) → Keeps p Simplified
successors_simplified p c H = transition_simplified c.cr c.fresh H p c.term

pub started_simplified : (p : Prog) (j : IOClass) (c : Configuration) → start p j ≡ some c → Simplified c
started_simplified p j c e = subst (OfOption Simplified) e (pick (simplify j.neqs) refl)
  where
    pick : (o : Option Restriction) → simplify j.neqs ≡ o → OfOption Simplified (start_with p j o)
    pick none q = tt
    pick (some qs) q = simplify_idempotent j.neqs qs q

-- as Tracing has it of each child
pub successors_scoped : (p : Prog) → admitted p ≡ true → Keeps p (Scoped p)
successors_scoped p wf c w = pick (successors p c) refl
  where
    of : (o : Option Bool) (a : Option Configuration) → child o (successors p c) ≡ a → OfOption (Scoped p) a
    of o none e = tt
    of o (some d) e = child_scoped p c d o wf w e

    pick : (D : Successors) → successors p c ≡ D → OfSuccessors (Scoped p) D
    pick (terminal u) e = tt
    pick (called d) e = of none (some d) (ap (child none) e)
    pick (branches a b) e = (of (some true) a (ap (child (some true)) e), of (some false) b (ap (child (some false)) e))

scoped_apart : {p : Prog} {σ : ExpEnv} (c : Exp) (h t x : ℕ) (s u : Term) → WellScoped p (conditional (consp c h t x) s u) σ → h ≡ t → ⊥
scoped_apart {p} c h t x s u w e =
    let sc = w.scope in
    let d = (and_four (in_scope sc c) (not (eqb h t)) (well_formed_term p (pair_scope h t sc) s) (well_formed_term p (with_a x sc) u) w.well_formed).1 in
    false≢true (inv (ap (λ (i : ℕ). not (eqb h i)) (inv e) ∙ ap not (eqb_same h)) ∙ d)

module _ (p : Prog) (j : IOClass) (wf : admitted p ≡ true) (fit : fits (find p 0).params j.con.ins ≡ true) (low : first_fresh j ≤ 4093) where
  sound_from : (K : Configuration) → Small K → Simplified K → Numbered (first_fresh j) K → Scoped p K → Sound p K
  sound_from K small simple numbered w = record {
    simple = simple;
    fresh = omega (arith, fresh_nodes (first_fresh j) K numbered, small, low);
    calls = λ f ds e. let u = scoped_call (subst (λ (t : Term). WellScoped p t K.cr.con.env) e w) in (u.0, u.1);
    apart = λ c g k x t u e. scoped_apart c g k x t u (subst (λ (t : Term). WellScoped p t K.cr.con.env) e w);
  }

  pub reaches_sound : (K₀ : Configuration) → start p j ≡ some K₀ → Small K₀ → {N : ℕ} {bs : List Bool} {m : ℕ} {y : Node} → Reaches p Small N (root K₀) bs m y → Sound p y.conf
  reaches_sound K₀ e small {y = y} r = sound_from y.conf
      (reaches_good p Small r small)
      (reaches_holds Simplified p (successors_simplified p) r (started_simplified p j K₀ e))
      (reaches_holds (Numbered (first_fresh j)) p (successors_numbered (first_fresh j) p) r (started_numbered p j K₀ e))
      (reaches_holds (Scoped p) p (successors_scoped p wf) r (start_scoped p j K₀ wf fit e))

module _ (tool : Tool) (p j : List ℕ) (s : SProg) (t : SJob) (e : reading tool p j ≡ accepted s t) where
  pub accepted_sound : (K₀ : Configuration) → start (prog s) (class t) ≡ some K₀ → (N : ℕ) → Small K₀ →
      (bs : List Bool) (m : ℕ) (y : Node) → Reaches (prog s) Small N (root K₀) bs m y → Sound (prog s) y.conf
  accepted_sound K₀ k N small bs m y r =
      let a = accepted_passed tool p j s t e in
      reaches_sound (prog s) (class t) a.admitted a.fits (omega (arith, (accepted_numbers tool p j s t e).fresh)) K₀ k small r
