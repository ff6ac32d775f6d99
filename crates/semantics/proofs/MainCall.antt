-- The call of main on its own parameters leaves the environment of the start as it is: "The start state is the call of main on the inputs."
use Prim.Native.Nat.{ℕ, ◌<◌}
use mathlib.Core.Path.{◌≡◌, refl, subst, sym as inv}
use mathlib.Core.Bool.{Bool, true, false, ◌||◌, not, false≢true, true≢false}
use mathlib.Core.List.{List, [], ◌∷◌}
use mathlib.Core.Option.{Option, none, some}
use borrow.Author.Tests.{eqb-false, eq-eqb, ne_eqb}
use lib.Dec.{eqb}
use lib.ListN.{length}
use Rattle.expressions.specs.Expression.{sym, Exp, atm}
use Rattle.expressions.specs.Substitution.{apply, apply_atomic}
use Rattle.expressions.specs.Restriction.{Restriction, simplify}
use Rattle.expressions.specs.Contraction.{CRPair}
use Rattle.expressions.specs.Class.{IOClass}
use Rattle.expressions.specs.Split.{first_fresh}
use Rattle.expressions.proofs.Tests.{and_both}
use Rattle.expressions.proofs.Predicates.{OfOption}
use Rattle.language.specs.Program.{Param, pe, pa, Prog, find, atom_of}
use Rattle.language.specs.Source.{SProg, SJob, prog, class}
use Rattle.language.specs.Scope.{is_atomic, scope_of}
use Rattle.language.specs.WellFormed.{fits, has_param, distinct_params, well_formed_term, well_formed_defs, admitted}
use Rattle.language.specs.JobCheck.{Tool}
use Rattle.language.specs.Reading.{accepted, reading}
use Rattle.language.proofs.Tests.{and_three}
use Rattle.language.proofs.Formed.{some_main, defs_formed}
use Rattle.language.proofs.Acceptance.{accepted_passed}
use Rattle.semantics.specs.Environment.{lookup, add_e, add_a, bind_params, names}
use Rattle.semantics.specs.Configuration.{ExpEnv, subst_of_env, state, Configuration, start_with, start}
use Rattle.semantics.specs.Evaluate.{start_term}
use Rattle.semantics.specs.Trace.{called, successors_of, successors}

-- τ gives the parameters these values
abbrev Agrees : ExpEnv → List Param → List Exp → Type 0
Agrees τ [] ds = Unit {0}
Agrees τ (p ∷ ps) [] = Unit {0}
Agrees τ (pe x ∷ ps) (d ∷ ds) = (lookup (atm (sym 0)) x τ.evars ≡ d) × Agrees τ ps ds
Agrees τ (pa x ∷ ps) (d ∷ ds) = (lookup (sym 0) x τ.avars ≡ atom_of d) × Agrees τ ps ds

rebound : (τ : ExpEnv) (ps : List Param) (ds : List Exp) → fits ps ds ≡ true → Agrees τ ps ds →
    bind_params (apply (subst_of_env τ)) (apply_atomic (subst_of_env τ)) ps (names ps) ≡ bind_params (λ c. c) (λ x. x) ps ds
rebound τ [] ds f a = refl
rebound τ (p ∷ ps) [] f a = absurd (false≢true f)
rebound τ (pe x ∷ ps) (d ∷ ds) f a = rw (a.0, rebound τ ps ds f a.1)
rebound τ (pa x ∷ ps) (d ∷ ds) f a = rw (a.0, rebound τ ps ds (and_both (is_atomic d) (fits ps ds) f).1 a.1)

neither : (a b : Bool) → (a || b) ≡ false → (a ≡ false) × (b ≡ false)
neither true b e = absurd (true≢false e)
neither false b e = (refl, e)

turned : (x y : ℕ) → eqb y x ≡ false → eqb x y ≡ false
turned x y e = ne_eqb x y (λ q. eqb-false y x e (inv q))

-- another name changes nothing
agrees_e : (x : ℕ) (d : Exp) (τ : ExpEnv) (ps : List Param) (ds : List Exp) → has_param (pe x) ps ≡ false → Agrees τ ps ds → Agrees (add_e x d τ) ps ds
agrees_e x d τ [] ds n a = a
agrees_e x d τ (p ∷ ps) [] n a = a
agrees_e x d τ (pe y ∷ ps) (c ∷ ds) n a = let m = neither (eqb y x) (has_param (pe x) ps) n in (rw (turned x y m.0) a.0, agrees_e x d τ ps ds m.1 a.1)
agrees_e x d τ (pa y ∷ ps) (c ∷ ds) n a = (a.0, agrees_e x d τ ps ds n a.1)

agrees_a : (x : ℕ) (d : Exp) (τ : ExpEnv) (ps : List Param) (ds : List Exp) → has_param (pa x) ps ≡ false → Agrees τ ps ds → Agrees (add_a x (atom_of d) τ) ps ds
agrees_a x d τ [] ds n a = a
agrees_a x d τ (p ∷ ps) [] n a = a
agrees_a x d τ (pe y ∷ ps) (c ∷ ds) n a = (a.0, agrees_a x d τ ps ds n a.1)
agrees_a x d τ (pa y ∷ ps) (c ∷ ds) n a = let m = neither (eqb y x) (has_param (pa x) ps) n in (rw (turned x y m.0) a.0, agrees_a x d τ ps ds m.1 a.1)

denied : (b : Bool) → not b ≡ true → b ≡ false
denied true e = absurd (false≢true e)
denied false e = refl

agrees : (ps : List Param) (ds : List Exp) → distinct_params ps ≡ true → Agrees (bind_params (λ c. c) (λ x. x) ps ds) ps ds
agrees [] ds e = tt
agrees (p ∷ ps) [] e = tt
agrees (pe x ∷ ps) (d ∷ ds) e =
    let m = and_both (not (has_param (pe x) ps)) (distinct_params ps) e in
    (rw (eq-eqb x x refl), agrees_e x d (bind_params (λ c. c) (λ x. x) ps ds) ps ds (denied (has_param (pe x) ps) m.0) (agrees ps ds m.1))
agrees (pa x ∷ ps) (d ∷ ds) e =
    let m = and_both (not (has_param (pa x) ps)) (distinct_params ps) e in
    (rw (eq-eqb x x refl), agrees_a x d (bind_params (λ c. c) (λ x. x) ps ds) ps ds (denied (has_param (pa x) ps) m.0) (agrees ps ds m.1))

pub start_rebound : (ps : List Param) (ds : List Exp) → distinct_params ps ≡ true → fits ps ds ≡ true →
    let σ = bind_params (λ c. c) (λ x. x) ps ds in bind_params (apply (subst_of_env σ)) (apply_atomic (subst_of_env σ)) ps (names ps) ≡ σ
start_rebound ps ds e f = rebound (bind_params (λ c. c) (λ x. x) ps ds) ps ds f (agrees ps ds e)

-- So the successor of the start is main's body in the same cr-pair.
pub start_successor : (p : Prog) (P : CRPair state) (ds : List Exp) (k : ℕ) → distinct_params (find p 0).params ≡ true → fits (find p 0).params ds ≡ true →
    P.con.env ≡ bind_params (λ c. c) (λ x. x) (find p 0).params ds → successors_of p P (start_term p) k ≡ called (record { cr = P; term = (find p 0).body; fresh = k })
unfolding successors_of
start_successor p P ds k e f is =
    let r = rw (← is) at (start_rebound (find p 0).params ds e f) in
    rw r

-- a program's main has no parameter twice
pub main_distinct : (p : Prog) → admitted p ≡ true → distinct_params (find p 0).params ≡ true
main_distinct [] e = refl
main_distinct (d ∷ p) e =
    (and_three (distinct_params d.params) (well_formed_term (d ∷ p) (scope_of d.params) d.body) (well_formed_defs (d ∷ p) p) (defs_formed (d ∷ p) e)).0

pub main_called : (p : Prog) (j : IOClass) (K : Configuration) → admitted p ≡ true → fits (find p 0).params j.con.ins ≡ true → start p j ≡ some K →
    successors p K ≡ called (record { cr = K.cr; term = (find p 0).body; fresh = K.fresh })
main_called p j K wf fit e = subst (OfOption Goes) e (pick (simplify j.neqs))
  where
    Goes : Configuration → Type 0
    Goes c = successors p c ≡ called (record { cr = c.cr; term = (find p 0).body; fresh = c.fresh })

    pick : (o : Option Restriction) → OfOption Goes (start_with p j o)
    pick none = tt
    pick (some qs) = start_successor p _ j.con.ins (first_fresh j) (main_distinct p wf) fit refl

module _ (tool : Tool) (p j : List ℕ) (s : SProg) (t : SJob) (e : reading tool p j ≡ accepted s t) where
  pub accepted_main : (K₀ : Configuration) → start (prog s) (class t) ≡ some K₀ → successors (prog s) K₀ ≡ called (record { cr = K₀.cr; term = (find (prog s) 0).body; fresh = K₀.fresh })
  accepted_main K₀ k = let a = accepted_passed tool p j s t e in main_called (prog s) (class t) K₀ a.admitted a.fits k

  -- "the first is main"
  pub accepted_defines : 0 < length (prog s)
  accepted_defines = some_main (prog s) (accepted_passed tool p j s t e).admitted
