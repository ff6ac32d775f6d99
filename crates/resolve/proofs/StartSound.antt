-- A start is sound whatever its size, and one that is over leads nowhere that 21 does not stop.
use Prim.Native.Nat.{ℕ, ◌≤◌, ◌<◌}
use mathlib.Core.Path.{◌≡◌, refl, subst, ◌∙◌, sym as inv}
use mathlib.Core.Bool.{Bool, true}
use mathlib.Core.List.{List}
use mathlib.Core.Option.{Option, none, some}
use native.Mathlib.Omega.{arith}
use native.Mathlib.Decide.{dec_le}
use Rattle.expressions.specs.Restriction.{Restriction, simplify}
use Rattle.expressions.specs.Class.{IOClass}
use Rattle.language.specs.Program.{Term, Prog, find}
use Rattle.expressions.specs.Split.{first_fresh}
use Rattle.language.specs.WellFormed.{fits, admitted}
use Rattle.language.specs.Source.{SProg, SJob, prog, class}
use Rattle.language.specs.JobCheck.{Tool}
use Rattle.language.specs.Reading.{accepted, reading}
use Rattle.language.proofs.Acceptance.{accepted_passed}
use Rattle.language.proofs.Numbers.{accepted_numbers}
use Rattle.semantics.specs.Configuration.{nodes_state, Configuration, start_with, start}
use Rattle.semantics.specs.Evaluate.{start_term}
use Rattle.semantics.specs.Trace.{called, successors}
use Rattle.semantics.specs.Tree.{Node, root}
use Rattle.semantics.proofs.Scopes.{WellScoped, scoped_call}
use Rattle.semantics.proofs.Tracing.{Scoped, start_scoped}
use Rattle.semantics.proofs.Soundness.{Small, Sound, reaches_holds, started_simplified, successors_scoped, accepted_sound}
use Rattle.semantics.proofs.MainCall.{accepted_main}
use Rattle.semantics.proofs.Reaching.{Reaches, here, by_call, by_decision}
use Rattle.initial.proofs.BeginLaws.{in_main}

start_as : (p : Prog) (P : IOClass) (o : Option Restriction) (K : Configuration) → start_with p P o ≡ some K → (K.term ≡ start_term p) × (K.fresh ≡ first_fresh P)
start_as p P none K e = let z : ◌≡◌ {A = ℕ} 0 1 = cc in absurd (omega arith)
start_as p P (some qs) K e = (cc, cc)

module _ (p : Prog) (P : IOClass) (formed : admitted p ≡ true) (fit : fits (find p 0).params P.con.ins ≡ true) (low : first_fresh P ≤ 16381) where
  pub start_sound : (K : Configuration) → start p P ≡ some K → Sound p K
  start_sound K f =
      let is = start_as p P (simplify P.neqs) K f in
      let term = is.0 in
      record {
        simple = started_simplified p P K f;
        fresh = omega (arith, is.1);
        calls = λ g ds e. let u = scoped_call (subst (λ (t : Term). WellScoped p t K.cr.con.env) e (start_scoped p P K formed fit f)) in (u.0, u.1);
        apart = λ c g k x t u e q. let z : ◌≡◌ {A = ℕ} 0 1 = cc in absurd (omega arith);
      }

-- from a configuration that is over, the call of main leads to one that is
stays : (p : Prog) {n : ℕ} {x : Node} {bs : List Bool} {m : ℕ} {y : Node} → Reaches p Small n x bs m y → 4096 < nodes_state x.conf.cr → successors p x.conf ≡ called (in_main p x.conf) → x ≡ y
stays p here l e = refl
stays p (by_call {x = x} {c = c} f k r) l e =
    let i = inv f ∙ e in
    let q : c ≡ in_main p x.conf = cc in
    let s : nodes_state x.conf.cr ≤ 4096 = subst Small q k in
    absurd (omega arith)
stays p (by_decision f d k r) l e = let i = inv f ∙ e in let z : ◌≡◌ {A = ℕ} 0 1 = cc in absurd (omega arith)

-- What an accepted job's start leads to, as each transition asks of it.
module _ (tool : Tool) (first text : List ℕ) (p : SProg) (j : SJob) (e : reading tool first text ≡ accepted p j) (K : Configuration) (f : start (prog p) (class j) ≡ some K) (N : ℕ) where
  sound_by : Dec (nodes_state K.cr ≤ 4096) → (bs : List Bool) (m : ℕ) (y : Node) → Reaches (prog p) Small N (root K) bs m y → Sound (prog p) y.conf
  sound_by (yes l) bs m y r = accepted_sound tool first text p j e K f N l bs m y r
  sound_by (no l) bs m y r =
      let a = accepted_passed tool first text p j e in
      subst (λ (z : Node). Sound (prog p) z.conf) (stays (prog p) r (omega arith) (accepted_main tool first text p j e K f))
      (start_sound (prog p) (class j) a.admitted a.fits (omega (arith, (accepted_numbers tool first text p j e).fresh)) K f)

  pub start_reaches : (bs : List Bool) (m : ℕ) (y : Node) → Reaches (prog p) Small N (root K) bs m y → Sound (prog p) y.conf × Scoped (prog p) y.conf
  start_reaches bs m y r =
      let a = accepted_passed tool first text p j e in
      (sound_by (dec_le (nodes_state K.cr) 4096) bs m y r, reaches_holds (Scoped (prog p)) (prog p) (successors_scoped (prog p) a.admitted) r (start_scoped (prog p) (class j) K a.admitted a.fits f))
