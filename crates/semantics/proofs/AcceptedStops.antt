-- When a stop comes, from the bytes of the texts on: acceptance is the only condition.
use Prim.Native.Nat.{ℕ}
use mathlib.Core.Path.{◌≡◌}
use mathlib.Core.List.{List}
use mathlib.Core.Option.{some}
use Rattle.language.specs.Program.{find}
use Rattle.language.specs.Source.{SProg, SJob, prog, class}
use Rattle.language.specs.JobCheck.{lister, runner}
use Rattle.language.specs.Reading.{accepted, reading}
use Rattle.language.proofs.Acceptance.{accepted_passed}
use Rattle.semantics.specs.Configuration.{Configuration, start}
use Rattle.semantics.specs.Answer.{inputs, limits, walked, ran}
use Rattle.semantics.specs.Stops.{Stops, RunnerStops}
use Rattle.semantics.specs.StopOrder.{visits, InOrder, VisitsByTheRules}
use Rattle.semantics.proofs.Environments.{ground_fits}
use Rattle.semantics.proofs.Stops.{resolve_stops}
use Rattle.semantics.proofs.StopOrder.{resolve_in_order}
use Rattle.semantics.proofs.Visits.{visits_by_the_rules}
use Rattle.semantics.proofs.RunnerStops.{runner_stops}

module _ (p j : List ℕ) (s : SProg) (t : SJob) where
  -- "Each number comes under its condition and otherwise never"
  pub listed_stops : reading lister p j ≡ accepted s t → Stops (prog s) t.steps.num (class t) (limits t) (walked s t)
  listed_stops e = let a = accepted_passed lister p j s t e in resolve_stops (prog s) (class t) t.steps.num (limits t) a.admitted a.fits

  -- "after 21 to 23 the lines found before": the first stop in the order of the walk
  pub listed_in_order : reading lister p j ≡ accepted s t → InOrder (prog s) t.steps.num (class t) (limits t) (walked s t)
  listed_in_order e = let a = accepted_passed lister p j s t e in resolve_in_order (prog s) (class t) t.steps.num (limits t) a.admitted a.fits

  pub listed_visits : reading lister p j ≡ accepted s t → (c : Configuration) → start (prog s) (class t) ≡ some c →
      VisitsByTheRules (prog s) t.steps.num c (visits (prog s) t.steps.num (class t))
  listed_visits e c h = let a = accepted_passed lister p j s t e in visits_by_the_rules (prog s) t.steps.num (class t) c a.admitted a.fits h

  -- "It stops only with 21 or `not within N`"
  pub ran_stops : reading runner p j ≡ accepted s t → RunnerStops (prog s) t.steps.num (inputs t) (ran s t)
  ran_stops e = let a = accepted_passed runner p j s t e in
      runner_stops (prog s) t.steps.num (inputs t) a.admitted (ground_fits _ (find (prog s) 0).params (class t).con.ins a.fits)
