use mathlib.Core.Path.{◌≡◌}
use Prim.Native.Nat.{◌-◌}
use Rattle.job_checker.specs.Twins.JobStored.{numeral_from}
use Rattle.job_checker.proofs.check_job.numeral.Given as goal

abbrev pub invariant-loop : goal.invariant-loop
invariant-loop l =
    numeral_from l.text l.left l.i l.v ≡ numeral_from l.text (l.left - l.counter) l.at l.value
