use mathlib.Core.Path.{◌≡◌}
use Prim.Native.Nat.{◌-◌}
use mathlib.Core.Bool.{true}
use Rattle.verdicts.specs.Twins.Found.{fine}
use Rattle.job_checker.specs.Twins.JobStored.{inputs_at}
use Rattle.job_checker.proofs.check_job.inputs.Given as goal

abbrev pub invariant-loop : goal.invariant-loop
invariant-loop l =
    inputs_at l.ts.marks.now l.ts.ats.now l.ts.n l.runs l.main l.m l.ts.n l.p true fine l.i ≡ inputs_at l.ts.marks.now l.ts.ats.now l.ts.n l.runs l.main l.m (l.ts.n - l.counter) l.param l.as_many l.fault l.at
