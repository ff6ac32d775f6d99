use mathlib.Core.Path.{◌≡◌}
use Prim.Native.Nat.{◌-◌}
use Rattle.job_checker.specs.Twins.JobStored.{sides_at}
use Rattle.job_checker.proofs.check_job.sides.Given as goal

abbrev pub invariant-loop : goal.invariant-loop
invariant-loop l =
    sides_at l.ts.marks.now l.ts.nums.now l.ts.ats.now l.ts.n l.runs l.fuel l.marked l.initial.fault l.i ≡ sides_at l.ts.marks.now l.ts.nums.now l.ts.ats.now l.ts.n l.runs (l.fuel - l.counter) l.marked l.fault l.at
