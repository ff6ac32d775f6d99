use mathlib.Core.Path.{◌≡◌}
use Prim.Native.Nat.{◌-◌}
use lib.ListN.{length}
use Rattle.checker.specs.Twins.StoredAt.{tag_at, num_at}
use Rattle.job_checker.specs.Twins.JobCheckAt.{marked_from}
use Rattle.job_checker.proofs.check_job.mark_variables.Given as goal

abbrev pub invariant-loop-at : goal.invariant-loop-at
invariant-loop-at l =
    (marked_from (tag_at l.ts.marks.now l.ts.n) (num_at l.ts.nums.now l.ts.n) (l.end - l.j) l.j l.initial.marked ≡ marked_from (tag_at l.ts.marks.now l.ts.n) (num_at l.ts.nums.now l.ts.n) (l.end - l.at) l.at l.marked) × (length l.marked ≡ length l.initial.marked)
