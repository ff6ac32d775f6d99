use mathlib.Core.Path.{◌≡◌}
use Prim.Native.Nat.{◌-◌}
use Rattle.checker.specs.Twins.CheckStored.{defs_at}
use Rattle.programs.proofs.check_program.defs.Given as goal

abbrev pub invariant-loop : goal.invariant-loop
invariant-loop l =
    defs_at l.ts.marks.now l.ts.nums.now l.ts.ats.now l.ts.n l.left l.initial.all ≡ defs_at l.ts.marks.now l.ts.nums.now l.ts.ats.now l.ts.n (l.left - l.counter) l.all
