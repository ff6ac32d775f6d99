use mathlib.Core.Path.{◌≡◌}
use mathlib.Core.Bool.{true}
use Prim.Native.Nat.{◌-◌}
use Rattle.verdicts.specs.Twins.Found.{fine}
use Rattle.checker.specs.Twins.CheckStored.{args_at}
use Rattle.checker.proofs.check_expressions.args.Given as goal

abbrev pub invariant-loop : goal.invariant-loop
invariant-loop l =
    args_at l.ts.marks.now l.ts.nums.now l.ts.ats.now l.ts.n l.ts.n l.room l.cells l.used l.p true fine l.i ≡ args_at l.ts.marks.now l.ts.nums.now l.ts.ats.now l.ts.n (l.ts.n - l.counter) l.room l.cells l.used l.param l.as_many l.fault l.at
