use mathlib.Core.Path.{◌≡◌}
use Prim.Native.Nat.{◌-◌}
use Rattle.checker.specs.Twins.CheckStored.{params_end}
use Rattle.programs.proofs.check_program.params_end.Given as goal

abbrev pub invariant-loop : goal.invariant-loop
invariant-loop l =
    params_end l.ts.marks.now l.ts.n l.room l.i ≡ params_end l.ts.marks.now l.ts.n (l.room - l.counter) l.at
