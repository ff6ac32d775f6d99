use mathlib.Core.Path.{◌≡◌}
use Prim.Native.Nat.{◌-◌}
use lib.ListN.{length}
use Rattle.checker.specs.Twins.CheckStored.{params_twice}
use Rattle.checker.specs.Twins.CheckAt.{no_names, names}
use Rattle.programs.proofs.check_program.params_twice.Given as goal

abbrev pub invariant-loop : goal.invariant-loop
invariant-loop l =
    (params_twice l.ts.marks.now l.ts.nums.now l.ts.ats.now l.ts.n l.room no_names l.i ≡ params_twice l.ts.marks.now l.ts.nums.now l.ts.ats.now l.ts.n (l.room - l.counter) (names l.cells l.used) l.at) × (length l.cells ≡ 144)
