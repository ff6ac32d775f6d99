use mathlib.Core.Path.{◌≡◌}
use Prim.Native.Nat.{◌-◌}
use Rattle.checker.specs.Twins.CheckStored.{params_at}
use Rattle.checker.specs.Twins.CheckAt.{no_names, names}
use Rattle.programs.proofs.check_program.params.Given as goal

abbrev pub invariant-loop : goal.invariant-loop
invariant-loop l =
    params_at l.ts.marks.now l.ts.n l.room no_names l.i ≡ params_at l.ts.marks.now l.ts.n (l.room - l.counter) (names l.cells l.used) l.at
