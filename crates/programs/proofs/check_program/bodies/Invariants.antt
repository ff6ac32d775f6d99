use mathlib.Core.Path.{◌≡◌}
use Prim.Native.Nat.{◌-◌}
use Rattle.verdicts.specs.Twins.Found.{fine}
use Rattle.checker.specs.Twins.CheckStored.{bodies_at}
use Rattle.programs.proofs.check_program.bodies.Given as goal

abbrev pub invariant-loop-j : goal.invariant-loop-j
invariant-loop-j l =
    bodies_at l.ts.marks.now l.ts.nums.now l.ts.ats.now l.ts.n l.heads l.count l.count 0 fine fine ≡ bodies_at l.ts.marks.now l.ts.nums.now l.ts.ats.now l.ts.n l.heads l.count (l.count - l.j) l.j l.rebound l.uses
