use mathlib.Core.Path.{◌≡◌}
use Rattle.checker.specs.Twins.CheckStored.{is_named}
use Rattle.checker.proofs.check_expressions.is_named.Given as goal

abbrev pub invariant-loop-k : goal.invariant-loop-k
invariant-loop-k l =
    is_named l.ts.marks.now l.ts.nums.now l.ts.n l.cells l.used l.i ≡ is_named l.ts.marks.now l.ts.nums.now l.ts.n l.cells l.k l.i
