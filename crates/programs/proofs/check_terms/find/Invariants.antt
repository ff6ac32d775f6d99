use mathlib.Core.Path.{◌≡◌}
use Prim.Native.Nat.{◌-◌}
use Rattle.checker.specs.Twins.CheckStored.{place_at}
use Rattle.programs.proofs.check_terms.find.Given as goal

abbrev pub invariant-loop-at : goal.invariant-loop-at
invariant-loop-at l =
    place_at l.ts.nums.now l.ts.n l.heads l.count 0 l.x ≡ place_at l.ts.nums.now l.ts.n l.heads (l.count - l.at) l.at l.x
