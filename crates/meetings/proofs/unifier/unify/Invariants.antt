use Prim.Native.Nat.{◌-◌}
use mathlib.Core.Path.{◌≡◌}
use Rattle.meetings.specs.Twins.Unifying.{unified_many}
use Rattle.meetings.proofs.unifier.unify.Given as goal

abbrev pub invariant-loop : goal.invariant-loop
invariant-loop l = unified_many l.end l.initial.c l.initial.heap l.initial.frame l.initial.q ≡ unified_many (l.end - l.counter) l.c l.heap l.frame l.q
