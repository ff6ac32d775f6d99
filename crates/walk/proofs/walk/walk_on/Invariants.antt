use Prim.Native.Nat.{◌-◌}
use mathlib.Core.Path.{◌≡◌}
use lib.ListN.{length}
use Rattle.walk.specs.Twins.Walking.{walked_from}
use Rattle.walk.proofs.walk.walk_on.Given as goal

abbrev pub invariant-loop : goal.invariant-loop
invariant-loop l =
    (walked_from l.code l.b l.end l.initial.s l.initial.heap l.initial.frame l.initial.q l.initial.path l.initial.saved l.initial.answer ≡ walked_from l.code l.b (l.end - l.counter) l.s l.heap l.frame l.q l.path l.saved l.answer) × (length l.answer ≡ length l.initial.answer)
