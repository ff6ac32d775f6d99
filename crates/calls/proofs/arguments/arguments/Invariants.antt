use Prim.Native.Nat.{◌-◌}
use mathlib.Core.Path.{◌≡◌}
use Rattle.calls.specs.Twins.Arguments.{arguments_at}
use Rattle.calls.proofs.arguments.arguments.Given as goal

abbrev pub invariant-loop : goal.invariant-loop
invariant-loop l =
    arguments_at l.code l.base l.n l.fn.so_far.entries l.fn.so_far.used l.fn.so_far.nodes l.i l.initial.heap l.initial.frame ≡ arguments_at l.code l.base (l.n - l.counter) l.a.entries l.a.used l.a.nodes l.j l.heap l.frame
