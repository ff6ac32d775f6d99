use Prim.Native.Nat.{◌-◌}
use mathlib.Core.Path.{◌≡◌}
use Rattle.forward.specs.Twins.Naming.{argument_from}
use Rattle.forward.proofs.named.argument_from.Given as goal

abbrev pub invariant-loop : goal.invariant-loop
invariant-loop l = argument_from l.code l.q l.i ≡ argument_from l.code (l.q - l.counter) l.j
