use mathlib.Core.Path.{◌≡◌}
use Prim.Native.Nat.{◌-◌}
use Rattle.linking.specs.Twins.Linking.{parameters_named}
use Rattle.linking.proofs.program.push_parameters.Given as goal

abbrev pub invariant-loop-i : goal.invariant-loop-i
invariant-loop-i l = parameters_named (l.to - l.p) l.p 0 l.initial.names ≡ parameters_named (l.to - l.i) l.i l.used l.names
