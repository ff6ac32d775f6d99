use Prim.Native.Nat.{◌-◌}
use mathlib.Core.Path.{◌≡◌}
use Rattle.constants.specs.Twins.Laying.{named_in}
use Rattle.constants.proofs.lay.is_named.Given as goal

abbrev pub invariant-loop-j : goal.invariant-loop-j
invariant-loop-j l = named_in l.code (l.to - l.i) l.i ≡ named_in l.code (l.to - l.j) l.j
