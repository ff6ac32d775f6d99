use mathlib.Core.Path.{◌≡◌}
use Prim.Native.Nat.{◌-◌}
use Rattle.forward.specs.Twins.Running.{ran_from}
use Rattle.forward.proofs.run.run_from.Given as goal

abbrev pub invariant-loop-k : goal.invariant-loop-k
invariant-loop-k l = ran_from l.code (l.steps - 1) 1 l.initial.d l.initial.heap l.initial.frame l.initial.q l.initial.answer ≡ ran_from l.code (l.steps - l.k) l.k l.d l.heap l.frame l.q l.answer
