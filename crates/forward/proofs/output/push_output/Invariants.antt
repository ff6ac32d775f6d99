use mathlib.Core.Path.{◌≡◌}
use Prim.Native.Nat.{◌-◌}
use Rattle.forward.specs.Twins.Output.{tokens_put, output_put}
use Rattle.forward.proofs.output.push_output.Given as goal

abbrev pub invariant-loop-j : goal.invariant-loop-j
invariant-loop-j l = output_put l.code l.c l.a l.limit l.frame l.i l.initial.heap l.initial.answer ≡ tokens_put l.code l.c l.a l.limit l.frame (l.to - l.j) l.j l.at l.heap l.answer
