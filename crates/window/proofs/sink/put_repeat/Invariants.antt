use Prim.Native.Nat.{◌-◌}
use mathlib.Core.Path.{◌≡◌}
use lib.ListN.{length, replicate}
use Rattle.window.specs.Twins.Sink.{sink, puts}
use Rattle.window.proofs.sink.put_repeat.Given as goal

abbrev pub invariant-loop : goal.invariant-loop
invariant-loop l = (length l.out ≡ length l.initial.out) × (puts (sink l.initial.p l.initial.out) (replicate l.n l.byte) ≡ puts (sink l.p l.out) (replicate (l.n - l.counter) l.byte))
