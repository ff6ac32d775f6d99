use mathlib.Core.Path.{◌≡◌}
use lib.ListN.{length, drop}
use Rattle.window.specs.Twins.Sink.{sink, puts}
use Rattle.window.proofs.sink.put_text.Given as goal

abbrev pub invariant-loop-byte : goal.invariant-loop-byte
invariant-loop-byte l = (length l.out ≡ length l.initial.out) × (puts (sink l.initial.p l.initial.out) l.text ≡ puts (sink l.p l.out) (drop l.byte-index l.text))
