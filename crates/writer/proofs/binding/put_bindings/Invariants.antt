use mathlib.Core.Path.{◌≡◌}
use Prim.Native.Nat.{◌-◌}
use lib.ListN.{length}
use Rattle.window.specs.Twins.Sink.{sink, puts}
use Rattle.window.specs.Twins.TreeText.{symbol_text}
use Rattle.writer.specs.Twins.LineText.{bindings_from, bindings_text}
use Rattle.writer.proofs.binding.put_bindings.Given as goal

abbrev pub invariant-loop-i : goal.invariant-loop-i
invariant-loop-i l = puts (sink l.initial.p l.initial.out) (bindings_text (symbol_text l.program l.job l.symbols) l.io l.line) ≡ puts (sink l.p l.out) (bindings_from (symbol_text l.program l.job l.symbols) l.io l.line (length l.io - l.i) l.i l.k)
