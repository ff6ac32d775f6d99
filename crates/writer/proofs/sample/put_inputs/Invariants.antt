use Prim.Native.Nat.{◌-◌}
use mathlib.Core.Path.{◌≡◌}
use lib.ListN.{length}
use Rattle.window.specs.Twins.Sink.{sink, puts}
use Rattle.window.specs.Twins.TreeText.{symbol_text}
use Rattle.writer.specs.Twins.SampleText.{inputs_from, inputs_text}
use Rattle.writer.proofs.sample.put_inputs.Given as goal

abbrev pub invariant-loop-at : goal.invariant-loop-at
invariant-loop-at l = puts (sink l.initial.p l.initial.out) (inputs_text (symbol_text l.program l.job l.symbols) l.inputs) ≡ puts (sink l.p l.out) (inputs_from (symbol_text l.program l.job l.symbols) l.inputs (length l.inputs - l.at) l.at)

abbrev pub decreases-loop-at : goal.decreases-loop-at
decreases-loop-at l = length l.inputs - l.at
