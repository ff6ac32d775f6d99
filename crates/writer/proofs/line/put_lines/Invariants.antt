use mathlib.Core.Path.{◌≡◌}
use Prim.Native.Nat.{◌-◌}
use lib.ListN.{drop}
use Rattle.window.specs.Twins.Sink.{sink, puts}
use Rattle.window.specs.Twins.TreeText.{symbol_text}
use Rattle.writer.specs.Twins.LineText.{lines_text}
use Rattle.writer.proofs.line.put_lines.Given as goal

abbrev pub invariant-loop-i : goal.invariant-loop-i
invariant-loop-i l = puts (sink l.initial.p l.initial.out) (lines_text (symbol_text l.program l.job l.symbols) l.io l.samples l.lines 0 l.answer) ≡ puts (sink l.p l.out) (lines_text (symbol_text l.program l.job l.symbols) l.io l.samples (l.lines - l.i) l.i (drop l.at l.answer))
