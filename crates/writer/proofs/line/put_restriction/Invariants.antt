use mathlib.Core.Path.{◌≡◌}
use Prim.Native.Nat.{◌*◌}
use lib.ListN.{drop}
use Rattle.window.specs.Twins.Sink.{sink, puts}
use Rattle.window.specs.Twins.TreeText.{symbol_text}
use Rattle.writer.specs.Twins.LineText.{restriction_text}
use Rattle.writer.proofs.line.put_restriction.Given as goal

abbrev pub invariant-loop-k : goal.invariant-loop-k
invariant-loop-k l = puts (sink l.initial.p l.initial.out) (restriction_text (symbol_text l.program l.job l.symbols) l.q) ≡ puts (sink l.p l.out) (restriction_text (symbol_text l.program l.job l.symbols) (drop (2 * l.k) l.q))
