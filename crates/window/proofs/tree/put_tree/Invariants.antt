use mathlib.Core.Path.{◌≡◌}
use Prim.Native.Nat.{◌-◌}
use lib.ListN.{length}
use Rattle.window.specs.Twins.Sink.{sink, puts}
use Rattle.window.specs.Twins.TreeText.{symbol_text, tree_from, tree_text}
use Rattle.window.proofs.tree.put_tree.Given as goal

abbrev pub invariant-loop-i : goal.invariant-loop-i
invariant-loop-i l = (length l.out ≡ length l.initial.out) × (puts (sink l.initial.p l.initial.out) (tree_text (symbol_text l.program l.job l.symbols) l.cells) ≡ puts (sink l.p l.out) (tree_from (symbol_text l.program l.job l.symbols) l.cells (length l.cells - l.i) l.i))
