use Prim.Native.Nat.{◌-◌, ◌≤◌}
use mathlib.Core.Path.{◌≡◌}
use Rattle.samples.specs.Twins.Naming.{copied_from}
use Rattle.samples.proofs.names.copy_entries.Given as goal

abbrev pub invariant-loop-i : goal.invariant-loop-i
invariant-loop-i l = (l.i ≤ 2048) × (copied_from l.symbols 2048 0 l.initial.table ≡ copied_from l.symbols (2048 - l.i) l.i l.table)
