use Prim.Native.Nat.{◌-◌}
use mathlib.Core.Path.{◌≡◌}
use Rattle.compaction.specs.Twins.Compacting.{relocated_from, relocated_entries}
use Rattle.compaction.proofs.compact.relocate_entries.Given as goal

abbrev pub invariant-loop-i : goal.invariant-loop-i
invariant-loop-i l = relocated_entries l.n l.floor l.down l.used l.initial.heap l.initial.frame ≡ relocated_from (l.end - l.i) l.i l.floor l.down l.now l.heap l.frame
