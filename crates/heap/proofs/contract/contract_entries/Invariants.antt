use Prim.Native.Nat.{◌-◌}
use mathlib.Core.Path.{◌≡◌}
use Rattle.heap.specs.Twins.Contracted.{contracted_from, contracted_entries}
use Rattle.heap.proofs.contract.contract_entries.Given as goal

abbrev pub invariant-loop-i : goal.invariant-loop-i
invariant-loop-i l =
    contracted_entries l.first l.last l.x l.vfrom l.vto l.used l.initial.heap l.initial.frame ≡ contracted_from (l.end - l.i) l.i l.x l.vfrom l.vto l.now l.heap l.frame
