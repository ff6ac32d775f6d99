use Prim.Native.Nat.{◌+◌, ◌-◌, ◌≤◌}
use mathlib.Core.Path.{◌≡◌}
use Rattle.samples.specs.Twins.Naming.{free_from}
use Rattle.samples.proofs.names.put_free.Given as goal

abbrev pub invariant-loop-n : goal.invariant-loop-n
invariant-loop-n l = (l.n ≤ 5121) × (1 ≤ l.n) × (l.at ≤ 2048 + l.n) × (free_from l.taken 5120 1 2048 l.initial.table ≡ free_from l.taken (5121 - l.n) l.n l.at l.table)
