use Prim.Native.Nat.{◌-◌, ◌≤◌, ◌/◌}
use mathlib.Core.Path.{◌≡◌}
use lib.ListN.{length}
use Rattle.samples.specs.Twins.Naming.{marked_from}
use Rattle.samples.proofs.names.mark_taken.Given as goal

abbrev pub invariant-loop-k : goal.invariant-loop-k
invariant-loop-k l = (l.count ≡ length l.symbols / 2) × (l.k ≤ l.count) × (marked_from l.program l.job l.symbols l.count 0 l.initial.taken ≡ marked_from l.program l.job l.symbols (l.count - l.k) l.k l.taken)
