use Prim.Native.Nat.{◌+◌, ◌-◌, ◌≤◌}
use mathlib.Core.Path.{◌≡◌}
use lib.ListN.{length}
use lib.Seq.{sets}
use Rattle.constants.specs.Twins.Laying.{cells_of}
use Rattle.constants.proofs.lay.lay.Given as goal

abbrev pub invariant-loop-j : goal.invariant-loop-j
invariant-loop-j l =
    (l.n + (l.to - l.j) ≤ 65535) × (l.n + length (cells_of l.code (l.to - l.j) l.j) ≡ l.k + length (cells_of l.code (l.to - l.i) l.i)) × (sets l.initial.heap l.k (cells_of l.code (l.to - l.i) l.i) ≡ sets l.heap l.n (cells_of l.code (l.to - l.j) l.j))
