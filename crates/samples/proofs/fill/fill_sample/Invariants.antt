use Prim.Native.Nat.{◌-◌, ◌≤◌, min}
use mathlib.Core.Path.{◌≡◌}
use Rattle.samples.specs.Twins.Filling.{sampled_from}
use Rattle.samples.proofs.fill.fill_sample.Given as goal

abbrev pub invariant-loop-i : goal.invariant-loop-i
invariant-loop-i l = (l.end ≡ min l.n 4096) × (l.i ≤ l.end) × (l.k ≤ l.i) × (sampled_from l.end l.end 0 0 l.initial.cells ≡ sampled_from l.end (l.end - l.i) l.i l.k l.cells)
