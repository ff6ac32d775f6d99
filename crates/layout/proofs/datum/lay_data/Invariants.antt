use mathlib.Core.Path.{◌≡◌}
use Prim.Native.Nat.{◌-◌}
use lib.ListN.{length}
use Rattle.layout.specs.Twins.Data.{data_written}
use Rattle.layout.proofs.datum.lay_data.Given as goal

abbrev pub invariant-loop-i : goal.invariant-loop-i
invariant-loop-i l =
    (data_written l.jmarks l.jnums (l.to - l.from) l.from l.at l.initial.heap ≡ data_written l.jmarks l.jnums (l.to - l.i) l.i l.k l.heap) × (length l.heap ≡ length l.initial.heap)
