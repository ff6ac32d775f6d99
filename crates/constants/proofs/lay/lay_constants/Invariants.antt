use Prim.Native.Nat.{◌-◌}
use mathlib.Core.Path.{◌≡◌}
use Rattle.constants.specs.Twins.Laying.{laid_from}
use Rattle.constants.proofs.lay.lay_constants.Given as goal

abbrev pub invariant-loop-i : goal.invariant-loop-i
invariant-loop-i l = laid_from l.limit l.end 0 (record { used = l.used; skip = 0 }) l.initial.code l.initial.heap ≡ laid_from l.limit (l.end - l.i) l.i l.s l.code l.heap
