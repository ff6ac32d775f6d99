use mathlib.Core.Path.{◌≡◌}
use Prim.Native.Nat.{◌-◌}
use lib.ListN.{length}
use Rattle.syntax.specs.Twins.Heads.{heads_from}
use Rattle.syntax.proofs.heads.store.Given as goal

abbrev pub invariant-loop-j : goal.invariant-loop-j
invariant-loop-j l = (heads_from l.from l.count 0 l.initial.heads ≡ heads_from l.from (l.count - l.j) l.j l.heads) × (length l.heads ≡ length l.initial.heads)
