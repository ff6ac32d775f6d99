use mathlib.Core.Path.{◌≡◌}
use Prim.Native.Nat.{◌-◌}
use lib.ListN.{length}
use Rattle.checker.specs.Twins.StoredAt.{key_at}
use Rattle.syntax.specs.Twins.Ends.{ends_from}
use Rattle.syntax.proofs.ends.mark_ends.Given as goal

abbrev pub invariant-loop-i : goal.invariant-loop-i
invariant-loop-i l = (ends_from (key_at l.marks l.n) l.n l.n 0 l.initial.ends ≡ ends_from (key_at l.marks l.n) l.n (l.n - l.i) l.i l.ends) × (length l.ends ≡ length l.initial.ends)
