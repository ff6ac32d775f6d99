use mathlib.Core.Path.{◌≡◌}
use Prim.Native.Nat.{◌-◌}
use Rattle.linking.specs.Twins.Linking.{place_of, place_from}
use Rattle.linking.proofs.names.place_of.Given as goal

abbrev pub invariant-loop-j : goal.invariant-loop-j
invariant-loop-j l =
    place_of l.marks l.nums l.names l.used l.i ≡ place_from l.marks l.nums l.names (l.n - l.j) l.j l.i
