use mathlib.Core.Path.{◌≡◌}
use Prim.Native.Nat.{◌-◌}
use Rattle.linking.specs.Twins.Linking.{head_of, head_from}
use Rattle.linking.proofs.terms.head_of.Given as goal

abbrev pub invariant-loop-j : goal.invariant-loop-j
invariant-loop-j l =
    head_of l.nums l.heads l.count l.name ≡ head_from l.nums l.heads (l.n - l.j) l.j l.name
