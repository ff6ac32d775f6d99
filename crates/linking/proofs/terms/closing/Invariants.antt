use mathlib.Core.Path.{◌≡◌}
use Prim.Native.Nat.{◌-◌, ◌≤◌, max}
use Rattle.linking.specs.Twins.Linking.{closing_from}
use Rattle.linking.proofs.terms.closing.Given as goal

abbrev pub invariant-loop-q : goal.invariant-loop-q
invariant-loop-q l =
    (l.q ≤ max l.p l.n) × (closing_from l.marks (l.n - l.p) l.p ≡ closing_from l.marks (l.n - l.q) l.q)
