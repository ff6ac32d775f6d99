use mathlib.Core.Path.{◌≡◌}
use Prim.Native.Nat.{◌-◌}
use Rattle.grammar.specs.Twins.Stored.{trees_at}
use Rattle.grammar.proofs.terms.trees.Given as goal

abbrev pub invariant-loop : goal.invariant-loop
invariant-loop l =
    trees_at l.marks l.ats l.close l.evar l.avar l.room (4097 - l.start) l.start ≡ trees_at l.marks l.ats l.close l.evar l.avar l.room (l.end - l.counter) l.at
