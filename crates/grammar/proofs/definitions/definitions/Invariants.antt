use mathlib.Core.Path.{◌≡◌}
use Prim.Native.Nat.{◌-◌}
use Rattle.grammar.specs.Twins.Stored.{definitions_at}
use Rattle.grammar.proofs.definitions.definitions.Given as goal

abbrev pub invariant-loop : goal.invariant-loop
invariant-loop l =
    definitions_at l.marks l.ats 63 l.start ≡ definitions_at l.marks l.ats (l.end - l.counter) l.at
