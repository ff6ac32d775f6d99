use mathlib.Core.Path.{◌≡◌}
use Prim.Native.Nat.{◌-◌}
use Rattle.grammar.specs.Twins.Stored.{parameters_at}
use Rattle.grammar.proofs.definitions.parameters.Given as goal

abbrev pub invariant-loop : goal.invariant-loop
invariant-loop l =
    parameters_at l.marks l.ats 16 l.start ≡ parameters_at l.marks l.ats (l.end - l.counter) l.at
