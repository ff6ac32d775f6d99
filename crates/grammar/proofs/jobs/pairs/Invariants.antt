use mathlib.Core.Path.{◌≡◌}
use Prim.Native.Nat.{◌-◌}
use Rattle.grammar.specs.Twins.Stored.{pairs_at}
use Rattle.grammar.proofs.jobs.pairs.Given as goal

abbrev pub invariant-loop : goal.invariant-loop
invariant-loop l =
    pairs_at l.marks l.ats (4097 - l.start) l.start ≡ pairs_at l.marks l.ats (l.end - l.counter) l.at
