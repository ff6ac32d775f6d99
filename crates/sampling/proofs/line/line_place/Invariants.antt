use Prim.Native.Nat.{◌-◌}
use mathlib.Core.Path.{◌≡◌}
use lib.ListN.{drop}
use Rattle.sampling.specs.Twins.Lines.{behind_lines}
use Rattle.sampling.proofs.line.line_place.Given as goal

abbrev pub invariant-loop : goal.invariant-loop
invariant-loop l = behind_lines l.before l.answer ≡ behind_lines (l.before - l.counter) (drop l.at l.answer)
