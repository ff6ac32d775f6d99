use Prim.Native.Nat.{◌+◌, ◌≤◌}
use mathlib.Core.Path.{◌≡◌}
use lib.ListN.{drop}
use Rattle.runs.specs.Twins.Runs.{count_in, any_variable}
use Rattle.runs.proofs.RunLaws.{met_or}
use Rattle.runs.proofs.run.look_through.Given as goal

abbrev pub invariant-loop-code : goal.invariant-loop-code
invariant-loop-code l = (l.n ≤ l.code-index) × (l.n + count_in l.x (drop l.code-index l.cells) ≡ count_in l.x l.cells) × (any_variable l.cells ≡ met_or l.v (any_variable (drop l.code-index l.cells)))
