use mathlib.Core.Path.{◌≡◌}
use lib.ListN.{drop}
use Rattle.sets.specs.Twins.Copying.{any_cell}
use Rattle.runs.proofs.RunLaws.{met_or}
use Rattle.runs.proofs.run.stands.Given as goal

abbrev pub invariant-loop-code : goal.invariant-loop-code
invariant-loop-code l = any_cell l.x l.cells ≡ met_or l.n (any_cell l.x (drop l.code-index l.cells))
