use mathlib.Core.Path.{◌≡◌}
use mathlib.Core.List.{◌++◌}
use lib.ListN.{drop}
use Rattle.telling.specs.Numbers.{padded}
use Rattle.telling.proofs.numbers.write_numbers.Given as goal

abbrev pub invariant-loop-i : goal.invariant-loop-i
invariant-loop-i l = l.said ≡ padded l.numbers l.i ++ drop l.i l.initial.said
