use Prim.Native.Nat.{◌+◌}
use Rattle.checker.proofs.check_expressions.+exp_pair.Given as goal

abbrev pub decreases-exp : goal.decreases-exp
decreases-exp l = l.room + l.room

abbrev pub decreases-pair : goal.decreases-pair
decreases-pair l = l.room + l.room + 1
