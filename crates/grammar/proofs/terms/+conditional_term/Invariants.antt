use Prim.Native.Nat.{◌+◌}
use Rattle.grammar.proofs.terms.+conditional_term.Given as goal

abbrev pub decreases-conditional : goal.decreases-conditional
decreases-conditional l = l.room + l.room + 1

abbrev pub decreases-term : goal.decreases-term
decreases-term l = l.room + l.room
