use Prim.Native.Nat.{◌+◌}
use Rattle.programs.proofs.check_terms.+consp_eqa_term.Given as goal

abbrev pub decreases-consp : goal.decreases-consp
decreases-consp l = l.reach.room + l.reach.room + 1

abbrev pub decreases-eqa : goal.decreases-eqa
decreases-eqa l = l.reach.room + l.reach.room + 1

abbrev pub decreases-term : goal.decreases-term
decreases-term l = l.reach.room + l.reach.room
