use Prim.Native.Nat.{◌+◌}
use Rattle.linking.proofs.terms.+link_if_link_term.Given as goal

abbrev pub decreases-link_if : goal.decreases-link_if
decreases-link_if l = l.reach.room + l.reach.room + 1

abbrev pub decreases-link_term : goal.decreases-link_term
decreases-link_term l = l.reach.room + l.reach.room
