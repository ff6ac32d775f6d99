use Rattle.meetings.specs.Twins.Unifying.{unify_turned}
use Rattle.meetings.proofs.unifier.unify_turn.Goals as goal

pub returns : goal.returns
unfolding unify_turned
returns c = rw (← c.make_room-roomy.ensures, ← c.unify_step.ensures)
