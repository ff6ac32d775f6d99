use Rattle.meetings.specs.Twins.Unifying.{unify_stepped}
use Rattle.meetings.proofs.unifier.unify_step.Goals as goal

pub returns-in-Same : goal.returns-in-Same
unfolding unify_stepped
returns-in-Same c = rw (← c.in-Same.ensures)

pub returns-in-Apart : goal.returns-in-Apart
unfolding unify_stepped
returns-in-Apart c = rw (← c.in-Apart.ensures)

pub returns-in-Bind : goal.returns-in-Bind
unfolding unify_stepped
returns-in-Bind c = rw (← c.in-Bind.ensures, ← c.bind.ensures)
