use Rattle.initial.specs.Twins.Beginning.{job_entered}
use Rattle.initial.proofs.begin.enter_job.Goals as goal

pub returns : goal.returns
unfolding job_entered
returns c =
    rw (← c.enter_trees.ensures, c.in_ok-inputs.was, ← c.push_entry.ensures, c.in_ok-n.was, ← c.enter_trees-2.ensures, c.in_ok-entries.was)

pub returns-in_err-inputs : goal.returns-in_err-inputs
unfolding job_entered
returns-in_err-inputs c = rw (c.from_residual.ensures, ← c.enter_trees.ensures, c.in_err-inputs.was)

pub returns-in_err-n : goal.returns-in_err-n
unfolding job_entered
returns-in_err-n c = rw (c.from_residual-in_err-n.ensures, ← c.enter_trees.ensures, c.in_ok-inputs.was, ← c.push_entry.ensures, c.in_err-n.was)

pub returns-in_err-entries : goal.returns-in_err-entries
unfolding job_entered
returns-in_err-entries c =
    rw (c.from_residual-in_err-entries.ensures, ← c.enter_trees.ensures, c.in_ok-inputs.was, ← c.push_entry.ensures, c.in_ok-n.was, ← c.enter_trees-2.ensures, c.in_err-entries.was)
