use Rattle.walk.proofs.JobTurns.{job_on, job_none, job_over}
use Rattle.walk.proofs.job.walk_job.Goals as goal

pub returns-in-Ok : goal.returns-in-Ok
returns-in-Ok c =
    job_on _ _ _ _ _ _ _ _ c.begin.ensures c.in-Ok.is c.lay_constants-used.ensures c.with_used.ensures c.walk_begun.ensures

pub returns-in-Err-Contradiction : goal.returns-in-Err-Contradiction
returns-in-Err-Contradiction c =
    let e = c.in-Err-Contradiction in
    job_none _ _ _ _ _ _ _ _ c.begin.ensures (rw e.field-0-is at e.is) c.nothing.ensures c.stopped.ensures

pub returns-in-Err-Over : goal.returns-in-Err-Over
returns-in-Err-Over c =
    let e = c.in-Err-Over in
    job_over _ _ _ _ _ _ _ _ c.begin.ensures (rw e.field-0-is at e.is) c.nothing-in-Err-Over.ensures c.stopped-in-Err-Over.ensures
