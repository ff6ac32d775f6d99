use Rattle.job_checker.proofs.check_job.+datum.Given as goal

abbrev pub decreases-datum : goal.decreases-datum
decreases-datum l = l.room
