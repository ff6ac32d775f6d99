use Rattle.print.proofs.ListTurns.{same_text, refused_text}
use Rattle.print.proofs.Printed.{run_promised}
use Rattle.print.proofs.ran.print_run.Goals as goal

pub returns-in-Ok : goal.returns-in-Ok
returns-in-Ok c = run_promised _ _ _ _ _ _ (rw c.in-Ok.is c.print_named.ensures)

pub returns-in-Err : goal.returns-in-Err
returns-in-Err c = run_promised _ _ _ _ _ _ (rw c.in-Err.is (same_text _ _ (refused_text _ c.letter.ensures c.number.ensures c.offset.ensures) c.print_refusal.ensures))
