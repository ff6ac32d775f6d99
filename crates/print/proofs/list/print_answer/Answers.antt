use Rattle.print.proofs.list.print_answer.Goals as goal

pub returns-in-Ok : goal.returns-in-Ok
returns-in-Ok c = rw (← c.heading_of.ensures, c.in-Ok.is) c.print_named.ensures

pub returns-in-Err : goal.returns-in-Err
returns-in-Err c = rw (← c.heading_of.ensures, c.in-Err.is) c.print_refusal.ensures
