use Rattle.print.proofs.Printed.{sampled_promised}
use Rattle.print.proofs.list.print_sampled.Goals as goal

pub returns : goal.returns
returns c = sampled_promised _ _ _ _ _ _ c.print_answer.ensures
