use Rattle.print.proofs.Printed.{list_promised}
use Rattle.print.proofs.list.print_list.Goals as goal

pub returns : goal.returns
returns c = list_promised _ _ _ _ _ _ c.print_answer.ensures
