use Rattle.checker.specs.Twins.CheckAt.{program_at}
use Rattle.programs.proofs.check_program.check_program.Goals as goal

pub returns : goal.returns
unfolding program_at
returns c =
    rw (c.in_order.ensures, c.bodies-found.ensures, c.definitions-ds.ensures)
