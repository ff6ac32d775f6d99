use Rattle.atoms.specs.Twins.Taking.{taken_by}
use Rattle.atoms.proofs.take.take.Goals as goal

pub returns : goal.returns
unfolding taken_by
returns c = rw (← c.contract.ensures)
