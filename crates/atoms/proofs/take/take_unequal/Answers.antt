use Rattle.atoms.specs.Twins.Taking.{unequal_taken}
use Rattle.atoms.proofs.take.take_unequal.Goals as goal

pub returns : goal.returns
unfolding unequal_taken
returns c = rw (← c.link_at.ensures, ← c.from-place.ensures, ← c.take.ensures)
