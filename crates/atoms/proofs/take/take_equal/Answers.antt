use Rattle.atoms.specs.Twins.Taking.{equal_taken}
use Rattle.atoms.proofs.take.take_equal.Goals as goal

pub returns : goal.returns
unfolding equal_taken
returns c = rw (← c.link_at.ensures, ← c.from-place.ensures, ← c.equality_contraction-k.ensures, ← c.take.ensures)
