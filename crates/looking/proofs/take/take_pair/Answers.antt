use Rattle.looking.specs.Twins.Taking.{pair_taken}
use Rattle.looking.proofs.take.take_pair.Goals as goal

pub returns : goal.returns
unfolding pair_taken
returns c = rw (← c.link_at.ensures, ← c.from-place.ensures, ← c.bind_parts-p.ensures, ← c.placed_with.ensures)
