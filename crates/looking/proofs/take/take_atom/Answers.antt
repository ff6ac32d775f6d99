use Rattle.looking.specs.Twins.Taking.{atom_taken}
use Rattle.looking.proofs.take.take_atom.Goals as goal

pub returns : goal.returns
unfolding atom_taken
returns c = rw (← c.link_at.ensures, ← c.from-place.ensures, ← c.push_entry-p.ensures, ← c.placed_with.ensures)
