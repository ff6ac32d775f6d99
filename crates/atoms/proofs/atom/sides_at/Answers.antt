use Rattle.atoms.specs.Twins.Atoms.{sides_at}
use Rattle.atoms.proofs.atom.sides_at.Goals as goal

pub returns : goal.returns
unfolding sides_at
returns c = rw (← c.names_from-base.ensures, ← c.min-i.ensures, ← c.link_at.ensures, ← c.from-past.ensures, ← c.atom_at-left.ensures, ← c.atom_at-right.ensures)
