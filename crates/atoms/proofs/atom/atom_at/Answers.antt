use native.Mathlib.Omega.{arith}
use borrow.Author.Tests.{ne_eqb}
use Rattle.atoms.specs.Twins.Atoms.{atom_at}
use Rattle.atoms.proofs.atom.atom_at.Goals as goal

pub returns-in-1 : goal.returns-in-1
unfolding atom_at
returns-in-1 c = rw (← c.link_at-l.ensures, c.in-1.is)

pub returns-in-2 : goal.returns-in-2
unfolding atom_at
returns-in-2 c = rw (← c.link_at-l.ensures, c.in-2.is, ← c.min.ensures, ← c.from.ensures, ← c.first_cell.ensures)

pub returns-in_default : goal.returns-in_default
unfolding atom_at
returns-in_default c =
    let m = c.link_at-l.result.mark in
    rw (← c.link_at-l.ensures, ne_eqb m 1 (λ e. omega arith), ne_eqb m 2 (λ e. omega arith))
