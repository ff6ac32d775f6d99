use borrow.Author.Tests.{lt-ltb, le-ltb}
use Rattle.pairs.specs.Twins.Splitting.{atom_made}
use Rattle.pairs.proofs.split.make_atom.Goals as goal

pub returns-then-used-gt65534 : goal.returns-then-used-gt65534
unfolding atom_made
returns-then-used-gt65534 c = rw (lt-ltb _ _ c.if-used-gt65534.true)

pub returns : goal.returns
unfolding atom_made
returns c = rw (le-ltb _ _ c.if-used-gt65534.false, ← c.link_at.ensures, ← c.from-place.ensures, ← c.push_entry-p.ensures) c.bound_contracted.ensures
