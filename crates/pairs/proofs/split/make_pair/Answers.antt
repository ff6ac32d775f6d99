use borrow.Author.Tests.{lt-ltb, le-ltb}
use Rattle.pairs.specs.Twins.Splitting.{pair_made}
use Rattle.pairs.proofs.split.make_pair.Goals as goal

pub returns-then-used-gt65532 : goal.returns-then-used-gt65532
unfolding pair_made
returns-then-used-gt65532 c = rw (lt-ltb _ _ c.if-used-gt65532.true)

pub returns : goal.returns
unfolding pair_made
returns c = rw (le-ltb _ _ c.if-used-gt65532.false, ← c.link_at.ensures, ← c.from-place.ensures, ← c.append_pair.ensures, ← c.bind_parts-p.ensures) c.bound_contracted.ensures
