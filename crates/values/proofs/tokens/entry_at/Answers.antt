use borrow.Author.Tests.{lt-ltb, le-ltb}
use Rattle.values.specs.Twins.Values.{entry_at}
use Rattle.values.proofs.tokens.entry_at.Goals as goal

pub returns-then-i-lt4120 : goal.returns-then-i-lt4120
unfolding entry_at
returns-then-i-lt4120 c = rw (lt-ltb _ _ c.if-i-lt4120.true, c.from.ensures, c.from-then-i-lt4120.ensures)

pub returns : goal.returns
unfolding entry_at
returns c = rw (le-ltb _ _ c.if-i-lt4120.false)
