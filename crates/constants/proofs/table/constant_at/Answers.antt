use borrow.Author.Tests.{lt-ltb, le-ltb}
use Rattle.constants.specs.Twins.Table.{constant_at}
use Rattle.constants.proofs.table.constant_at.Goals as goal

pub returns-then-i-lt-TOKENS : goal.returns-then-i-lt-TOKENS
unfolding constant_at
returns-then-i-lt-TOKENS c = rw (lt-ltb _ _ c.if-i-lt-TOKENS.true, ← c.from-then-i-lt-TOKENS.ensures, ← c.from.ensures)

pub returns : goal.returns
unfolding constant_at
returns c = rw (le-ltb _ _ c.if-i-lt-TOKENS.false)
