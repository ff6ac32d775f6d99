use borrow.Author.Tests.{lt-ltb, le-ltb}
use Rattle.constants.specs.Twins.Table.{entered}
use Rattle.constants.proofs.table.enter.Goals as goal

pub returns-then-i-lt-TOKENS : goal.returns-then-i-lt-TOKENS
unfolding entered
returns-then-i-lt-TOKENS c = rw (lt-ltb _ _ c.if-i-lt-TOKENS.true, ← c.narrow.ensures, ← c.narrow-then-i-lt-TOKENS.ensures)

pub returns-else-i-lt-TOKENS : goal.returns-else-i-lt-TOKENS
unfolding entered
returns-else-i-lt-TOKENS c = rw (le-ltb _ _ c.if-i-lt-TOKENS.false)
