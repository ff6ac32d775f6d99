use native.Mathlib.Omega.{arith}
use borrow.Author.Tests.{ne_eqb}
use Rattle.linking.proofs.LinkTurns.{closing_turn}
use Rattle.linking.proofs.terms.closing.Goals as goal

pub loop-q-preserved : goal.loop-q-preserved
loop-q-preserved c = (omega arith, rw (c.loop-q.invariant.1, closing_turn c.loop-q-test.true, ← c.key.ensures, ne_eqb _ _ c.if-key-eq-CLOSE_LIST.false))
