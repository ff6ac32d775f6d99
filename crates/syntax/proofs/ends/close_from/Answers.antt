use mathlib.Core.Path.{sym, ◌∙◌}
use native.Mathlib.Omega.{arith}
use borrow.Author.Tests.{leb-true, leb-false}
use Rattle.checker.specs.Twins.StoredAt.{key_at}
use Rattle.syntax.proofs.PartOpenings.{close_deeper, close_word, close_last, close_higher}
use Rattle.syntax.proofs.ends.close_from.Goals as goal
use Rattle.syntax.proofs.ends.close_from.Goals.{then-is_open, else-is_open+then-is_close+else-is_outermost, else-is_open+else-is_close}

pub loop-i-preserved : goal.loop-i-preserved
loop-i-preserved c = elim c.if-is_open.branch [
  | then-is_open w ↦
      rw w.depth-is (c.loop-i.invariant.0 ∙ close_deeper (key_at c.args.marks.now c.args.n) c.args.n c.loop-i.depth c.loop-i.i c.loop-i-test.true (sym c.is_open.ensures ∙ w.if-is_open.true), omega arith, omega arith)
  | else-is_open+then-is_close+else-is_outermost w ↦
      rw w.depth-is (c.loop-i.invariant.0 ∙ close_higher (key_at c.args.marks.now c.args.n) c.args.n c.loop-i.depth c.loop-i.i c.loop-i-test.true (sym c.is_open.ensures ∙ w.if-is_open.false) (sym w.is_close.ensures ∙ w.if-is_close.true) (leb-false _ _ (sym w.is_outermost.ensures ∙ w.if-is_outermost.false)), omega arith, omega arith)
  | else-is_open+else-is_close w ↦
      rw w.depth-is (c.loop-i.invariant.0 ∙ close_word (key_at c.args.marks.now c.args.n) c.args.n c.loop-i.depth c.loop-i.i c.loop-i-test.true (sym c.is_open.ensures ∙ w.if-is_open.false) (sym w.is_close.ensures ∙ w.if-is_close.false), omega arith, omega arith)
]

pub returns-then-is_outermost : goal.returns-then-is_outermost
returns-then-is_outermost c = sym (c.loop-i.invariant.0 ∙ close_last (key_at c.args.marks.now c.args.n) c.args.n c.loop-i.depth c.loop-i.i c.loop-i-test.true (sym c.is_open.ensures ∙ c.if-is_open.false) (sym c.is_close.ensures ∙ c.if-is_close.true) (leb-true _ _ (sym c.is_outermost.ensures ∙ c.if-is_outermost.true)))
