use Rattle.initial.proofs.InitialTurns.{trees_turn, trees_end, trees_less}
use Rattle.initial.proofs.trees.enter_trees.Goals as goal

pub loop-i-smaller : goal.loop-i-smaller
loop-i-smaller c = trees_less _ _ _ _ _ _ c.push_entry.ensures _ c.in_ok-k.was

pub loop-i-preserved : goal.loop-i-preserved
loop-i-preserved c = rw (c.loop-i.invariant, trees_turn _ _ _ _ _ c.loop-i-test.true, ← c.tree_end-end.ensures, ← c.push_entry.ensures, c.in_ok-k.was)

pub returns-in_err-k : goal.returns-in_err-k
returns-in_err-k c = rw (c.from_residual.ensures, c.loop-i.invariant, trees_turn _ _ _ _ _ c.loop-i-test.true, ← c.tree_end-end.ensures, ← c.push_entry.ensures, c.in_err-k.was)

pub returns : goal.returns
returns c = rw (c.loop-i.invariant, trees_end _ _ _ _ _ c.loop-i-test.false)
