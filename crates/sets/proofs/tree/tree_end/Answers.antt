use native.Mathlib.Omega.{arith}
use lib.ListN.{drop}
use Rattle.sets.specs.Twins.Copying.{tree_end}
use Rattle.sets.proofs.Turns.{walk_none, walk_end, walk_pair, walk_leaf, walk_four}
use Rattle.sets.proofs.tree.tree_end.Goals as goal
use Rattle.sets.proofs.tree.tree_end.Goals.{then-s-i-eq-PAIR, else-s-i-eq-PAIR}

pub returns-then-need-eq0 : goal.returns-then-need-eq0
unfolding tree_end
returns-then-need-eq0 c =
    omega (arith, walk_none (drop c.loop-i.i c.args.s.now) c.loop-i.need c.if-need-eq0.true)

pub loop-i-preserved-then-n-gt0 : goal.loop-i-preserved-then-n-gt0
loop-i-preserved-then-n-gt0 c =
    let s = c.args.s.now in
    let w = walk_four s c.loop-i.i c.loop-i.need _ c.behind_four-n.ensures c.if-n-gt0.true in
    (omega (arith, w.1), omega (arith, w.2))

pub loop-i-preserved : goal.loop-i-preserved
loop-i-preserved c =
    let s = c.args.s.now in
    let in-s = c.loop-i-test.true in
    let some = c.if-need-eq0.false in
    elim c.if-s-i-eq-PAIR.branch [
      | then-s-i-eq-PAIR w ↦ (omega arith, omega (arith, walk_pair s c.loop-i.i in-s c.loop-i.need c.if-s-i-eq-PAIR.need some w.if-s-i-eq-PAIR.true w.need-is))
      | else-s-i-eq-PAIR w ↦ (omega arith, omega (arith, walk_leaf s c.loop-i.i in-s c.loop-i.need c.if-s-i-eq-PAIR.need some w.if-s-i-eq-PAIR.false w.need-is))
    ]

pub returns : goal.returns
unfolding tree_end
returns c = omega (arith, walk_end c.args.s.now c.loop-i.i c.loop-i.need c.loop-i-test.false)
