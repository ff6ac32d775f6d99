use mathlib.Core.Path.{◌∙◌, sym}
use native.Mathlib.Omega.{arith}
use Rattle.sets.proofs.Turns.{any_here, any_later, any_none}
use Rattle.sets.proofs.tree.stands_in.Goals as goal

pub returns-then-s-i : goal.returns-then-s-i
returns-then-s-i c =
    let a = c.args in
    sym (c.loop-i.invariant.1 ∙ any_here a.s.now c.loop-i.i a.to a.x (omega arith) c.if-s-i.true)

pub loop-i-preserved : goal.loop-i-preserved
loop-i-preserved c =
    let a = c.args in
    (c.loop-i.invariant.0, c.loop-i.invariant.1 ∙ any_later a.s.now c.loop-i.i a.to a.x (omega arith) c.if-s-i.false)

pub returns : goal.returns
returns c =
    let a = c.args in
    sym (c.loop-i.invariant.1 ∙ any_none a.s.now c.loop-i.i a.to a.x (omega arith))
