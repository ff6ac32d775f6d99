use mathlib.Core.Path.{◌∙◌, sym as inv}
use native.Mathlib.Omega.{arith}
use Rattle.runs.proofs.RunLaws.{ahead_none, passes, first_here, first_later, first_none}
use Rattle.runs.proofs.run.find.Goals as goal

pub loop-i-init : goal.loop-i-init
loop-i-init c = (omega arith, ahead_none _)

pub loop-i-preserved : goal.loop-i-preserved
loop-i-preserved c =
    let p = passes 64 c.args.x c.loop-i.i c.args.cells.now c.loop-i.invariant.0 (inv c.lacks_next.ensures ∙ c.loop-i-test.true) in
    (p.0, c.loop-i.invariant.1 ∙ p.1)

pub loop-i-2-preserved : goal.loop-i-2-preserved
loop-i-2-preserved c =
    let p = passes 8 c.args.x c.loop-i-2.i c.args.cells.now c.loop-i-2.invariant.0 (inv c.lacks_next-in-loop-i-2.ensures ∙ c.loop-i-2-test.true) in
    (p.0, c.loop-i-2.invariant.1 ∙ p.1)

pub returns-then-cells-j : goal.returns-then-cells-j
returns-then-cells-j c = inv (c.loop-j.invariant ∙ first_here c.args.x c.loop-j.j c.args.cells.now (omega arith) c.if-cells-j.true)

pub loop-j-preserved : goal.loop-j-preserved
loop-j-preserved c = c.loop-j.invariant ∙ first_later c.args.x c.loop-j.j c.args.cells.now (omega arith) c.if-cells-j.false

pub returns : goal.returns
returns c = inv (c.loop-j.invariant ∙ first_none c.args.x c.loop-j.j c.args.cells.now (omega arith))
