use Prim.Native.Nat.{◌+◌, ◌-◌}
use mathlib.Core.Path.{◌≡◌, refl, ◌∙◌}
use native.Mathlib.Omega.{arith}
use Rattle.walk.proofs.WalkTurns.{walk_again, walk_end}
use Rattle.walk.proofs.walk.walk_on.Goals as goal

pub loop-init : goal.loop-init
loop-init c = let e : c.min-end.result + 1 - 0 ≡ c.min-end.result + 1 = omega arith in (rw e, refl)

pub shape_of-answer-in-Err : goal.shape_of-answer-in-Err
shape_of-answer-in-Err c = c.answer-1.given ∙ c.loop.invariant.1

pub returns-in-Err : goal.returns-in-Err
returns-in-Err c = rw (← c.min-end.ensures, c.loop.invariant.0, walk_again c.loop-test.true, ← c.in-Err.ensures)

pub loop-preserved : goal.loop-preserved
loop-preserved c = (rw (c.loop.invariant.0, walk_again c.loop-test.true, ← c.in-Ok.ensures), c.answer-1.given ∙ c.loop.invariant.1)

pub shape_of-answer : goal.shape_of-answer
shape_of-answer c = c.loop.invariant.1

pub returns : goal.returns
returns c = rw (← c.min-end.ensures, c.loop.invariant.0, walk_end c.loop-test.false, ← c.stopped.ensures)
