use Prim.Native.Nat.{◌-◌}
use mathlib.Core.Path.{◌≡◌}
use native.Mathlib.Omega.{arith}
use Rattle.replay.proofs.FollowTurns.{follow_turn, follow_end}
use Rattle.replay.proofs.replay.follow.Goals as goal

pub loop-init : goal.loop-init
loop-init c = let e : c.args.b.steps - 0 ≡ c.args.b.steps = omega arith in rw e

pub returns-then-is_there : goal.returns-then-is_there
returns-then-is_there c =
    rw (c.loop.invariant, follow_turn c.loop-test.true, ← c.is_there.ensures, c.if-is_there.true)

pub loop-preserved : goal.loop-preserved
loop-preserved c =
    rw (c.loop.invariant, follow_turn c.loop-test.true, ← c.is_there.ensures, c.if-is_there.false, ← c.follow_step-p.ensures)

pub returns : goal.returns
returns c = rw (c.loop.invariant, follow_end c.loop-test.false)
