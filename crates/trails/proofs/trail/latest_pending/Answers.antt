use Prim.Native.Nat.{◌+◌, ◌-◌}
use mathlib.Core.Path.{◌≡◌, ◌∙◌, sym}
use native.Mathlib.Omega.{arith}
use Rattle.trails.specs.Twins.TrailCells.{latest_pending}
use Rattle.trails.proofs.TrailLaws.{pending_here, pending_later}
use Rattle.trails.proofs.trail.latest_pending.Goals as goal

pub returns-then-pending_at : goal.returns-then-pending_at
returns-then-pending_at c =
    let e : c.loop-i.i ≡ c.loop-i.i - 1 + 1 = omega arith in
    sym (c.loop-i.invariant ∙ pending_here c.args.path.now c.loop-i.i (c.loop-i.i - 1) (omega arith) (sym c.pending_at.ensures ∙ c.if-pending_at.true) ∙ e)

pub loop-i-preserved : goal.loop-i-preserved
loop-i-preserved c =
    c.loop-i.invariant ∙ pending_later c.args.path.now c.loop-i.i (c.loop-i.i - 1) (omega arith) (sym c.pending_at.ensures ∙ c.if-pending_at.false)

pub returns : goal.returns
unfolding latest_pending
returns c = let z : c.loop-i.i ≡ 0 = omega arith in sym (rw z at c.loop-i.invariant)
