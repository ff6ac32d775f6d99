use Prim.Native.Nat.{◌+◌, ◌-◌}
use mathlib.Core.Path.{ap, ◌∙◌, sym as inv}
use Rattle.constants.specs.Twins.Laying.{LaidLeft, laid_from, constants_laid}
use Rattle.constants.proofs.LayTurns.{laid_again, laid_end}
use Rattle.constants.proofs.lay.lay_constants.Goals as goal

pub loop-i-preserved : goal.loop-i-preserved
loop-i-preserved c =
    let e = c.min-end.result in
    c.loop-i.invariant ∙ laid_again c.min-limit.result e c.loop-i.i c.loop-i.s c.loop-i.code c.loop-i.heap c.loop-i-test.true
    ∙ ap (λ (w : LaidLeft). laid_from c.min-limit.result (e - (c.loop-i.i + 1)) (c.loop-i.i + 1) w.now w.code w.heap) (inv c.lay_one-s.ensures)

pub returns : goal.returns
unfolding constants_laid
returns c =
    rw (← c.min-end.ensures, ← c.min.ensures, ← c.min-limit.ensures, c.loop-i.invariant ∙ laid_end c.min-limit.result c.min-end.result c.loop-i.i c.loop-i.s c.loop-i.code c.loop-i.heap c.loop-i-test.false)
