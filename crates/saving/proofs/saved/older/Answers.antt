use mathlib.Core.Path.{◌∙◌, sym as inv}
use native.Mathlib.Omega.{arith}
use Rattle.saving.proofs.OlderTurns.{begins_below, older_end, older_here, older_turn}
use Rattle.saving.proofs.saved.older.Goals as goal

pub returns-then-is_low : goal.returns-then-is_low
returns-then-is_low c =
    inv (c.loop-t.invariant ∙ older_here _ _ _ _ _ _ c.loop-t-test.true (omega arith) (inv c.is_low.ensures ∙ c.if-is_low.true))

pub loop-t-smaller : goal.loop-t-smaller
loop-t-smaller c =
    let b = c.begins_at-t.ensures in
    rw b (begins_below _ _ (omega arith))

pub loop-t-preserved : goal.loop-t-preserved
loop-t-preserved c =
    rw c.begins_at-t.ensures (c.loop-t.invariant ∙ older_turn _ _ _ _ _ c.loop-t-test.true (inv c.is_low.ensures ∙ c.if-is_low.false))

pub returns : goal.returns
returns c = inv (c.loop-t.invariant ∙ older_end _ _ _ _ _ _ c.loop-t-test.false)
