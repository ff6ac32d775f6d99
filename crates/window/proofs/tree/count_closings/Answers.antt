use Prim.Native.Nat.{ℕ, ◌+◌, ◌-◌}
use mathlib.Core.Path.{◌≡◌, ap, ◌∙◌, sym}
use native.Mathlib.Omega.{arith}
use Rattle.window.specs.Twins.TreeText.{closings}
use Rattle.window.proofs.TreeTurns.{closings_end, closings_leaf, closings_waits, closings_ends, closings_joins}
use Rattle.window.proofs.tree.count_closings.Goals as goal

pub loop-k-init : goal.loop-k-init
loop-k-init c =
    let e : c.args.to ≡ c.args.to - 0 = omega arith in
    (omega arith, omega arith, omega (arith, ap (λ (k : ℕ). closings c.args.cells.now k 0) e))

pub loop-k-preserved-then-cell-ne-PAIR : goal.loop-k-preserved-then-cell-ne-PAIR
loop-k-preserved-then-cell-ne-PAIR c =
    let s = c.args.cells.now in
    (omega arith, omega arith, c.loop-k.invariant.2 ∙ ap (λ (k : ℕ). c.loop-k.n + k) (closings_leaf s (c.args.to - c.loop-k.k) (c.args.to - (c.loop-k.k + 1)) c.loop-k.trees (omega (arith, c.loop-k-test.true)) (λ e. c.if-cell-ne-PAIR.true (c.cell.ensures ∙ e))))

pub returns-then-trees-lt2 : goal.returns-then-trees-lt2
returns-then-trees-lt2 c =
    let s = c.args.cells.now in
    omega (arith, c.loop-k.invariant.2, closings_waits s (c.args.to - c.loop-k.k) (c.args.to - (c.loop-k.k + 1)) c.loop-k.trees (omega (arith, c.loop-k-test.true)) (sym c.cell.ensures ∙ c.if-cell-ne-PAIR.false) c.if-trees-lt2.true)

pub loop-k-preserved-then-trees-eq1 : goal.loop-k-preserved-then-trees-eq1
loop-k-preserved-then-trees-eq1 c =
    let s = c.args.cells.now in
    (omega arith, omega arith, omega (arith, c.loop-k.invariant.2, closings_ends s (c.args.to - c.loop-k.k) (c.args.to - (c.loop-k.k + 1)) c.loop-k.trees (omega (arith, c.loop-k-test.true)) (sym c.cell.ensures ∙ c.if-cell-ne-PAIR.false) c.if-trees-lt2.false c.if-trees-eq1.true))

pub loop-k-preserved : goal.loop-k-preserved
loop-k-preserved c =
    let s = c.args.cells.now in
    (omega arith, omega arith, omega (arith, c.loop-k.invariant.2, closings_joins s (c.args.to - c.loop-k.k) (c.args.to - (c.loop-k.k + 1)) c.loop-k.trees (omega (arith, c.loop-k-test.true)) (sym c.cell.ensures ∙ c.if-cell-ne-PAIR.false) c.if-trees-lt2.false c.if-trees-eq1.false))

pub returns : goal.returns
returns c =
    omega (arith, c.loop-k.invariant.2, closings_end c.args.cells.now (c.args.to - c.loop-k.k) c.loop-k.trees (omega (arith, c.loop-k-test.false)))
