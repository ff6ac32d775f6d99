use Prim.Native.Nat.{ℕ, ◌+◌}
use mathlib.Core.Path.{◌∙◌, ap, sym as inv}
use native.Mathlib.Omega.{arith}
use lib.ListN.{drop}
use Rattle.sets.specs.Twins.Copying.{any_cell}
use Rattle.runs.proofs.RunLaws.{met_or, stands_next, stands_done}
use Rattle.runs.proofs.run.stands.Goals as goal

pub loop-code-preserved : goal.loop-code-preserved
loop-code-preserved c =
    let a = c.args in
    c.loop-code.invariant ∙ stands_next a.x c.loop-code.code-index a.cells.now c.loop-code.n (omega arith)
    ∙ ap (λ (k : ℕ). met_or k (any_cell a.x (drop (c.loop-code.code-index + 1) a.cells.now))) (inv c.met-n.ensures)

pub returns : goal.returns
returns c =
    let a = c.args in
    inv (c.loop-code.invariant ∙ stands_done a.x c.loop-code.code-index a.cells.now c.loop-code.n (omega arith))
