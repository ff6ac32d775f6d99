use native.Mathlib.Omega.{arith}
use Rattle.runs.proofs.RunLaws.{count_fits, size_by_count, product_least}
use Rattle.runs.proofs.run.filled_size.Goals as goal

-- `filled_size`: each x is so many cells.
pub overflow_sub-result : goal.overflow_sub-result
overflow_sub-result c =
    let a = c.args in
    let l = count_fits a.x a.size a.cells.now a.n c.requires.1 in
    omega (arith, l, product_least a.n a.size (omega arith))

pub returns : goal.returns
returns c =
    let a = c.args in
    rw c.from-k.ensures (size_by_count a.x a.size a.cells.now a.n c.requires.1)
