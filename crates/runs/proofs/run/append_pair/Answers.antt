use mathlib.Core.List.{[], ◌∷◌}
use native.Mathlib.Omega.{arith}
use Rattle.runs.proofs.RunLaws.{written_over, pair_done}
use Rattle.runs.proofs.run.append_pair.Goals as goal

-- `append_pair` stores three cells at what is used.
pub returns-then-used-gt65532 : goal.returns-then-used-gt65532
returns-then-used-gt65532 c =
    let a = c.args in
    rw (written_over a.used 3 (4 ∷ (a.head ∷ (a.tail ∷ []))) a.heap.now (omega arith))

pub returns : goal.returns
returns c =
    let a = c.args in
    pair_done a.used a.head a.tail a.heap.now (omega arith)
