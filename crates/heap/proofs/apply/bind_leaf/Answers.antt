use Rattle.std.proofs.lemmas.Result.{err_from_is_err_and}
use Rattle.heap.specs.Twins.Moving.{leaf_bound}
use Rattle.heap.proofs.apply.bind_leaf.Goals as goal

pub returns-in_err-neqs : goal.returns-in_err-neqs
unfolding leaf_bound
returns-in_err-neqs c =
    let e = err_from_is_err_and c.from_residual.result c.from_residual.ensures.1 in
    rw (← c.bind_restriction.ensures, c.in_err-neqs.was, e.1, e.2)

pub returns : goal.returns
unfolding leaf_bound
returns c =
    rw (← c.bind_restriction.ensures, c.in_ok-neqs.was, ← c.bind_cell-w.ensures, ← c.grown.ensures)
