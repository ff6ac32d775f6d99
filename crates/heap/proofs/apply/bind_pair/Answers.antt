use borrow.Author.Tests.{lt-ltb, le-ltb}
use Rattle.heap.specs.Twins.Moving.{bound_pair}
use Rattle.runs.proofs.RunLaws.{pair_over, pair_made}
use Rattle.heap.proofs.apply.bind_pair.Goals as goal

-- `bind_pair` writes the pair and contracts the entries.
pub returns-in_err-end : goal.returns-in_err-end
unfolding bound_pair
returns-in_err-end c =
    let a = c.args in
    let o = pair_over a.used a.head a.tail a.heap.now _ (rw c.in_err-end.was at c.append_pair.ensures) in
    rw (lt-ltb _ _ o.0, c.from_residual.ensures, o.1)

pub returns : goal.returns
unfolding bound_pair
returns c =
    let a = c.args in
    let m = pair_made a.used a.head a.tail a.heap.now _ (rw c.in_ok-end.was at c.append_pair.ensures) in
    rw (le-ltb _ _ m.0, ← c.append_pair.ensures, ← m.1) c.contract_entries.ensures
