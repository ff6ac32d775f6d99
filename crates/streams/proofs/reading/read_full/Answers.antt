use Rattle.std.proofs.Common.{rules}
use Rattle.streams.proofs.Filled.{filled_on, filled_kept}
use Rattle.streams.proofs.reading.read_full.Goals as goal
use Rattle.streams.proofs.reading.read_full.Goals.{in-Ok, in-Err+else-ne}

pub loop-preserved : goal.loop-preserved
loop-preserved g c =
    let i = c.loop.invariant in
    elim c.match-read.branch [
      | in-Ok w ↦ (search rules, search rules, filled_on _ _ _ _ _ _ _ _ _ w.done-is i.1 w.in-Ok.ensures.bound.0 i.2 w.in-Ok.ensures.bytes.0)
      | in-Err+else-ne w ↦ (search rules, search rules, filled_kept _ _ _ _ _ _ _ _ w.done-is i.1 i.2 w.in-Err.ensures.bytes)
    ]
