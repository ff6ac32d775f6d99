use Rattle.std.proofs.Common.{rules}
use Rattle.pages.proofs.Taken.{taken_rest}
use Rattle.pages.proofs.output.write_bytes.Goals as goal

pub loop-done-preserved : goal.loop-done-preserved
loop-done-preserved g c = (search rules, taken_rest _ _ _ _ _ _ c.loop-done.invariant.1 c.in-Ok.ensures.taken)
