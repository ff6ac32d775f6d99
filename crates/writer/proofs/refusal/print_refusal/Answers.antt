use Rattle.window.proofs.SinkLaws.{printed}
use Rattle.writer.proofs.refusal.print_refusal.Goals as goal

pub returns : goal.returns
returns c = printed _ _ _ _ _ _ _ _ c.opened-start.ensures c.clear.ensures c.put_refusal-p.ensures c.written.ensures
