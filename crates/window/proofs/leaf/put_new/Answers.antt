use Rattle.window.proofs.SinkLaws.{behind}
use Rattle.window.proofs.leaf.put_new.Goals as goal

pub returns : goal.returns
returns c = behind _ _ _ c.put_byte-p.ensures c.put_digits.ensures
