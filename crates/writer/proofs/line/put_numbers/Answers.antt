use Rattle.window.proofs.SinkLaws.{behind}
use Rattle.writer.proofs.line.put_numbers.Goals as goal

pub returns : goal.returns
returns c = behind _ _ _ c.put_digits-p.ensures (behind _ _ _ c.put_byte-b.ensures c.put_digits.ensures)
