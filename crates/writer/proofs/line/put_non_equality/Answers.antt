use Rattle.window.proofs.SinkLaws.{behind}
use Rattle.writer.specs.Twins.LineText.{non_equality_text}
use Rattle.writer.proofs.line.put_non_equality.Goals as goal

pub returns : goal.returns
unfolding non_equality_text
returns c = behind _ _ _ (behind _ _ _ c.put_text-p.ensures c.put_leaf-l.ensures) (behind _ _ _ c.put_byte-b.ensures c.put_leaf.ensures)
