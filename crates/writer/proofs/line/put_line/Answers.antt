use Rattle.window.proofs.SinkLaws.{behind}
use Rattle.writer.specs.Twins.LineText.{line_text}
use Rattle.writer.proofs.line.put_line.Goals as goal

pub returns : goal.returns
unfolding line_text
returns c =
    rw (← c.cell.ensures, ← c.from.ensures, ← c.line_end-n.ensures, ← c.class_end-m.ensures, ← c.part.ensures, ← c.part-2.ensures)
    (behind _ _ _ (behind _ _ _ (behind _ _ _ c.put_numbers-p.ensures c.put_bindings-b.ensures) c.put_restriction-q.ensures) c.put_byte.ensures)
