use Rattle.writer.proofs.TextTurns.{filled_line_lem}
use Rattle.writer.proofs.sample.fill_line.Goals as goal

pub returns : goal.returns
returns c = let a = c.args in filled_line_lem a.line.now a.cells.now _ _ _ _ _ c.class_end.ensures c.part-class.ensures c.min-n.ensures c.copy.ensures.1 c.fill_sample.ensures
