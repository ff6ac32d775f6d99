use Rattle.window.proofs.SinkLaws.{behind}
use Rattle.writer.specs.Twins.LineText.{binding_text}
use Rattle.writer.proofs.binding.put_bound.Goals as goal

pub returns : goal.returns
unfolding binding_text
returns c = rw (← c.part.ensures) (behind _ _ _ (behind _ _ _ c.put_byte-p.ensures c.put_leaf-q.ensures) (behind _ _ _ c.put_byte-t.ensures c.put_tree.ensures))
