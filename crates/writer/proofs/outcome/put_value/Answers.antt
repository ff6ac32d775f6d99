use Rattle.window.proofs.SinkLaws.{behind}
use Rattle.writer.specs.Twins.OutcomeText.{value_text}
use Rattle.writer.proofs.outcome.put_value.Goals as goal

pub returns : goal.returns
unfolding value_text
returns c = behind _ _ _ (behind _ _ _ (behind _ _ _ c.put_text-p.ensures c.put_digits-s.ensures) (behind _ _ _ c.put_byte-b.ensures c.put_tree-v.ensures)) c.put_byte.ensures
