use mathlib.Core.Path.{◌∙◌}
use Rattle.window.proofs.SinkLaws.{behind}
use Rattle.writer.specs.Twins.SampleText.{sample_text}
use Rattle.writer.proofs.sample.put_sample.Goals as goal

pub shape_of-out : goal.shape_of-out
shape_of-out c = c.put_text.auto.out ∙ c.put_tree-o.auto.out ∙ c.put_text-q.auto.out ∙ c.put_inputs-i.auto.out ∙ c.put_text-p.auto.out

pub returns : goal.returns
unfolding sample_text
returns c =
    rw (← c.front.ensures, ← c.rest.ensures)
    (behind _ _ _ (behind _ _ _ (behind _ _ _ (behind _ _ _ c.put_text-p.ensures c.put_inputs-i.ensures) c.put_text-q.ensures) c.put_tree-o.ensures) c.put_text.ensures)
