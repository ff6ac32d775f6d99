use mathlib.Core.Path.{refl, ap, ◌∙◌, sym}
use Rattle.window.specs.Twins.Sink.{puts}
use Rattle.window.proofs.SinkLaws.{onward, puts_none}
use Rattle.window.proofs.TreeTurns.{repeat_start, repeat_step, repeat_end}
use Rattle.window.proofs.sink.put_repeat.Goals as goal

pub loop-init : goal.loop-init
loop-init c = (refl, ap (puts _) (repeat_start c.args.n _))

pub loop-preserved : goal.loop-preserved
loop-preserved c =
    (c.put_byte-p.auto.out ∙ c.loop.invariant.0, onward _ _ _ _ _ (c.loop.invariant.1 ∙ ap (puts _) (repeat_step c.args.n c.loop.counter _ c.loop-test.true)) c.put_byte-p.ensures)

pub shape_of-out : goal.shape_of-out
shape_of-out c = c.loop.invariant.0

pub returns : goal.returns
returns c =
    sym (c.loop.invariant.1 ∙ ap (puts _) (repeat_end c.args.n c.loop.counter _ c.loop-test.false) ∙ puts_none _)
