use mathlib.Core.Path.{refl, ap, ◌∙◌, sym}
use lib.ListN.{drop_of_length-le}
use Rattle.window.specs.Twins.Sink.{puts}
use Rattle.window.proofs.SinkLaws.{onward, puts_none}
use Rattle.window.proofs.TreeTurns.{text_step}
use Rattle.window.proofs.sink.put_text.Goals as goal

pub loop-byte-init : goal.loop-byte-init
loop-byte-init c = (refl, refl)

pub loop-byte-preserved : goal.loop-byte-preserved
loop-byte-preserved c =
    let text = c.args.text.now in
    let h = c.loop-byte-test.true in
    (c.put_byte-p.auto.out ∙ c.loop-byte.invariant.0, onward _ _ _ _ _ (c.loop-byte.invariant.1 ∙ ap (puts _) (text_step text c.loop-byte.byte-index h)) c.put_byte-p.ensures)

pub shape_of-out : goal.shape_of-out
shape_of-out c = c.loop-byte.invariant.0

pub returns : goal.returns
returns c =
    sym (c.loop-byte.invariant.1 ∙ ap (puts _) (drop_of_length-le _ c.loop-byte-test.false) ∙ puts_none _)
