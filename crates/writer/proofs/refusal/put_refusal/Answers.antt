use mathlib.Core.Path.{ap, ◌∙◌}
use Rattle.window.specs.Twins.Sink.{puts}
use Rattle.window.proofs.SinkLaws.{behind}
use Rattle.writer.proofs.TextTurns.{refusal_text_lem}
use Rattle.writer.proofs.refusal.put_refusal.Goals as goal

pub returns : goal.returns
returns c =
    let a = c.args in
    let e = behind _ _ _ (behind _ _ _ (behind _ _ _ (behind _ _ _ c.put_text-p.ensures c.put_byte-l.ensures) c.put_byte-b.ensures) c.put_numbers-n.ensures) c.put_byte.ensures in
    e ∙ ap (puts _) (refusal_text_lem a.letter a.number a.offset)
