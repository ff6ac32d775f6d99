use mathlib.Core.Path.{ap, ◌∙◌, sym}
use Rattle.window.specs.Twins.Sink.{puts}
use Rattle.window.proofs.SinkLaws.{onward, puts_none}
use Rattle.window.specs.Twins.TreeText.{symbol_text}
use Rattle.writer.proofs.TextTurns.{bindings_start, bindings_step, bindings_end}
use Rattle.writer.proofs.binding.put_bindings.Goals as goal

pub loop-i-init : goal.loop-i-init
loop-i-init c = ap (puts _) (bindings_start _ _ _)

pub loop-i-preserved : goal.loop-i-preserved
loop-i-preserved c =
    let a = c.args in
    let h = c.loop-i-test.true in
    let name = symbol_text a.program.now a.job.now a.symbols.now in
    let step = bindings_step name a.io.now a.line.now c.loop-i.i c.loop-i.k h in
    onward _ _ _ _ _ (c.loop-i.invariant ∙ ap (puts _) (rw (← c.past-end.ensures) at step)) c.put_binding-p.ensures

pub returns : goal.returns
returns c =
    sym (c.loop-i.invariant ∙ ap (puts _) (bindings_end _ _ _ c.loop-i.i c.loop-i.k c.loop-i-test.false) ∙ puts_none _)
