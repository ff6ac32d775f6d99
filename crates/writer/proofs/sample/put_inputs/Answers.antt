use mathlib.Core.Path.{ap, ◌∙◌, sym as inv}
use native.Mathlib.Omega.{arith}
use Rattle.window.specs.Twins.Sink.{puts}
use Rattle.window.specs.Twins.TreeText.{symbol_text, tree_text}
use Rattle.window.proofs.SinkLaws.{behind, onward, puts_none}
use Rattle.writer.proofs.TextTurns.{tree_further, inputs_start, inputs_step, inputs_end}
use Rattle.writer.proofs.sample.put_inputs.Goals as goal

pub loop-at-init : goal.loop-at-init
loop-at-init c = ap (puts _) (inputs_start _ _)

pub loop-at-smaller : goal.loop-at-smaller
loop-at-smaller c =
    let a = c.args in
    let h = c.loop-at-test.true in
    let e = c.tree_end-end.ensures in
    let f = tree_further a.inputs.now c.loop-at.at h in
    omega (arith, h, e, f)

pub loop-at-preserved : goal.loop-at-preserved
loop-at-preserved c =
    let a = c.args in
    let name = symbol_text a.program.now a.job.now a.symbols.now in
    onward _ _ _ _ _ (c.loop-at.invariant ∙ ap (puts _) (inputs_step name a.inputs.now c.loop-at.at _ c.tree_end-end.ensures c.loop-at-test.true))
    (behind _ _ _ c.put_byte-b.ensures (c.put_tree-p.ensures ∙ ap (puts _) (ap (tree_text name) c.part.ensures)))

pub returns : goal.returns
returns c =
    inv (c.loop-at.invariant ∙ ap (puts _) (inputs_end _ _ c.loop-at.at c.loop-at-test.false) ∙ puts_none _)
