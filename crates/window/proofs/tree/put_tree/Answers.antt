use mathlib.Core.Path.{refl, ap, ◌∙◌, sym}
use Rattle.window.specs.Twins.Sink.{puts}
use Rattle.window.proofs.SinkLaws.{behind, onward, puts_none}
use Rattle.window.specs.Twins.TreeText.{symbol_text}
use Rattle.window.proofs.TreeTurns.{tree_start, tree_pair, tree_leaf, tree_end_lem}
use Rattle.window.proofs.tree.put_tree.Goals as goal

pub loop-i-init : goal.loop-i-init
loop-i-init c = (refl, ap (puts _) (tree_start _ _))

pub loop-i-preserved-then-c-eq-PAIR : goal.loop-i-preserved-then-c-eq-PAIR
loop-i-preserved-then-c-eq-PAIR c =
    let a = c.args in
    let h = c.loop-i-test.true in
    let name = symbol_text a.program.now a.job.now a.symbols.now in
    (c.put_text-p.auto.out ∙ c.loop-i.invariant.0, onward _ _ _ _ _ (c.loop-i.invariant.1 ∙ ap (puts _) (tree_pair name a.cells.now c.loop-i.i h c.if-c-eq-PAIR.true)) c.put_text-p.ensures)

pub loop-i-preserved : goal.loop-i-preserved
loop-i-preserved c =
    let a = c.args in
    let h = c.loop-i-test.true in
    let name = symbol_text a.program.now a.job.now a.symbols.now in (
      c.put_behind-p.auto.out ∙ c.put_leaf-q.auto.out ∙ c.loop-i.invariant.0,
      onward _ _ _ _ _ (c.loop-i.invariant.1 ∙ ap (puts _) (tree_leaf name a.cells.now c.loop-i.i h c.if-c-eq-PAIR.false)) (behind _ _ _ c.put_leaf-q.ensures c.put_behind-p.ensures),
    )

pub shape_of-out : goal.shape_of-out
shape_of-out c = c.loop-i.invariant.0

pub returns : goal.returns
returns c =
    sym (c.loop-i.invariant.1 ∙ ap (puts _) (tree_end_lem _ _ c.loop-i.i c.loop-i-test.false) ∙ puts_none _)
