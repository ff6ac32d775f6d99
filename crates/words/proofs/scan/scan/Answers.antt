use Rattle.std.proofs.Common.{sym, ◌∙◌}
use Rattle.words.proofs.CuttingLaws.{scan_on, scan_stop, scan_past}
use Rattle.words.proofs.scan.scan.Goals as goal

pub returns-then-not-passes : goal.returns-then-not-passes
returns-then-not-passes g c =
    λ f h. sym (c.loop-i.invariant.1 f h ∙ scan_stop f c.args.text.now c.loop-i.i c.loop-i-test.true (sym (h _ _ c.passes.ensures) ∙ c.if-not-passes.true))

pub loop-i-preserved : goal.loop-i-preserved
loop-i-preserved g c =
    (c.loop-i.invariant.0, λ f h. c.loop-i.invariant.1 f h ∙ scan_on f c.args.text.now c.loop-i.i c.loop-i-test.true (sym (h _ _ c.passes.ensures) ∙ c.if-not-passes.false))

pub returns : goal.returns
returns g c =
    λ f h. c.max.ensures ∙ scan_past f c.args.text.now c.args.from c.loop-i.i (c.loop-i.invariant.1 f h) c.loop-i.auto.i-end c.loop-i-test.false
