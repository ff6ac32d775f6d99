use Prim.Native.Nat.{◌+◌, ◌*◌, ◌≤◌, ◌-◌}
use mathlib.Core.Path.{◌≡◌, ap, ◌∙◌, sym}
use native.Mathlib.Omega.{arith}
use lib.ListN.{length}
use Rattle.window.specs.Twins.Sink.{puts}
use Rattle.window.proofs.SinkLaws.{onward, puts_none}
use Rattle.window.specs.Twins.TreeText.{symbol_text}
use Rattle.writer.proofs.TextTurns.{restriction_step, restriction_end}
use Rattle.writer.proofs.line.put_restriction.Goals as goal

pub loop-k-preserved : goal.loop-k-preserved
loop-k-preserved c =
    let a = c.args in
    let k = c.loop-k.k in
    let name = symbol_text a.program.now a.job.now a.symbols.now in
    let more : 2 ≤ length a.q.now - 2 * k = omega arith in
    let next : 2 * k + 2 ≡ 2 * (k + 1) = omega arith in
    let step = rw next at (restriction_step name a.q.now (2 * k) more) in
    onward _ _ _ _ _ (c.loop-k.invariant ∙ ap (puts _) step) c.put_non_equality-p.ensures

pub returns : goal.returns
returns c =
    sym (c.loop-k.invariant ∙ ap (puts _) (restriction_end _ _ (2 * c.loop-k.k) (omega arith)) ∙ puts_none _)
